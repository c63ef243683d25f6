-- `objects::decoding::variable` meets its contract: the law `taken` at each bit place.
-- Assumes nothing.
use Rattle.objects.proofs.Taking.{taken, taken_low}
use Rattle.objects.proofs.decoding.variable.Goals as goal

pub returns : goal.returns
returns c =
    let w = c.args.w in
    cc (taken w 29 20, taken w 19 10, taken_low w 9)
