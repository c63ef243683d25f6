-- `objects::decoding::fixed` meets its contract: the law `taken` at each bit place.
-- Assumes nothing.
use Rattle.objects.proofs.Taking.{taken, taken_low}
use Rattle.objects.proofs.decoding.fixed.Goals as goal

pub returns : goal.returns
returns c =
    let w = c.args.w in
    cc (taken w 29 23, taken w 21 20, taken w 19 10, taken_low w 9)
