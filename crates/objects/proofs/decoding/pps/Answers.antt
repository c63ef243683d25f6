-- `objects::decoding::pps` meets its contract: the law `taken` at each bit place.
-- Assumes nothing.
use Rattle.objects.proofs.Taking.{taken, taken_low}
use Rattle.objects.proofs.decoding.pps.Goals as goal

pub returns : goal.returns
returns c =
    let w = c.args.w in
    cc (taken w 27 27, taken w 24 17, taken w 15 8, taken_low w 6)
