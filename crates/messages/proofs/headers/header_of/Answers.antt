-- `messages::headers::header_of` meets its contract: the law `taken` at each bit place.
-- Assumes nothing.
use Rattle.objects.proofs.Taking.{taken, taken_low}
use Rattle.messages.proofs.headers.header_of.Goals as goal

pub returns : goal.returns
returns c =
    let h = c.args.half in
    cc (taken h 15 15, taken h 14 12, taken h 11 9, taken h 8 8, taken h 7 6, taken h 5 5, taken_low h 4)
