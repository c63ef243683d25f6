-- `requests::taking::maximum` meets its contract: the law `taken_low` at bits 9..0.
-- Assumes nothing.
use Rattle.objects.proofs.Taking.{taken_low}
use Rattle.requests.proofs.taking.maximum.Goals as goal

pub returns : goal.returns
returns c = taken_low c.args.word 9
