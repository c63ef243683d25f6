-- `requests::taking::current` meets its contract: the law `taken_low` at bits 6..0.
-- Assumes nothing.
use Rattle.objects.proofs.Taking.{taken_low}
use Rattle.requests.proofs.taking.current.Goals as goal

pub returns : goal.returns
returns c = cc (taken_low c.args.word 6)
