-- `requests::taking::position` meets its contract: the law `taken` at bits 31..28.
-- Assumes nothing.
use Rattle.objects.proofs.Taking.{taken}
use Rattle.requests.proofs.taking.position.Goals as goal

pub returns : goal.returns
returns c = taken c.args.word 31 28
