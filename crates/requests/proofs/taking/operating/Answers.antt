-- `requests::taking::operating` meets its contract: the law `taken` at bits 19..10.
-- Assumes nothing.
use Rattle.objects.proofs.Taking.{taken}
use Rattle.requests.proofs.taking.operating.Goals as goal

pub returns : goal.returns
returns c = taken c.args.word 19 10
