-- `requests::taking::volts` meets its contract: the law `taken` at bits 20..9.
-- Assumes nothing.
use Rattle.objects.proofs.Taking.{taken}
use Rattle.requests.proofs.taking.volts.Goals as goal

pub returns : goal.returns
returns c = taken c.args.word 20 9
