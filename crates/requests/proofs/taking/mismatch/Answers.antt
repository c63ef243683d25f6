-- `requests::taking::mismatch` meets its contract: the law `taken` at bit 26.
-- Assumes nothing.
use mathlib.Core.Path.{ap}
use Prim.Native.Nat.{ℕ}
use Rattle.objects.proofs.Taking.{taken}
use mathlib.Core.Bool.{not}
use lib.Dec.{eqb}
use Rattle.requests.proofs.taking.mismatch.Goals as goal

pub returns : goal.returns
returns c = ap (λ (n : ℕ). not (eqb n 0)) (taken c.args.word 26 26)
