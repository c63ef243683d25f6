-- `steps::rounding::round_down` meets its contract.
-- Assumes nothing.
use mathlib.Core.Path.{sym}
use native.Mathlib.Omega.{arith}
use Rattle.steps.proofs.RoundingLaws.{down_none, down_is}
use Rattle.steps.proofs.rounding.round_down.Goals as goal

pub returns-then-divisor-eq0 : goal.returns-then-divisor-eq0
returns-then-divisor-eq0 c = sym (down_none _ _ c.if-divisor-eq0.true)

pub returns-else-divisor-eq0 : goal.returns-else-divisor-eq0
returns-else-divisor-eq0 c = sym (down_is _ _ (omega (arith, c.if-divisor-eq0.false)))
