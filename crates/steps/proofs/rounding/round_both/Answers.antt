-- `steps::rounding::round_both` meets its contract: the quotient, and one more where something is left, which is no more than the numerator.
-- Assumes nothing.
use mathlib.Core.Path.{◌≡◌}
use Prim.Native.Nat.{ℕ, ◌+◌, ◌/◌, ◌<◌}
use native.Mathlib.Omega.{arith}
use Rattle.steps.specs.declared.Roundings.{Roundings}
use Rattle.steps.specs.Rounding.{down_of, up_of, both_of}
use Rattle.steps.proofs.RoundingLaws.{down_none, up_none, down_is, up_nothing_left, up_something_left}
use Rattle.steps.proofs.rounding.round_both.Goals as goal
use Rattle.steps.proofs.rounding.round_both.Goals.{Else-divisor-eq0, Else-remainder-eq0}

together : (q d : ℕ) (r : Roundings) → down_of q d ≡ r.down → up_of q d ≡ r.up → r ≡ both_of q d
together q d r e f = rw (e, f)

pub returns-then-divisor-eq0 : goal.returns-then-divisor-eq0
returns-then-divisor-eq0 c = together _ _ _ (down_none _ _ c.if-divisor-eq0.true) (up_none _ _ c.if-divisor-eq0.true)

pos : (c : Else-divisor-eq0) → 0 < c.args.divisor
pos c = omega (arith, c.if-divisor-eq0.false)

pub returns-then-remainder-eq0 : goal.returns-then-remainder-eq0
returns-then-remainder-eq0 c = together _ _ _ (down_is _ _ (pos c.before)) (up_nothing_left _ _ (pos c.before) c.if-remainder-eq0.true)

one_more : (c : Else-remainder-eq0) → up_of c.args.numerator c.args.divisor ≡ c.args.numerator / c.args.divisor + 1
one_more c = up_something_left _ _ (pos c.before) c.if-remainder-eq0.false

pub returns : goal.returns
returns c = together _ _ _ (down_is _ _ (pos c.before)) (one_more c)
