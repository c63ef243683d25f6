-- Rounding both ways from one division (docs/STATEMENT.md, "Steps of measure"; T-03). Each claim is proved by the theorem of its name in small
-- letters (`both_from_one` is `BothFromOne`) in proofs/Rounding.antt.
-- Assumes nothing.
use Rattle.std.specs.Prelude.{◌≡◌, ℕ, ◌+◌, ◌*◌, ◌-◌, ◌≤◌, ◌<◌}
use Rattle.steps.specs.declared.Roundings.{Roundings}
use Rattle.demands.specs.CallContracts.{RoundDownAnswers, RoundUpAnswers, RoundBothAnswers}

-- n divided by d: the quotient, what is left of n, and the quotient rounded up. How often the code divides is no part of an answer: that is
-- measured, on a board (docs/PERFORMANCE.md).
pub record OneDivision (n d : ℕ) (r : Roundings) : Type 0 where
  pub not_above : r.down * d ≤ n
  pub left : n - r.down * d < d
  pub none_left : n - r.down * d ≡ 0 → r.up ≡ r.down
  pub some_left : (n - r.down * d ≡ 0 → ⊥) → r.up ≡ r.down + 1

-- "Both follow from one division"
abbrev pub BothFromOne : Type 0
BothFromOne = (n d : ℕ) (r : Roundings) → 0 < d → RoundBothAnswers n d r → OneDivision n d r

-- and are what is given one by one, for a divisor of 0 too
abbrev pub BothAsEach : Type 0
BothAsEach =
    (n d : ℕ) (r : Roundings) (down up : ℕ) → RoundBothAnswers n d r → RoundDownAnswers n d down → RoundUpAnswers n d up
    → (r.down ≡ down) × (r.up ≡ up)
