-- Whether an AVS object matches its fixed objects: the cases that the code tells apart.
-- Assumes nothing.
use mathlib.Core.Path.{◌≡◌}
use mathlib.Core.Bool.{true, false}
use mathlib.Core.List.{List}
use Prim.Native.Nat.{ℕ}
use borrow.Author.Tests.{eq-eqb, ne_eqb}
use Rattle.steps.specs.declared.Ma10.{Ma10}
use Rattle.lists.specs.Shape.{has_fixed, avs_matches}

module _ (ws : List ℕ) (n : ℕ) (low high : Ma10) where
  pub no_15_V : has_fixed ws n 15000 low ≡ false → avs_matches ws n low high ≡ false
  no_15_V e = rw e

  pub ends_at_15_V : has_fixed ws n 15000 low ≡ true → high.0 ≡ 0 → avs_matches ws n low high ≡ true
  ends_at_15_V e z = rw (e, eq-eqb high.0 0 z)

  pub by_20_V : has_fixed ws n 15000 low ≡ true → (high.0 ≡ 0 → ⊥) → avs_matches ws n low high ≡ has_fixed ws n 20000 high
  by_20_V e z = rw (e, ne_eqb high.0 0 z)
