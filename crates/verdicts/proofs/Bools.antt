-- Small laws of tests, for proofs that follow a row of early returns.
-- Assumes nothing.
use mathlib.Core.Path.{◌≡◌, refl}
use mathlib.Core.Bool.{Bool, true, false, not, ◌&&◌, ◌||◌}
use borrow.Author.Tests.{not-true, not-false}

-- the first of two demands fails
pub not_first : (a b : Bool) → not a ≡ true → not (a && b) ≡ true
not_first a b e = rw (not-true a e)

-- the first of two demands is met, so the second decides
pub not_second : (a b : Bool) → not a ≡ false → not (a && b) ≡ not b
not_second a b e = rw (not-false a e)

-- neither of two holds
pub either_false : (a b : Bool) → (a || b) ≡ false → (a ≡ false) × (b ≡ false)
either_false true b e = let z : true ≡ false = e in ((cc), (cc))
either_false false b e = (refl, e)
