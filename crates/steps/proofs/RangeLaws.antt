-- Within a range or not, by the facts that a branch gives, and back.
-- Assumes nothing.
use mathlib.Core.Path.{◌≡◌, refl, ap, sym, ◌∙◌}
use mathlib.Core.Bool.{Bool, true, false, not, ◌&&◌, and-eq-true_iff}
use Prim.Native.Nat.{ℕ, ◌≤◌, ◌<◌}
use lib.Dec.{leb, ltb}
use borrow.Author.Tests.{le-leb, lt-leb, leb-true, leb-false, lt-ltb, le-ltb, not-false}
use Rattle.steps.specs.Ranges.{within}

module _ (low high n : ℕ) where
  pub too_low : n < low → not (within low high n) ≡ true
  too_low h = rw (lt-leb low n h)

  pub too_high : low ≤ n → high < n → not (within low high n) ≡ true
  too_high h k = rw (le-leb low n h, lt-leb n high k)

  -- from the low end on, the high end decides
  pub by_high_end : low ≤ n → ltb high n ≡ not (within low high n)
  by_high_end h = go (leb n high) refl ∙ sym (ap (λ (b : Bool). not (b && leb n high)) (le-leb low n h)) where
    go : (b : Bool) → leb n high ≡ b → ltb high n ≡ not (leb n high)
    go true e = le-ltb high n (leb-true n high e) ∙ sym (ap not e)
    go false e = lt-ltb high n (leb-false n high e) ∙ sym (ap not e)

  pub inside : low ≤ n → n ≤ high → not (within low high n) ≡ false
  inside h k = rw (le-leb low n h, le-leb n high k)

  pub at_least : not (within low high n) ≡ false → low ≤ n
  at_least e = leb-true low n ((and-eq-true_iff (leb low n) (leb n high)).0 (not-false (within low high n) e)).0

  pub at_most : not (within low high n) ≡ false → n ≤ high
  at_most e = leb-true n high ((and-eq-true_iff (leb low n) (leb n high)).0 (not-false (within low high n) e)).1
