-- What the order of two figures of one step says of the numbers in them.
-- Assumes nothing.
use Rattle.std.proofs.Common.{Ordering, Less, Equal, Greater}
use Rattle.std.specs.Ordering.{is_lt, nat_cmp}
use Rattle.std.proofs.lemmas.Cmp.{ranked}
use mathlib.Core.Path.{◌≡◌, refl, sym, ◌∙◌}
use mathlib.Core.Bool.{Bool, true, false, cond, true≢false}
use Prim.Native.Nat.{ℕ, ◌<◌, ◌≤◌, max}
use native.Mathlib.Omega.{arith}

module _ (a b : ℕ) where
  below_by : (o : Ordering) → o ≡ nat_cmp a b → is_lt o ≡ true → a < b
  below_by Less q e = ranked a b Less q
  below_by Equal q e = absurd (true≢false (sym e))
  below_by Greater q e = absurd (true≢false (sym e))

  from_by : (o : Ordering) → o ≡ nat_cmp a b → is_lt o ≡ false → b ≤ a
  from_by Less q e = absurd (true≢false e)
  from_by Equal q e = let same = ranked a b Equal q in omega arith
  from_by Greater q e = let more = ranked a b Greater q in omega arith

  -- a test that the code made, and its answer
  pub is_below : {t : Bool} → t ≡ is_lt (nat_cmp a b) → t ≡ true → a < b
  is_below e q = below_by (nat_cmp a b) refl (sym e ∙ q)

  pub is_from : {t : Bool} → t ≡ is_lt (nat_cmp a b) → t ≡ false → b ≤ a
  is_from e q = from_by (nat_cmp a b) refl (sym e ∙ q)

-- the larger of two figures, by the numbers in them
pub larger : {X : Type 0} (n : X → ℕ) (a b : X) → n (cond (is_lt (nat_cmp (n b) (n a))) a b) ≡ max (n a) (n b)
larger n a b = go (is_lt (nat_cmp (n b) (n a))) refl where
  go : (t : Bool) → is_lt (nat_cmp (n b) (n a)) ≡ t → n (cond t a b) ≡ max (n a) (n b)
  go true e = let h = is_below (n b) (n a) refl e in omega arith
  go false e = let h = is_from (n b) (n a) refl e in omega arith
