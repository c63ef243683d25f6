-- Seven places that are filled one after the other.
-- Assumes nothing.
use mathlib.Core.Path.{◌≡◌, refl, ap, ◌∙◌}
use mathlib.Core.Bool.{Bool, cond, true, false}
use Prim.Native.Nat.{ℕ, zero, suc, ◌+◌, ◌≤◌, ◌<◌}
use native.Mathlib.Omega.{arith}
use lib.ListN.{length, get_or, set, replicate}
use lib.Dec.{ltb}
use borrow.Author.Tests.{lt-ltb, le-ltb, ltb-true}
use Rattle.lists.specs.Seven.{place_to, seven_to}

module _ {A : Type 0} (f : ℕ → A) (blank : A) where
  pub none_filled : replicate 7 blank ≡ seven_to f blank 0
  unfolding seven_to
  none_filled = refl

  pub one_filled : (i : ℕ) → i < 7 → set (seven_to f blank i) i (f i) ≡ seven_to f blank (i + 1)
  unfolding seven_to
  one_filled zero h = refl
  one_filled (suc zero) h = refl
  one_filled (suc (suc zero)) h = refl
  one_filled (suc (suc (suc zero))) h = refl
  one_filled (suc (suc (suc (suc zero)))) h = refl
  one_filled (suc (suc (suc (suc (suc zero))))) h = refl
  one_filled (suc (suc (suc (suc (suc (suc zero)))))) h = refl
  one_filled (suc (suc (suc (suc (suc (suc (suc i))))))) h = absurd (omega arith)

  -- a place that stays blank
  pub one_blank : (i : ℕ) → i < 7 → f i ≡ blank → seven_to f blank i ≡ seven_to f blank (i + 1)
  unfolding seven_to
  one_blank zero h e = rw e
  one_blank (suc zero) h e = rw e
  one_blank (suc (suc zero)) h e = rw e
  one_blank (suc (suc (suc zero))) h e = rw e
  one_blank (suc (suc (suc (suc zero)))) h e = rw e
  one_blank (suc (suc (suc (suc (suc zero))))) h e = rw e
  one_blank (suc (suc (suc (suc (suc (suc zero)))))) h e = rw e
  one_blank (suc (suc (suc (suc (suc (suc (suc i))))))) h e = absurd (omega arith)

  -- what stands at a place, whatever would stand past the seven
  at_place : (other : A) (n k : ℕ) → k < 7 → get_or (seven_to f blank n) k other ≡ place_to f blank n k
  unfolding seven_to
  at_place other n zero h = refl
  at_place other n (suc zero) h = refl
  at_place other n (suc (suc zero)) h = refl
  at_place other n (suc (suc (suc zero))) h = refl
  at_place other n (suc (suc (suc (suc zero)))) h = refl
  at_place other n (suc (suc (suc (suc (suc zero))))) h = refl
  at_place other n (suc (suc (suc (suc (suc (suc zero)))))) h = refl
  at_place other n (suc (suc (suc (suc (suc (suc (suc i))))))) h = absurd (omega arith)

  -- .. where it is filled
  pub at_filled : (other : A) (n k : ℕ) → n ≤ 7 → k < n → get_or (seven_to f blank n) k other ≡ f k
  at_filled other n k h l = at_place other n k (omega arith) ∙ ap (λ b. cond b (f k) blank) (lt-ltb k n l)

  pub filled_at : (n k : ℕ) → n ≤ 7 → k < n → get_or (seven_to f blank n) k blank ≡ f k
  filled_at = at_filled blank

  blank_at : (n k : ℕ) → n ≤ k → place_to f blank n k ≡ blank
  blank_at n k h = ap (λ b. cond b (f k) blank) (le-ltb k n h)

  -- .. and where it is not
  pub at_blank : (other : A) (n k : ℕ) → n ≤ k → k < 7 → get_or (seven_to f blank n) k other ≡ blank
  at_blank other n k h l = at_place other n k l ∙ blank_at n k h

  pub seven_long : (n : ℕ) → length (seven_to f blank n) ≡ 7
  unfolding seven_to
  seven_long n = refl

  -- past the filled ones, and past the seven too
  pub past_filled : (n k : ℕ) → n ≤ k → get_or (seven_to f blank n) k blank ≡ blank
  unfolding seven_to
  past_filled n zero h = blank_at n 0 h
  past_filled n (suc zero) h = blank_at n 1 h
  past_filled n (suc (suc zero)) h = blank_at n 2 h
  past_filled n (suc (suc (suc zero))) h = blank_at n 3 h
  past_filled n (suc (suc (suc (suc zero)))) h = blank_at n 4 h
  past_filled n (suc (suc (suc (suc (suc zero))))) h = blank_at n 5 h
  past_filled n (suc (suc (suc (suc (suc (suc zero)))))) h = blank_at n 6 h
  past_filled n (suc (suc (suc (suc (suc (suc (suc i))))))) h = refl

-- places that agree up to the count are the same seven
pub same_seven : {A : Type 0} (f g : ℕ → A) (blank : A) (n : ℕ) → ((k : ℕ) → k < n → f k ≡ g k) → seven_to f blank n ≡ seven_to g blank n
unfolding seven_to
same_seven f g blank n e = rw (one 0, one 1, one 2, one 3, one 4, one 5, one 6) where
  one : (k : ℕ) → place_to f blank n k ≡ place_to g blank n k
  one k = go (ltb k n) refl where
    go : (b : Bool) → ltb k n ≡ b → cond b (f k) blank ≡ cond b (g k) blank
    go true q = e k (ltb-true k n q)
    go false q = refl
