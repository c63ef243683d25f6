-- The places past the count have no text, so those that count are all.
-- Assumes nothing.
use mathlib.Core.Path.{◌≡◌, refl, ap, ap₂, sym, ◌∙◌}
use mathlib.Core.Bool.{Bool, true, false}
use mathlib.Core.List.{List, [], ◌∷◌, ◌++◌, append-nil}
use Prim.Native.Nat.{ℕ, zero, suc, ◌+◌, ◌-◌, ◌≤◌, ◌<◌, min}
use native.Mathlib.Nat.{zero-add, suc-add, min-eq_left, min-eq_right}
use native.Mathlib.Omega.{arith}
use native.Mathlib.Numerals.{add-one}
use lib.Dec.{ltb}
use lib.ListN.{get_or}
use borrow.Author.Tests.{ltb-true, ltb-false, lt-ltb, le-ltb}
use Rattle.lines.specs.Text.{hex_word, place_text, places_text}

module _ (words : List ℕ) (count : ℕ) where
  no_text : (i : ℕ) → count ≤ i → place_text words count i ≡ []
  no_text i h = simp (le-ltb _ _ h)

  pub one_more : (i : ℕ) → i < count → places_text words count i ++ (32 ∷ hex_word (get_or words i 0)) ≡ places_text words count (i + 1)
  one_more i h = rw add-one (simp (lt-ltb _ _ h) refl)

  past : (k : ℕ) → places_text words count (k + count) ≡ places_text words count count
  past zero = ap (places_text words count) (zero-add count)
  past (suc k) =
      ap (places_text words count) (suc-add k count)
      ∙ ap₂ (λ (x y : List ℕ). x ++ y) (past k) (no_text (k + count) (omega arith))
      ∙ append-nil (places_text words count count)

  either : (b : Bool) → ltb count 7 ≡ b → places_text words count (min count 7) ≡ places_text words count 7
  either true e =
      let below : count ≤ 7 = omega (arith, ltb-true count 7 e) in
      let whole : (7 - count) + count ≡ 7 = omega (arith, below) in
      ap (places_text words count) (min-eq_left below) ∙ sym (past (7 - count)) ∙ ap (places_text words count) whole
  either false e = ap (places_text words count) (min-eq_right (ltb-false count 7 e))

  pub all_that_count : places_text words count (min count 7) ≡ places_text words count 7
  all_that_count = either (ltb count 7) refl
