-- Whether some word of a list has a figure above its ceiling, and what is answered then.
-- Assumes nothing.
use Rattle.std.specs.List.{list_any}
use mathlib.Core.Path.{◌≡◌, refl, sym, ap, ◌∙◌}
use mathlib.Core.Bool.{Bool, true, false, cond, ◌||◌}
use mathlib.Core.List.{List, [], ◌∷◌}
use Prim.Native.Nat.{ℕ, zero, suc, ◌≤◌}
use lib.ListN.{length, take}
use Rattle.std.proofs.lemmas.List.{get_or-take, length-take-le}
use Rattle.verdicts.specs.Refusals.{Refusal, refusal, each_place, first_of}
use Rattle.verdicts.proofs.First.{onward, same_places}
use Rattle.sinks.specs.Rating.{word_above, ceiling_rows}

module _ {A : Type 0} (refused : ℕ → ℕ → A) where
  -- the rows of the first place stand before those of the others
  first_before : (rows : ℕ → List Refusal) (n : ℕ) (x : A)
      → first_of refused (each_place rows (suc n)) x ≡ first_of refused (rows 0) (first_of refused (each_place (λ k. rows (suc k)) n) x)
  unfolding first_of each_place
  first_before rows zero x = refl
  first_before rows (suc n) x =
      onward refused x (each_place rows (suc n)) (rows (suc n))
      ∙ first_before rows n (first_of refused (rows (suc n)) x)
      ∙ ap (first_of refused (rows 0)) (sym (onward refused x (each_place (λ k. rows (suc k)) n) (rows (suc n))))

  one_row : (b : Bool) (x : A) → first_of refused (refusal b 43 0 ∷ []) x ≡ cond b (refused 43 0) x
  unfolding first_of
  one_row true x = refl
  one_row false x = refl

  either : (b c : Bool) (x y : A) → cond b x (cond c x y) ≡ cond (b || c) x y
  either true c x y = refl
  either false c x y = refl

  pub by_any : (rating : ℕ) (ws : List ℕ) (x : A)
      → first_of refused (each_place (ceiling_rows rating ws) (length ws)) x ≡ cond (list_any (word_above rating) ws) (refused 43 0) x
  unfolding first_of each_place
  by_any rating [] x = refl
  by_any rating (w ∷ ws) x =
      first_before (ceiling_rows rating (w ∷ ws)) (length ws) x
      ∙ one_row (word_above rating w) (first_of refused (each_place (ceiling_rows rating ws) (length ws)) x)
      ∙ ap (cond (word_above rating w) (refused 43 0)) (by_any rating ws x)
      ∙ either (word_above rating w) (list_any (word_above rating) ws) (refused 43 0) x

-- the words that count
pub of_those : (rating : ℕ) (ws : List ℕ) (n : ℕ) → n ≤ length ws
    → each_place (ceiling_rows rating (take n ws)) (length (take n ws)) ≡ each_place (ceiling_rows rating ws) n
of_those rating ws n h =
    ap (each_place (ceiling_rows rating (take n ws))) (length-take-le n ws h)
    ∙ same_places (ceiling_rows rating (take n ws)) (ceiling_rows rating ws) n
    (λ k l. ap (λ (w : ℕ). refusal (word_above rating w) 43 0 ∷ []) (get_or-take n ws k 0 l))
