-- A table of refusals that a function has judged: its verdict decides, or the next table does. Answers that are the same where no row
-- of the table applies are the same behind it, and behind its verdict.
-- Assumes nothing.
use mathlib.Core.Path.{◌≡◌, refl, ap, sym, ◌∙◌}
use mathlib.Core.Bool.{true, false, not}
use mathlib.Core.List.{List, [], ◌∷◌, ◌++◌}
use Prim.Native.Nat.{ℕ}
use lib.Dec.{eqb}
use borrow.Author.Tests.{ne_eqb}
use Rattle.verdicts.specs.declared.Verdict.{Verdict}
use Rattle.verdicts.specs.Refusals.{Refusal, refusal, first_of, verdict_of, NoneApply}
use Rattle.verdicts.proofs.First.{none_applied, numbered, number_not_0, numbered_rest, stops, goes_on_lem}

abbrev number : Verdict → ℕ
number v = v.number

module _ (xs : List Refusal) (v : Verdict) (e : v ≡ verdict_of xs) where
  refuses : (v.number ≡ 0 → ⊥) → (verdict_of xs).number ≡ 0 → ⊥
  refuses f z = f (ap number e ∙ z)

  pub clear : numbered xs ≡ true → v.number ≡ 0 → NoneApply xs
  clear t z = none_applied xs t (sym (ap number e) ∙ z)

  module _ {A : Type 0} (refused : ℕ → ℕ → A) (answer : A) (ys : List Refusal) where
    pub stops_at : (v.number ≡ 0 → ⊥) → first_of refused (xs ++ ys) answer ≡ refused v.number v.place
    stops_at f = stops refused xs ys answer (refuses f) ∙ ap (λ (u : Verdict). refused u.number u.place) (sym e)

    pub moves_on : numbered xs ≡ true → v.number ≡ 0 → first_of refused (xs ++ ys) answer ≡ first_of refused ys answer
    moves_on t z = goes_on_lem refused xs ys answer t (sym (ap number e) ∙ z)

-- ---- behind a table

module _ {A : Type 0} (refused : ℕ → ℕ → A) where
  pub same_behind : (rs : List Refusal) (a b : A) → (NoneApply rs → a ≡ b) → first_of refused rs a ≡ first_of refused rs b
  unfolding first_of
  same_behind [] a b e = e tt
  same_behind (refusal true n p ∷ rs) a b e = refl
  same_behind (refusal false n p ∷ rs) a b e = same_behind rs a b (λ x. e (refl, x))

  -- the verdict of a table stands for it
  pub verdict_stands : (rs : List Refusal) → numbered rs ≡ true → (answer : A)
      → first_of refused (refusal (not (eqb (verdict_of rs).number 0)) (verdict_of rs).number (verdict_of rs).place ∷ []) answer
      ≡ first_of refused rs answer
  unfolding first_of
  verdict_stands [] t answer = refl
  verdict_stands (refusal true n p ∷ rs) t answer = rw (ne_eqb n 0 (number_not_0 n rs t)) refl
  verdict_stands (refusal false n p ∷ rs) t answer = verdict_stands rs (numbered_rest n rs t) answer
