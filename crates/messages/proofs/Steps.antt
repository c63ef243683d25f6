-- What `?` says of two tables in turn, where the call that it ends gives the first refusal of the one.
-- Assumes nothing.
use Rattle.std.specs.Prelude.{Ok, Err}
use mathlib.Core.Path.{◌≡◌, sym, ◌∙◌}
use mathlib.Core.List.{List, ◌++◌}
use Prim.Native.Nat.{ℕ}
use Rattle.verdicts.specs.declared.Verdict.{Verdict}
use Rattle.verdicts.specs.Refusals.{Refusal, first_of, err}
use Rattle.verdicts.proofs.First.{all_missed, onward}
use Rattle.verdicts.proofs.Results.{none_applied, refused_as}

module _ {A : Type 0} (a : A) where
  -- it stopped: so does any answer over this table
  pub stops_at : (rs : List Refusal) {v : Verdict} → Err v ≡ first_of err rs (Ok a)
      → {B : Type 0} (refused : ℕ → ℕ → B) (answer : B) → first_of refused rs answer ≡ refused v.number v.place
  stops_at rs e refused answer = refused_as a rs (sym e) refused answer

  -- it went on: no row of this table applies
  pub goes_past : (rs : List Refusal) {b : A} → Ok b ≡ first_of err rs (Ok a)
      → {B : Type 0} (refused : ℕ → ℕ → B) (answer : B) → first_of refused rs answer ≡ answer
  goes_past rs e refused answer = all_missed refused answer rs (none_applied a rs (sym e))

  -- the same where another table follows
  pub stops_before : (xs ys : List Refusal) {v : Verdict} → Err v ≡ first_of err xs (Ok a)
      → {B : Type 0} (refused : ℕ → ℕ → B) (answer : B) → first_of refused (xs ++ ys) answer ≡ refused v.number v.place
  stops_before xs ys e refused answer = onward refused answer xs ys ∙ stops_at xs e refused (first_of refused ys answer)

  pub goes_on : (xs ys : List Refusal) {b : A} → Ok b ≡ first_of err xs (Ok a)
      → {B : Type 0} (refused : ℕ → ℕ → B) (answer : B) → first_of refused (xs ++ ys) answer ≡ first_of refused ys answer
  goes_on xs ys e refused answer = onward refused answer xs ys ∙ goes_past xs e refused (first_of refused ys answer)
