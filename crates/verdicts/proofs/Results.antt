-- Laws of results that tell a refusal, over any table of rows: what `?` learns where it goes on, and what it hands on where it stops.
-- Assumes nothing.
use Rattle.std.specs.Prelude.{Result, Ok, Err, is_ok}
use mathlib.Core.Path.{◌≡◌, refl, sym, ap, ◌∙◌}
use mathlib.Core.Bool.{Bool, true, false, cond, true≢false}
use mathlib.Core.List.{List, [], ◌∷◌}
use Prim.Native.Nat.{ℕ}
use lib.Dec.{eqb}
use borrow.Author.Tests.{eqb-true, eq-eqb}
use Rattle.verdicts.specs.declared.Verdict.{Verdict}
use Rattle.verdicts.specs.Refusals.{Refusal, refusal, first_of, err, passed_by, passed_of, told, verdict, verdict_of, NoneApply}
use Rattle.verdicts.proofs.First.{onto, Telling, all_missed}

-- what an error holds, and what a success does; of the other kind this default
abbrev error_in : {A E : Type 0} → E → Result A E → E
error_in d (Ok x) = d
error_in d (Err e) = e

abbrev value_in : {A E : Type 0} → A → Result A E → A
value_in d (Ok x) = x
value_in d (Err e) = d

ok_not_err : {A E : Type 0} {x : A} {e : E} → Ok x ≡ Err e → ⊥
ok_not_err q = true≢false (ap is_ok q)

-- ---- of one verdict

module _ (v : Verdict) where
  by_number : (b : Bool) → eqb v.number 0 ≡ b → passed_of v ≡ cond b (Ok tt) (Err v)
  by_number b q = ap (λ (t : Bool). cond t (Ok tt) (Err v)) q

  -- it went on: the number is that of success
  pub went_on : {u : Unit {0}} → passed_of v ≡ Ok u → v.number ≡ 0
  went_on {u} e = go (eqb v.number 0) refl where
    go : (b : Bool) → eqb v.number 0 ≡ b → v.number ≡ 0
    go true q = eqb-true v.number 0 q
    go false q = absurd (ok_not_err (sym e ∙ by_number false q))

  -- it stopped: the number is that of a refusal, and the verdict is handed on as it is
  pub stopped_not_0 : {e : Verdict} → passed_of v ≡ Err e → v.number ≡ 0 → ⊥
  stopped_not_0 q z = ok_not_err (sym (by_number true (eq-eqb v.number 0 z)) ∙ q)

  pub stopped_as : {e : Verdict} → passed_of v ≡ Err e → e ≡ v
  stopped_as {e} q = go (eqb v.number 0) refl where
    go : (b : Bool) → eqb v.number 0 ≡ b → e ≡ v
    go true t = absurd (ok_not_err (sym (by_number true t) ∙ q))
    go false t = sym (ap (error_in v) (sym (by_number false t) ∙ q))

-- ---- of a table

-- the verdict that a result tells is that of the table
pub told_by : (rs : List Refusal) → told (passed_by rs) ≡ verdict_of rs
told_by rs = onto told err rs (Ok tt)

-- and where every row that applies has a number, the verdict of a table gives the result back
pub passed_first : (rs : List Refusal) → Telling rs → passed_of (verdict_of rs) ≡ passed_by rs
unfolding first_of
passed_first [] t = refl
passed_first (refusal true n p ∷ rs) t = go (eqb n 0) refl where
  go : (b : Bool) → eqb n 0 ≡ b → passed_of (verdict n p) ≡ Err (verdict n p)
  go true q = absurd (true≢false (t.0 (eqb-true n 0 q)))
  go false q = by_number (verdict n p) false q
passed_first (refusal false n p ∷ rs) t = passed_first rs t.1

module _ {A : Type 0} (a : A) where
  -- it went on: no row applies, and the value is the one that was meant
  pub none_applied : (rs : List Refusal) {b : A} → first_of err rs (Ok a) ≡ Ok b → NoneApply rs
  unfolding first_of
  none_applied [] q = tt
  none_applied (refusal true n p ∷ rs) q = absurd (ok_not_err (sym q))
  none_applied (refusal false n p ∷ rs) q = (refl, none_applied rs q)

  pub value_meant : (rs : List Refusal) {b : A} → first_of err rs (Ok a) ≡ Ok b → b ≡ a
  value_meant rs q = sym (ap (value_in a) (sym (all_missed err (Ok a) rs (none_applied rs q)) ∙ q))

  -- it stopped: whatever the refusals of the table make, it is that of the error, whatever comes behind
  pub refused_as : (rs : List Refusal) {e : Verdict} → first_of err rs (Ok a) ≡ Err e
      → {B : Type 0} (refused : ℕ → ℕ → B) (answer : B) → first_of refused rs answer ≡ refused e.number e.place
  unfolding first_of
  refused_as [] q refused answer = absurd (ok_not_err q)
  refused_as (refusal true n p ∷ rs) q refused answer =
      ap (λ (v : Verdict). refused v.number v.place) (ap (error_in (verdict n p)) q)
  refused_as (refusal false n p ∷ rs) q refused answer = refused_as rs q refused answer

  -- and its number is that of a refusal
  pub refused_not_0 : (rs : List Refusal) → Telling rs → {e : Verdict} → first_of err rs (Ok a) ≡ Err e → e.number ≡ 0 → ⊥
  unfolding first_of
  refused_not_0 [] t q z = absurd (ok_not_err q)
  refused_not_0 (refusal true n p ∷ rs) t {e} q z =
      true≢false (t.0 (ap (λ (v : Verdict). v.number) (ap (error_in (verdict n p)) q) ∙ z))
  refused_not_0 (refusal false n p ∷ rs) t q z = refused_not_0 rs t.1 q z
