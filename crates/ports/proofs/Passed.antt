-- What `?` learns of a table of refusals that was judged, with another table behind it: where it stops, and where it goes on. And what the
-- answer of a call says where its decision is such a result.
-- Assumes nothing.
use Rattle.std.specs.Prelude.{Result, Ok, Err}
use Rattle.std.specs.Result.{IsErrAnd}
use Rattle.std.proofs.lemmas.Result.{err_from_is_err_and}
use mathlib.Core.Path.{◌≡◌, sym, ap, ◌∙◌}
use mathlib.Core.Bool.{Bool, not}
use mathlib.Core.List.{List, [], ◌++◌}
use Prim.Native.Nat.{ℕ}
use borrow.Author.Tests.{eq-eqb, ne_eqb}
use Rattle.verdicts.specs.declared.Verdict.{Verdict}
use Rattle.verdicts.specs.Refusals.{Refusal, first_of, err, success}
use Rattle.verdicts.proofs.First.{hit, miss, onward, onto, all_missed}
use Rattle.verdicts.proofs.Results.{none_applied, value_meant, refused_as}
use Rattle.steps.specs.declared.HalfWatts.{HalfWatts}
use Rattle.ports.specs.declared.Row.{Row}
use Rattle.ports.specs.declared.Standing.{Standing}
use Rattle.ports.specs.Lending.{no_power_left, power_told}
use Rattle.ports.specs.Refusing.{not_attached}
use Rattle.ports.specs.Standing.{port_end_refusals}
use Rattle.ports.specs.Deciding.{use_end_refusals, no_change, changing, change_told}

module _ {A B : Type 0} (xs ys : List Refusal) (a : A) (b : Result B Verdict) where
  -- it stopped: the error is handed on, whatever comes behind
  pub handed_on : {e : Verdict} {r : Result B Verdict} → IsErrAnd r (λ (x : Verdict). x ≡ e) → Err e ≡ first_of err xs (Ok a)
      → r ≡ first_of err (xs ++ ys) b
  handed_on {e} {r} h q =
      let out = err_from_is_err_and r h in
      out.1 ∙ ap Err out.2 ∙ sym (onward err b xs ys ∙ refused_as a xs (sym q) err (first_of err ys b))

  -- it went on: what comes behind decides
  pub went_past : {v : A} → Ok v ≡ first_of err xs (Ok a) → first_of err (xs ++ ys) b ≡ first_of err ys b
  went_past q = onward err b xs ys ∙ all_missed err (first_of err ys b) xs (none_applied a xs (sym q))

-- and the value is the one that was meant
pub meant : {A : Type 0} (xs : List Refusal) (a : A) {v : A} → Ok v ≡ first_of err xs (Ok a) → v ≡ a
meant xs a q = value_meant a xs (sym q)

-- ---- what a call that needs an attached port says, behind what its port says

module _ (capacity : ℕ) (s : Standing) (y : Row) (port a : ℕ) {v : ℕ} (q : Ok v ≡ first_of err (port_end_refusals capacity s port) (Ok a)) where
  pub use_empty : y.cable.0 ≡ 0 → err 35 port ≡ first_of err (use_end_refusals capacity s y port) (Ok a)
  use_empty c =
      sym (went_past (port_end_refusals capacity s port) (not_attached y port) a (Ok a) q
      ∙ hit err (Ok a) 35 port [] (ap (λ (b : Bool). not (not b)) (eq-eqb y.cable.0 0 c)))

  pub use_passes : (y.cable.0 ≡ 0 → ⊥) → Ok v ≡ first_of err (use_end_refusals capacity s y port) (Ok a)
  use_passes c =
      ap Ok (meant (port_end_refusals capacity s port) a q)
      ∙ sym (went_past (port_end_refusals capacity s port) (not_attached y port) a (Ok a) q
      ∙ miss err (Ok a) 35 port [] (ap (λ (b : Bool). not (not b)) (ne_eqb y.cable.0 0 c))
      ∙ all_missed err (Ok a) [] tt)

-- ---- the answers of calls

pub change_decided : (s : Standing) (port : ℕ) (rs : List Refusal) (y : Row)
    → change_told s port (first_of err rs (Ok y)) ≡ first_of (no_change s) rs (changing port y)
change_decided s port rs y = onto (change_told s port) err rs (Ok y)

pub power_decided : (rs : List Refusal) (h : HalfWatts)
    → power_told (first_of err rs (Ok h)) ≡ first_of no_power_left rs (record { verdict = success; power = h })
power_decided rs h = onto power_told err rs (Ok h)
