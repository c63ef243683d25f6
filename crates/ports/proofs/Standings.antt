-- The one pass over the rows, at any row of it: how many rows there are, where the pass ends, which refusal it has found and what the rows
-- hold together. One law for both passes: set-up asks 31 and 4 of a row, each other call 37.
-- Assumes nothing.
use mathlib.Core.Path.{◌≡◌, refl, sym, ap, ◌∙◌, subst}
use mathlib.Core.Bool.{Bool, true, false, cond, ◌&&◌, and-eq-true_iff}
use mathlib.Core.List.{List, ◌++◌}
use mathlib.Core.Logic.{⊎_elim}
use Prim.Native.Nat.{ℕ, zero, suc, ◌+◌, ◌*◌, ◌%◌, ◌^◌, ◌≤◌, ◌<◌}
use native.Mathlib.Nat.{eq-or-lt_of_le, le_of_suc-le-suc, mod-eq_of_lt}
use native.Mathlib.Numerals.{add-one}
use native.Mathlib.Omega.{arith}
use lib.Dec.{ltb, eqb}
use lib.ListN.{length}
use borrow.Author.Tests.{ltb-true, ltb-false, eqb-true, eqb-false, not-false}
use Rattle.verdicts.specs.declared.Verdict.{Verdict}
use Rattle.verdicts.specs.Refusals.{Refusal, each_place, first_of, verdict, success, verdict_of, NoneApply}
use Rattle.verdicts.proofs.First.{none_left, none_right, none_append, all_missed, numbered, numbered_append, numbered_places, onward}
use Rattle.ports.specs.declared.Row.{Row}
use Rattle.ports.specs.declared.Standing.{Standing}
use Rattle.ports.specs.Rows.{row_of, held_at, all_held, together}
use Rattle.ports.specs.Refusing.{table_refusals, sum_fault, set_up_refusals, remaining_refusals}
use Rattle.ports.specs.Standing.{begun, standing, row_refusals, taken_row, after_rows, standing_of, goes_on, all_or_none, so_far, end_refusals}
use Rattle.ports.proofs.Sound.{held_to_200}
use Rattle.ports.proofs.Judged.{clear, stops_at, moves_on, same_behind, verdict_stands}
use Rattle.ports.proofs.Passing.{count_high}

-- ---- one row more

module _ (fresh : Bool) (s : Standing) (y : Row) (place : ℕ) where
  pub more : standing s ≡ true → taken_row fresh s y place ≡ record {
    fault = verdict_of (row_refusals fresh y place);
    count = s.count;
    held = (s.held + y.held.0) % 2 ^ 32;
  }
  unfolding taken_row
  more e = rw e refl

  pub none_more : standing s ≡ false → taken_row fresh s y place ≡ s
  unfolding taken_row
  none_more e = rw e refl

  more_count : (taken_row fresh s y place).count ≡ s.count
  more_count = go (standing s) refl where
    go : (b : Bool) → standing s ≡ b → (taken_row fresh s y place).count ≡ s.count
    go true e = ap (λ (r : Standing). r.count) (more e)
    go false e = ap (λ (r : Standing). r.count) (none_more e)

  -- the first refusal stays
  more_fault : (xs : List Refusal) → numbered xs ≡ true → s.fault ≡ verdict_of xs
      → (taken_row fresh s y place).fault ≡ verdict_of (xs ++ row_refusals fresh y place)
  more_fault xs t is = go (standing s) refl where
    go : (b : Bool) → standing s ≡ b → (taken_row fresh s y place).fault ≡ verdict_of (xs ++ row_refusals fresh y place)
    go true e =
        ap (λ (r : Standing). r.fault) (more e)
        ∙ sym (moves_on xs s.fault is verdict success (row_refusals fresh y place) t (eqb-true s.fault.number 0 e))
    go false e =
        ap (λ (r : Standing). r.fault) (none_more e)
        ∙ sym (stops_at xs s.fault is verdict success (row_refusals fresh y place) (eqb-false s.fault.number 0 e))

pub row_numbered : (fresh : Bool) (y : Row) (place : ℕ) → numbered (row_refusals fresh y place) ≡ true
row_numbered true y place = refl
row_numbered false y place = refl

module _ (fresh : Bool) (capacity : ℕ) (ys : List Row) where
  pub count_kept : (k : ℕ) → (after_rows fresh capacity ys k).count ≡ length ys
  unfolding after_rows begun
  count_kept zero = refl
  count_kept (suc k) = more_count fresh (after_rows fresh capacity ys k) (row_of ys k) (suc k) ∙ count_kept k

  -- ---- the refusals of the table and of the first k rows

  abbrev asked : ℕ → List Refusal
  asked k = row_refusals fresh (row_of ys k) (k + 1)

  abbrev judged : ℕ → List Refusal
  judged k = table_refusals capacity (length ys) ++ each_place asked k

  judged_numbered : (k : ℕ) → numbered (judged k) ≡ true
  judged_numbered k =
      numbered_append (table_refusals capacity (length ys)) (each_place asked k) refl
      (numbered_places asked (λ j. row_numbered fresh (row_of ys j) (j + 1)) k)

  -- the pass has found the first of them
  fault_is : (k : ℕ) → (after_rows fresh capacity ys k).fault ≡ verdict_of (judged k)
  unfolding after_rows begun each_place
  fault_is zero = refl
  fault_is (suc k) =
      more_fault fresh (after_rows fresh capacity ys k) (row_of ys k) (suc k) (judged k) (judged_numbered k) (fault_is k)
      ∙ ap (λ (place : ℕ). verdict_of (judged k ++ row_refusals fresh (row_of ys k) place)) (sym (add-one k))

  stands_clear : (k : ℕ) → standing (after_rows fresh capacity ys k) ≡ true → NoneApply (judged k)
  stands_clear k e =
      clear (judged k) (after_rows fresh capacity ys k).fault (fault_is k) (judged_numbered k)
      (eqb-true (after_rows fresh capacity ys k).fault.number 0 e)

  clear_stands : (k : ℕ) → NoneApply (judged k) → standing (after_rows fresh capacity ys k) ≡ true
  clear_stands k x = ap (λ (v : Verdict). eqb v.number 0) (fault_is k ∙ all_missed verdict success (judged k) x)

  -- ---- where the pass goes on, and where it ends

  pub goes_inside : (k : ℕ) → goes_on (after_rows fresh capacity ys k) k ≡ true → (k < length ys) × (length ys ≤ 8)
  unfolding goes_on
  goes_inside k e =
      let s = after_rows fresh capacity ys k in
      let h = (and-eq-true_iff (standing s) (ltb k s.count)).0 e in (
        subst (λ (n : ℕ). k < n) (count_kept k) (ltb-true k s.count h.1),
        count_high capacity ys (none_left (table_refusals capacity (length ys)) (each_place asked k) (stands_clear k h.0)),
      )

  -- a refusal stays
  stays : (k n : ℕ) → k ≤ n → standing (after_rows fresh capacity ys k) ≡ false → after_rows fresh capacity ys k ≡ after_rows fresh capacity ys n
  unfolding after_rows
  stays k zero h e = let q : k ≡ 0 = omega arith in ap (after_rows fresh capacity ys) q
  stays k (suc n) h e = ⊎_elim
      (λ q. ap (after_rows fresh capacity ys) q)
      (λ l.
      let same = stays k n (le_of_suc-le-suc l) e in
      same ∙ sym (none_more fresh (after_rows fresh capacity ys n) (row_of ys n) (suc n) (ap standing (sym same) ∙ e)))
      (eq-or-lt_of_le h)

  pub stops_for_good : (k : ℕ) → k ≤ length ys → goes_on (after_rows fresh capacity ys k) k ≡ false
      → after_rows fresh capacity ys k ≡ standing_of fresh capacity ys
  unfolding goes_on
  stops_for_good k h e = go (standing (after_rows fresh capacity ys k)) refl e where
    go : (b : Bool) → standing (after_rows fresh capacity ys k) ≡ b → (b && ltb k (after_rows fresh capacity ys k).count) ≡ false
        → after_rows fresh capacity ys k ≡ standing_of fresh capacity ys
    go true q e =
        let c = count_kept k in
        let l = ltb-false k (after_rows fresh capacity ys k).count e in
        let q : k ≡ length ys = omega (arith, h, c, l) in
        ap (after_rows fresh capacity ys) q
    go false q e = stays k (length ys) h q

  pub all_or_none_le : all_or_none (standing_of fresh capacity ys) ≤ length ys
  unfolding all_or_none
  all_or_none_le = go (standing (standing_of fresh capacity ys)) where
    go : (b : Bool) → cond b (standing_of fresh capacity ys).count 0 ≤ length ys
    go true = let c = count_kept (length ys) in omega (arith, c)
    go false = omega arith

  -- ---- at the end the first refusal so far stands for all these refusals

  so_far_lem : {A : Type 0} (refused : ℕ → ℕ → A) (answer : A)
      → first_of refused (so_far (standing_of fresh capacity ys)) answer ≡ first_of refused (judged (length ys)) answer
  so_far_lem refused answer =
      ap (λ (v : Verdict). first_of refused (so_far (record { fault = v; count = 0; held = 0 })) answer) (fault_is (length ys))
      ∙ verdict_stands refused (judged (length ys)) (judged_numbered (length ys)) answer

pub set_up_fault : (capacity : ℕ) (ys : List Row) → (standing_of true capacity ys).fault ≡ verdict_of (set_up_refusals capacity ys)
set_up_fault capacity ys = fault_is true capacity ys (length ys)

-- ---- what sound rows hold together is never cut: each holds at most 200, and there are at most 8

module _ (capacity : ℕ) (ys : List Row) where
  held_so_far : (k : ℕ) → k ≤ 8 → NoneApply (judged false capacity ys k)
      → ((after_rows false capacity ys k).held ≡ together (held_at ys) k) × (together (held_at ys) k ≤ 200 * k)
  unfolding after_rows begun each_place together
  held_so_far zero h x = (refl, omega arith)
  held_so_far (suc k) h x =
      let before = judged false capacity ys k in
      let s = after_rows false capacity ys k in
      let own = row_of ys k in
      let y = none_left before (asked false capacity ys k) x in
      let r = held_so_far k (omega arith) y in
      let same = r.0 in
      let bound = r.1 in
      let fits = held_to_200 own (not-false _ (none_right before (asked false capacity ys k) x).0) in
      let small : s.held + own.held.0 < 2 ^ 32 = omega (arith, h, same, bound, fits) in
      let more-held = ap (λ (r : Standing). r.held) (more false s own (suc k) (clear_stands false capacity ys k y)) ∙ mod-eq_of_lt small in
      (more-held ∙ ap (λ (n : ℕ). n + own.held.0) same, omega (arith, bound, fits))

  held_is : NoneApply (judged false capacity ys (length ys)) → (standing_of false capacity ys).held ≡ all_held ys
  held_is x =
      (held_so_far (length ys)
      (count_high capacity ys (none_left (table_refusals capacity (length ys)) (each_place (asked false capacity ys) (length ys)) x)) x).0

  -- ---- the law of the pass: at its end it says what the lent rows say, and answers that are the same where these pass are the same

  pub pass_same : {A : Type 0} (refused : ℕ → ℕ → A) (a b : A) → (NoneApply (remaining_refusals capacity ys) → a ≡ b)
      → first_of refused (end_refusals capacity (standing_of false capacity ys)) a ≡ first_of refused (remaining_refusals capacity ys) b
  pass_same {A} refused a b same =
      onward refused a (so_far s) (sum_fault capacity s.held)
      ∙ so_far_lem false capacity ys refused (first_of refused (sum_fault capacity s.held) a)
      ∙ same_behind refused rows _ _ (λ x.
      ap (λ (n : ℕ). first_of refused (sum_fault capacity n) a) (held_is x)
      ∙ same_behind refused sum a b (λ y. same (none_append rows sum x y)))
      ∙ sym (onward refused b rows sum) where
        s : Standing
        s = standing_of false capacity ys

        rows : List Refusal
        rows = judged false capacity ys (length ys)

        sum : List Refusal
        sum = sum_fault capacity (all_held ys)

  module _ (x : NoneApply (remaining_refusals capacity ys)) where
    rows_clear : NoneApply (judged false capacity ys (length ys))
    rows_clear = none_left (judged false capacity ys (length ys)) (sum_fault capacity (all_held ys)) x

    pub sound_stands : standing (standing_of false capacity ys) ≡ true
    sound_stands = clear_stands false capacity ys (length ys) rows_clear

    pub sum_is : (standing_of false capacity ys).held ≡ all_held ys
    sum_is = held_is rows_clear

  pub end_fault : verdict_of (end_refusals capacity (standing_of false capacity ys)) ≡ verdict_of (remaining_refusals capacity ys)
  end_fault = pass_same verdict success success (λ x. refl)
