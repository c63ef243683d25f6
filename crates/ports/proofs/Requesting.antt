-- A request by value: the object that it names in the list of its row, what that list answers, and the decisions in their order.
-- Assumes nothing.
use Rattle.std.specs.Prelude.{Option, Some, None, Result, Ok, Err}
use Rattle.std.specs.Result.{IsErrAnd}
use Rattle.std.proofs.lemmas.Result.{err_from_is_err_and}
use mathlib.Core.Path.{◌≡◌, refl, sym, ap, ap₂, ◌∙◌}
use mathlib.Core.Bool.{Bool, true, false, not, cond}
use mathlib.Core.List.{List, [], ◌∷◌, ◌++◌}
use Prim.Native.Nat.{ℕ, zero, suc, ◌-◌, ◌≤◌, max}
use native.Mathlib.Omega.{arith}
use lib.Dec.{ltb, eqb}
use lib.ListN.{get_or}
use borrow.Author.Tests.{not-false, ltb-true, ltb-false, eqb-true, eqb-false}
use Rattle.verdicts.specs.declared.Verdict.{Verdict}
use Rattle.verdicts.specs.Refusals.{Refusal, refusal, first_of, err, verdict, success, verdict_of}
use Rattle.verdicts.proofs.First.{none_applied, all_missed}
use Rattle.steps.specs.Ranges.{within}
use Rattle.steps.proofs.RangeLaws.{inside, at_least, at_most}
use Rattle.objects.specs.declared.Side.TheVariants.{Source}
use Rattle.objects.specs.declared.Object.{Object}
use Rattle.objects.specs.Decode.{decode_of, decoded_number}
use Rattle.lists.specs.declared.Words.{Words}
use Rattle.lists.specs.declared.Listing.{Listing}
use Rattle.lists.specs.Shape.{shape_refusals, shape_of}
use Rattle.lists.specs.Reading.{object_of}
use Rattle.lists.proofs.Shapes.{too_few, miscounted, shape_verdict}
use Rattle.rules.specs.declared.Profile.{Profile}
use Rattle.rules.specs.Profiles.{build_refusals}
use Rattle.rules.specs.Building.{built_words, built_of}
use Rattle.rules.specs.Placing.{placed_in}
use Rattle.rules.proofs.Builds.{build_numbered, build_clear, build_verdict, build_empty}
use Rattle.rules.proofs.BuiltPasses.{shape_clear}
use Rattle.requests.specs.Taking.{position_of}
use Rattle.requests.specs.Judging.{judged_of}
use Rattle.requests.specs.Answering.{named_by, answer_of}
use Rattle.requests.proofs.Answers.{answer_numbered, answer_verdict, position_zero, position_past, position_good, misshapen, misplaced, judged, names_object}
use Rattle.requests.proofs.Accepted.{accepted}
use Rattle.ports.specs.declared.Row.{Row}
use Rattle.ports.specs.declared.Standing.{Standing}
use Rattle.ports.specs.Rows.{holding}
use Rattle.ports.specs.RuleLists.{rule_profile, rule_list}
use Rattle.ports.specs.Requests.{power_in, power_of, held_for, new_held}
use Rattle.ports.specs.Refusing.{own_refusals, no_power_now}
use Rattle.ports.specs.Deciding.{object_in, named_or_none, named_in, left_beside, use_end_refusals, request_end_refusals}
use Rattle.ports.proofs.Asking.{accepts}
use Rattle.ports.proofs.Judged.{stops_at, moves_on}
use Rattle.ports.proofs.Passed.{went_past, meant}

-- ---- the object that is named

abbrev pub decoded_in : Option ℕ → Option Object
decoded_in (Some w) = decode_of w
decoded_in None = None

not_0 : (n : ℕ) → (n ≡ 0 → ⊥) → 1 ≤ n
not_0 zero f = absurd (f refl)
not_0 (suc n) f = omega arith

allowed : (o : Object) → Some o ≡ None → ⊥
allowed o e = let q = ap decoded_number e in omega (arith, q)

module _ (l : Words) (w : ℕ) where
  abbrev pub named : Option Object
  named = object_in l w

  pub placed_named : decoded_in (placed_in l (position_of w)) ≡ named
  unfolding placed_in
  placed_named = go (within 1 l.count (position_of w)) where
    go : (b : Bool) → decoded_in (cond b (Some (get_or l.words (position_of w - 1) 0)) None) ≡ cond b (named_by l w) None
    go true = refl
    go false = refl

  named_there : 1 ≤ position_of w → position_of w ≤ l.count → named ≡ named_by l w
  named_there low high =
      ap (λ (b : Bool). cond b (named_by l w) None) (not-false (within 1 l.count (position_of w)) (inside 1 l.count (position_of w) low high))

  -- the list does not accept a request that names none
  pub none_named : named ≡ None → (answer_of l w).number ≡ 0 → ⊥
  none_named e z =
      let a = accepted l w (accepts l w z) in
      allowed a.object (sym a.names ∙ sym (named_there a.from_1 a.to_count) ∙ e)

  pub record Names (o : Object) : Type 0 where
    pub from_1 : 1 ≤ position_of w
    pub to_count : position_of w ≤ l.count
    pub names : named_by l w ≡ Some o

  pub known_named : (o : Object) → named ≡ Some o → Names o
  known_named o = go (within 1 l.count (position_of w)) refl where
    go : (b : Bool) → within 1 l.count (position_of w) ≡ b → cond b (named_by l w) None ≡ Some o → Names o
    go true t e = record {
      from_1 = at_least 1 l.count (position_of w) (ap not t);
      to_count = at_most 1 l.count (position_of w) (ap not t);
      names = e;
    }
    go false t e = absurd (allowed o (sym e))

-- ---- a list with a place was built, and passes its shape

built_shaped : (p : Profile) → 1 ≤ (built_of p).list.count → (shape_of (built_of p).list).number ≡ 0
built_shaped p h = go (eqb (built_of p).verdict.number 0) refl where
  go : (b : Bool) → eqb (built_of p).verdict.number 0 ≡ b → (shape_of (built_of p).list).number ≡ 0
  go true t =
      let clear = none_applied (build_refusals p) (build_numbered p) (ap (λ (v : Verdict). v.number) (sym (build_verdict p)) ∙ eqb-true _ 0 t) in
      ap (λ (l : Listing). (shape_of l.list).number) (build_clear p clear)
      ∙ ap (λ (v : Verdict). v.number) (shape_verdict Source (built_words p)
      ∙ all_missed verdict success (shape_refusals (built_words p)) (shape_clear p clear))
  go false t =
      let none : (built_of p).list.count ≡ 0 =
      ap (λ (l : Words). l.count) (build_empty p (λ e. eqb-false _ 0 t (ap (λ (v : Verdict). v.number) e))) in
      absurd (omega (arith, h, none))

-- ---- a request that names no object: the list is empty, or has no such place

module _ (y : Row) (w : ℕ) (e : named (rule_list y) w ≡ None) where
  abbrev l : Words
  l = rule_list y

  misplaced_in : 1 ≤ l.count → answer_of l w ≡ verdict 20 0
  misplaced_in some = go (ltb (position_of w) 1) (ltb l.count (position_of w)) refl refl where
    go : (a b : Bool) → ltb (position_of w) 1 ≡ a → ltb l.count (position_of w) ≡ b → answer_of l w ≡ verdict 20 0
    go true b t u = misplaced l w (built_shaped (rule_profile y) some) (position_zero l.count (position_of w) (ltb-true _ _ t))
    go false true t u =
        misplaced l w (built_shaped (rule_profile y) some) (position_past l.count (position_of w) (ltb-false _ _ t) (ltb-true _ _ u))
    go false false t u =
        let low = ltb-false (position_of w) 1 t in
        let high = ltb-false l.count (position_of w) u in
        absurd (allowed (object_of (named_by l w)) (sym (names_object l w (built_shaped (rule_profile y) some) low high) ∙ sym (named_there l w low high) ∙ e))

  pub none_answers : cond (eqb l.count 0) (verdict 10 0) (verdict 20 0) ≡ answer_of l w
  none_answers = go (eqb l.count 0) refl where
    go : (b : Bool) → eqb l.count 0 ≡ b → cond b (verdict 10 0) (verdict 20 0) ≡ answer_of l w
    go true t =
        let none = eqb-true l.count 0 t in
        let counted = miscounted Source l (too_few l.count (omega (arith, none))) in
        sym (misshapen l w (λ z. let q = sym (ap (λ (v : Verdict). v.number) counted) ∙ z in omega (arith, q)) ∙ counted)
    go false t = sym (misplaced_in (not_0 l.count (eqb-false l.count 0 t)))

-- ---- a request that names one

module _ (y : Row) (w : ℕ) (o : Object) (n : Names (rule_list y) w o) where
  pub list_judges : answer_of (rule_list y) w ≡ judged_of o w
  list_judges =
      let low = n.from_1 in
      let high = n.to_count in
      judged (rule_list y) w (built_shaped (rule_profile y) (omega (arith, low, high))) o
      (position_good (rule_list y).count (position_of w) low high) n.names

  pub held_is : new_held y w ≡ max 15 (power_in (Some o) y.present.0 w)
  unfolding held_for power_of
  held_is = ap (λ (d : Option Object). max 15 (power_in d y.present.0 w)) n.names

-- ---- what the list says, as results: the object that a request names, or the refusal of one that names none

named_ok : (l : Words) (o : Object) (d : Option Object) → Ok o ≡ named_or_none l d → d ≡ Some o
named_ok l o (Some p) q = cc
named_ok l o None q = cc

named_err : (l : Words) (e : Verdict) (d : Option Object) → Err e ≡ named_or_none l d → (d ≡ None) × (e ≡ cond (eqb l.count 0) (verdict 10 0) (verdict 20 0))
named_err l e (Some p) q = cc
named_err l e None q = (refl, cc)

pub names_one : (l : Words) (w : ℕ) {o : Object} → Ok o ≡ named_in l w → Names l w o
names_one l w {o} q = known_named l w o (named_ok l o (named l w) q)

-- a refusal is that of the list
pub names_none : (y : Row) (w : ℕ) {e : Verdict} → Err e ≡ named_in (rule_list y) w → (e ≡ answer_of (rule_list y) w) × (e.number ≡ 0 → ⊥)
names_none y w {e} q =
    let n = named_err (rule_list y) e (named (rule_list y) w) q in
    let own = n.1 ∙ none_answers y w n.0 in
    (own, (λ z. none_named (rule_list y) w n.0 (ap (λ (v : Verdict). v.number) (sym own) ∙ z)))

-- ---- the decisions, in order: the port, the list's own answer, the power that is left

module _ (capacity : ℕ) (s : Standing) (y : Row) (port word : ℕ) {left : ℕ}
    (past : Ok left ≡ first_of err (use_end_refusals capacity s y port) (Ok (left_beside capacity s y))) (v : Verdict) (e : v ≡ answer_of (rule_list y) word) where
  abbrev power : List Refusal
  power = no_power_now (left_beside capacity s y) y port word

  abbrev changed : Result Row Verdict
  changed = Ok (holding y (new_held y word))

  own : v ≡ verdict_of (own_refusals y word)
  own = e ∙ answer_verdict (rule_list y) word

  pub own_stops : (v.number ≡ 0 → ⊥) → {r : Result Row Verdict} → IsErrAnd r (λ (x : Verdict). x ≡ v)
      → r ≡ first_of err (request_end_refusals capacity s y port word) changed
  own_stops f {r} h =
      let out = err_from_is_err_and r h in
      out.1
      ∙ ap Err out.2
      ∙ sym (went_past (use_end_refusals capacity s y port) (own_refusals y word ++ power) _ changed past
      ∙ stops_at (own_refusals y word) v own err changed power f)

  pub power_decides : v.number ≡ 0 → (held : ℕ) → held ≡ new_held y word → {r : Result Row Verdict}
      → r ≡ first_of err (refusal (ltb left held) 36 port ∷ []) (Ok (holding y held))
      → r ≡ first_of err (request_end_refusals capacity s y port word) changed
  power_decides z held h d =
      d
      ∙ ap₂ (λ (m n : ℕ). first_of err (refusal (ltb m n) 36 port ∷ []) (Ok (holding y n))) (meant (use_end_refusals capacity s y port) _ past) h
      ∙ sym (went_past (use_end_refusals capacity s y port) (own_refusals y word ++ power) _ changed past
      ∙ moves_on (own_refusals y word) v own err changed power (answer_numbered (rule_list y) word) z)
