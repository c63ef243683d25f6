-- The answer from the summary of a list is the answer from the list.
-- Assumes nothing.
use Rattle.std.specs.Prelude.{Some, Result, Ok, Err}
use mathlib.Core.Path.{◌≡◌, refl, sym, ap, ◌∙◌, subst}
use mathlib.Core.Bool.{Bool, true, false}
use mathlib.Core.List.{List, []}
use Prim.Native.Nat.{ℕ, ◌-◌, ◌≤◌, max}
use native.Mathlib.Omega.{arith}
use lib.Dec.{ltb}
use borrow.Author.Tests.{ltb-true, ltb-false}
use Rattle.verdicts.specs.declared.Verdict.{Verdict}
use Rattle.verdicts.proofs.Bools.{either_false}
use Rattle.verdicts.specs.Refusals.{first_of, verdict}
use Rattle.steps.specs.Units.{mv20, ma50}
use Rattle.objects.specs.declared.Side.TheVariants.{Source}
use Rattle.objects.specs.declared.Object.{Object}
use Rattle.objects.specs.declared.Object.TheVariants.{Fixed, Battery, Variable, Pps, Avs}
use Rattle.lists.specs.declared.Words.{Words}
use Rattle.lists.specs.Shape.{bad_count, shape_of}
use Rattle.lists.specs.Reading.{object_of}
use Rattle.lists.proofs.Shapes.{count_high, none_of}
use Rattle.lists.proofs.Sevens.{at_filled}
use Rattle.requests.specs.declared.Asked.{Asked}
use Rattle.requests.specs.Limits.{avs_limit}
use Rattle.requests.specs.Taking.{position_of, pps_volts, taken_apart}
use Rattle.requests.specs.Judging.{judged_of}
use Rattle.requests.specs.Answering.{bad_position, named_by, answer_of}
use Rattle.requests.proofs.AvsLimits.{limit_below, limit_above, limit_at_lem}
use Rattle.requests.proofs.Answers.{position_inside, judged, names_object, misplaced as list-misplaced}
use Rattle.summaries.specs.declared.QuickRequest.{QuickRequest}
use Rattle.summaries.specs.declared.QuickRequest.TheVariants as quick
use Rattle.summaries.specs.declared.QuickAsked.{QuickAsked}
use Rattle.summaries.specs.declared.TakenRequest.{TakenRequest}
use Rattle.summaries.specs.declared.TakenRequest.TheVariants as taken
use Rattle.summaries.specs.Summaries.{limits_of, no_limits, limits_in, limits_at, summary_of}
use Rattle.summaries.specs.Taking.{quick_of, taken_refused, taken_of, taken_verdict, request_as, asked_as}
use Rattle.summaries.specs.Answering.{judged_by, row_of, answered_by}
use Rattle.summaries.proofs.Answers.{misplaced, by_row}
use Rattle.summaries.proofs.Takings as takings

ok_not_err : {t : TakenRequest} {u : Verdict} → Ok t ≡ Err u → ⊥
ok_not_err {t} {u} q = cc

ok_same : {t s : TakenRequest} → ◌≡◌ {A = Result TakenRequest Verdict} (Ok t) (Ok s) → t ≡ s
ok_same {t} {s} q = cc

-- ---- by the limits of an object

-- where the two currents of a row are the same, the voltage does not matter
level : (mv ma : ℕ) → avs_limit mv ma ma ≡ ma
level mv ma = go (ltb mv 15000) refl (ltb 15000 mv) refl where
  go : (a : Bool) → ltb mv 15000 ≡ a → (b : Bool) → ltb 15000 mv ≡ b → avs_limit mv ma ma ≡ ma
  go true p b q = limit_below mv ma ma (ltb-true mv 15000 p)
  go false p true q = limit_above mv ma ma (ltb-true 15000 mv q)
  go false p false q =
      let low = ltb-false mv 15000 p in
      let high = ltb-false 15000 mv q in
      let e : max ma ma ≡ ma = omega arith in
      limit_at_lem mv ma ma (omega (arith, low, high)) ∙ e

-- what a decoded request is, by the answer of decoding
abbrev Judges : Object → ℕ → TakenRequest → Type 0
Judges o w (taken.Battery p m) = Unit
Judges o w (taken.Quick a) = judged_by (limits_of o) a.mismatch a.request ≡ judged_of o w

by_kind_lem : (o : Object) (w : ℕ) → Judges o w (quick_of (taken_apart o w))
unfolding quick_of taken_apart judged_by judged_of limits_of first_of
by_kind_lem (Fixed f p v a) w = refl
by_kind_lem (Battery x m p) w = tt
by_kind_lem (Variable x m a) w = refl
by_kind_lem (Pps l x m a) w = rw (level (mv20 (pps_volts w)) (ma50 a))
by_kind_lem (Avs p l h) w = refl

pub judged_alike : (o : Object) (w : ℕ) (a : QuickAsked) → quick_of (taken_apart o w) ≡ taken.Quick a
    → judged_by (limits_of o) a.mismatch a.request ≡ judged_of o w
judged_alike o w a e = subst (Judges o w) e (by_kind_lem o w)

-- ---- what decoding gives

quick_again : (p : ℕ) (m : Bool) (r : QuickRequest) → quick_of (record { position = p; mismatch = m; request = request_as r }) ≡ taken.Quick (record { position = p; mismatch = m; request = r })
unfolding quick_of
quick_again p m (quick.Fixed o x) = refl
quick_again p m (quick.Variable o x) = refl
quick_again p m (quick.Pps v a) = refl
quick_again p m (quick.Avs v a) = refl

-- a request that is taken apart for a kind other than battery is what decoding gives
pub decoded_as : (o : Object) (w : ℕ) (a : QuickAsked) → asked_as a ≡ taken_apart o w → quick_of (taken_apart o w) ≡ taken.Quick a
decoded_as o w a e = ap quick_of (sym e) ∙ quick_again a.position a.mismatch a.request

-- .. and the other way round; of a battery object there is none
abbrev Tells : Asked → TakenRequest → Type 0
Tells x (taken.Battery p m) = Unit
Tells x (taken.Quick a) = asked_as a ≡ x

tells_kind : (o : Object) (w : ℕ) → Tells (taken_apart o w) (quick_of (taken_apart o w))
unfolding quick_of taken_apart
tells_kind (Fixed f p v a) w = refl
tells_kind (Battery x m p) w = tt
tells_kind (Variable x m a) w = refl
tells_kind (Pps l x m a) w = refl
tells_kind (Avs p l h) w = refl

pub taken_as_lem : (o : Object) (w : ℕ) (a : QuickAsked) → quick_of (taken_apart o w) ≡ taken.Quick a → asked_as a ≡ taken_apart o w
taken_as_lem o w a e = subst (Tells (taken_apart o w)) e (tells_kind o w)

-- ---- on a list

position_from_1 : (count position : ℕ) → bad_position count position ≡ false → 1 ≤ position
position_from_1 count position e = ltb-false position 1 (either_false (ltb position 1) (ltb count position) e).0

position_to_count : (count position : ℕ) → bad_position count position ≡ false → position ≤ count
position_to_count count position e = ltb-false count position (either_false (ltb position 1) (ltb count position) e).1

names_own : (o : Object) (w : ℕ) → (taken_apart o w).position ≡ position_of w
unfolding taken_apart
names_own o w = refl

module _ (l : Words) (shaped : (shape_of l).number ≡ 0) where
  pub counted : bad_count l.count ≡ false
  counted = (none_of Source l shaped).0

  pub to_7 : l.count ≤ 7
  to_7 = count_high l.count counted

  -- the row of a place is that of its object
  pub row_at : (position : ℕ) → bad_position l.count position ≡ false → row_of (summary_of l) position ≡ limits_at l.words (position - 1)
  row_at position e = at_filled (limits_at l.words) no_limits [] l.count (position - 1) to_7 (position_inside l.count position e)

  -- a decoded request whose position is outside the count
  pub summary_20 : (a : QuickAsked) → bad_position l.count a.position ≡ true → answered_by (summary_of l) a ≡ verdict 20 0
  summary_20 a e = misplaced (summary_of l) a to_7 e

  module _ (w : ℕ) where
    pub placed_alike : (o : Object) → bad_position l.count (position_of w) ≡ false → named_by l w ≡ Some o
        → (a : QuickAsked) → asked_as a ≡ taken_apart o w → answered_by (summary_of l) a ≡ answer_of l w
    placed_alike o e named a is =
        let p : a.position ≡ position_of w = ap (λ (x : Asked). x.position) is ∙ names_own o w in
        by_row (summary_of l) a to_7 (ap (bad_position l.count) p ∙ e)
        ∙ ap (λ (ls : List ℕ). judged_by ls a.mismatch a.request)
        (ap (row_of (summary_of l)) p ∙ row_at (position_of w) e ∙ ap limits_in named)
        ∙ judged_alike o w a (decoded_as o w a is)
        ∙ sym (judged l w shaped o e named)

    -- of what decoding gives
    pub alike : (a : QuickAsked) → taken_of l w ≡ Ok (taken.Quick a) → answered_by (summary_of l) a ≡ answer_of l w
    alike a is = go (bad_position l.count (position_of w)) refl where
      go : (b : Bool) → bad_position l.count (position_of w) ≡ b → answered_by (summary_of l) a ≡ answer_of l w
      go true e = absurd (ok_not_err (sym is ∙ takings.misplaced l w counted e))
      go false e =
          let o = object_of (named_by l w) in
          let named = names_object l w shaped (position_from_1 l.count (position_of w) e) (position_to_count l.count (position_of w) e) in
          placed_alike o e named a (taken_as_lem o w a (ok_same (sym (takings.of_object_lem l w counted e o named) ∙ is)))

    -- a list that has its shape has an object in every word: decoding refuses nothing but the position
    pub refused_20 : (u : Verdict) → taken_of l w ≡ Err u → u ≡ verdict 20 0
    refused_20 u is = go (bad_position l.count (position_of w)) refl where
      go : (b : Bool) → bad_position l.count (position_of w) ≡ b → u ≡ verdict 20 0
      go true e = ap taken_verdict (sym is ∙ takings.misplaced l w counted e)
      go false e =
          let o = object_of (named_by l w) in
          let named = names_object l w shaped (position_from_1 l.count (position_of w) e) (position_to_count l.count (position_of w) e) in
          absurd (ok_not_err (sym (takings.of_object_lem l w counted e o named) ∙ is))

    -- "Where the position of a request word is outside the count, the answer from the list is 20, decoding gives 20"
    module _ (outside : bad_position l.count (position_of w) ≡ true) where
      pub list_20 : answer_of l w ≡ verdict 20 0
      list_20 = list-misplaced l w shaped outside

      pub taking_20 : taken_of l w ≡ taken_refused 20 0
      taking_20 = takings.misplaced l w counted outside
