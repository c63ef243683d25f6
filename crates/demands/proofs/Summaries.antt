-- Proves the claims of specs/Summaries.antt, from the laws of `summaries` on the definitions that the contracts cite.
-- Assumes nothing.
use Rattle.std.specs.Prelude.{Some, Result, Ok, Err}
use mathlib.Core.Path.{◌≡◌, refl, sym, ap, ◌∙◌, subst}
use mathlib.Core.Bool.{Bool, true, false}
use mathlib.Core.Logic.{◌⊎◌, inl, inr}
use mathlib.Core.List.{List, []}
use Prim.Native.Nat.{ℕ, ◌*◌, ◌%◌, ◌≤◌, ◌<◌, max}
use native.Mathlib.Omega.{arith}
use lib.Dec.{leb}
use borrow.Author.Tests.{leb-true, leb-false}
use Rattle.verdicts.specs.declared.Verdict.{Verdict}
use Rattle.verdicts.specs.Refusals.{verdict, success, NoneApply}
use Rattle.steps.specs.Units.{mv25, ma50}
use Rattle.objects.specs.declared.Object.{Object}
use Rattle.objects.specs.declared.Object.TheVariants as object
use Rattle.objects.proofs.Saying.{decoded_is}
use Rattle.lists.specs.declared.Words.{Words}
use Rattle.lists.specs.declared.Listing.{Listing}
use Rattle.lists.specs.Shape.{shape_refusals, shape_for, shape_of}
use Rattle.lists.proofs.Sevens.{at_blank, seven_long}
use Rattle.verdicts.proofs.First.{all_missed}
use Rattle.rules.specs.declared.Profile.{Profile}
use Rattle.rules.proofs.BuiltPasses.{shape_clear}
use Rattle.requests.specs.Taking.{position_of, mismatch_of, taken_apart}
use Rattle.requests.specs.Limits.{avs_limit}
use Rattle.requests.proofs.AvsLimits.{limit_at_lem}
use Rattle.summaries.specs.declared.Summarized.{Summarized}
use Rattle.summaries.specs.declared.QuickRequest.TheVariants as quick
use Rattle.summaries.specs.declared.QuickAsked.{QuickAsked}
use Rattle.summaries.specs.declared.TakenRequest.{TakenRequest}
use Rattle.summaries.specs.declared.TakenRequest.TheVariants.{Battery, Quick}
use Rattle.summaries.specs.Summaries.{below_in, above_in, no_limits, limits_in, limits_at, summary_of, summarized_of}
use Rattle.summaries.specs.Taking.{quick_of, taken_of}
use Rattle.summaries.specs.Answering.{range_by, judged_by, row_of, answered_by}
use Rattle.summaries.proofs.Makings.{summary_passes}
use Rattle.summaries.proofs.Takings.{of_object_lem}
use Rattle.summaries.proofs.Judgings.{range_over, range_allowed, avs_by_range}
use Rattle.summaries.proofs.Answers.{by_row}
use Rattle.summaries.proofs.Agreement.{row_at, placed_alike, alike, refused_20, list_20, taking_20, summary_20}
use Rattle.flat.specs.declared.FlatTaken.{FlatTaken}
use Rattle.flat.specs.Requesting.{taken_as, flat_taken_by, flat_request_of, flat_answered_of}
use Rattle.flat.proofs.Requests.{flat_taken, request_again, by_decoded_request}
use Rattle.demands.specs.CallContracts.{ShapeAnswers, BuildAnswers}
use Rattle.demands.specs.Summaries.{SaysOf, SummaryRowByRow, BuiltRowByRow, IsBattery, DecodedAs, DecodedForTheKind, flat_for, ArinDecodedForTheKind, SummaryAgrees, TakenApartAgrees, OutsideIs20, BuiltAgrees, ArinSummaryAgrees, SummaryAt15V}
use Rattle.demands.proofs.PowerRules.{built_clear, built_list}

-- ---- what is had of the contracts

shaped : (l : Words) → ShapeAnswers l success → (shape_of l).number ≡ 0
shaped l e = ap (λ (v : Verdict). v.number) (sym e)

made : (l : Words) → (shape_of l).number ≡ 0 → (m : Summarized) → m ≡ summarized_of l → m ≡ record { verdict = success; summary = summary_of l }
made l e m is = is ∙ summary_passes l e

-- a list that is built has its shape
built_shaped : (p : Profile) (b : Listing) → BuildAnswers p b → b.verdict ≡ success → ShapeAnswers b.list success
unfolding shape_for
built_shaped p b e s =
    sym (all_missed verdict success (shape_refusals b.list)
    (subst (λ (l : Words). NoneApply (shape_refusals l)) (sym (built_list p b e s)) (shape_clear p (built_clear p b e s))))

-- ---- what a summary says

pub summary_row_by_row : SummaryRowByRow
summary_row_by_row l e r is =
    let good = shaped l e in
    let m = made l good r is in (
      ap (λ (x : Summarized). x.verdict) m,
      subst (λ (x : Summarized). SaysOf l x.summary) (sym m) (record {
        count = refl;
        row = λ position inside o d. row_at l good position inside ∙ ap limits_in (sym (decoded_is _ (Some o) d));
        past = λ k h below. at_blank (limits_at l.words) no_limits [] l.count k h below;
        seven = seven_long (limits_at l.words) no_limits l.count;
      }),
    )

pub built_row_by_row : BuiltRowByRow
built_row_by_row p b e s r is = summary_row_by_row b.list (built_shaped p b e s) r is

-- ---- what decoding gives

by_kind_lem : (o : Object) (w : ℕ)
    → (IsBattery o × (◌≡◌ {A = Result TakenRequest Verdict} (Ok (quick_of (taken_apart o w))) (Ok (Battery (position_of w) (mismatch_of w)))))
    ⊎ DecodedAs o w (Ok (quick_of (taken_apart o w)))
unfolding quick_of taken_apart
by_kind_lem (object.Fixed f p v a) w = inr (record { decoded = record { position = _; mismatch = _; request = quick.Fixed _ _ }; is = refl; taken_apart = refl })
by_kind_lem (object.Battery x m p) w = inl (record { max = x; min = m; power = p; is = refl }, refl)
by_kind_lem (object.Variable x m a) w = inr (record { decoded = record { position = _; mismatch = _; request = quick.Variable _ _ }; is = refl; taken_apart = refl })
by_kind_lem (object.Pps l x m a) w = inr (record { decoded = record { position = _; mismatch = _; request = quick.Pps _ _ }; is = refl; taken_apart = refl })
by_kind_lem (object.Avs p l h) w = inr (record { decoded = record { position = _; mismatch = _; request = quick.Avs _ _ }; is = refl; taken_apart = refl })

pub decoded_for_the_kind : DecodedForTheKind
decoded_for_the_kind l w counted inside o d t is =
    subst (λ (x : Result TakenRequest Verdict). (IsBattery o × (x ≡ Ok (Battery (position_of w) (mismatch_of w)))) ⊎ DecodedAs o w x)
    (sym (is ∙ of_object_lem l w counted inside o (sym (decoded_is _ (Some o) d)))) (by_kind_lem o w)

flat_by_kind : (o : Object) (w : ℕ) → flat_taken_by (Ok (quick_of (taken_apart o w))) ≡ taken_as (flat_for o w)
unfolding quick_of taken_apart flat_request_of
flat_by_kind (object.Fixed f p v a) w = refl
flat_by_kind (object.Battery x m p) w = refl
flat_by_kind (object.Variable x m a) w = refl
flat_by_kind (object.Pps l x m a) w = refl
flat_by_kind (object.Avs p l h) w = refl

pub arin_decoded_for_the_kind : ArinDecodedForTheKind
arin_decoded_for_the_kind l w counted inside o d t is =
    let all = is ∙ flat_taken l w ∙ ap flat_taken_by (of_object_lem l w counted inside o (sym (decoded_is _ (Some o) d))) ∙ flat_by_kind o w in
    (ap (λ (x : FlatTaken). x.verdict) all, ap (λ (x : FlatTaken). x.request) all)

-- ---- agreement

-- an answer from the summary that was made is one from the summary of the list
module _ (l : Words) (e : ShapeAnswers l success) (m : Summarized) (is : m ≡ summarized_of l) where
  from_own : (a : QuickAsked) → answered_by m.summary a ≡ answered_by (summary_of l) a
  from_own a = ap (λ (x : Summarized). answered_by x.summary a) (made l (shaped l e) m is)

pub summary_agrees : SummaryAgrees
summary_agrees l w e m is a t r v f g = f ∙ from_own l e m is a ∙ alike l (shaped l e) w a (sym t) ∙ sym g

pub taken_apart_agrees : TakenApartAgrees
taken_apart_agrees l w e m is inside o d a t r v f g =
    f ∙ from_own l e m is a ∙ placed_alike l (shaped l e) w o inside (sym (decoded_is _ (Some o) d)) a t ∙ sym g

pub outside_is_20 : OutsideIs20
outside_is_20 l w e outside = (
  (λ v g. g ∙ list_20 l (shaped l e) w outside),
  (
    (λ t is. is ∙ taking_20 l (shaped l e) w outside),
    (λ m is a p r f. f ∙ from_own l e m is a ∙ summary_20 l (shaped l e) a p),
  ),
)

pub built_agrees : BuiltAgrees
built_agrees p b e s w m is a t r v f g = summary_agrees b.list w (built_shaped p b e s) m is a t r v f g

-- in C: what decoding gave is a decoded request, since it is no refusal and not for a battery
pub arin_summary_agrees : ArinSummaryAgrees
arin_summary_agrees l w e m is t t-is good other r v f g = go (taken_of l w) refl where
  same : (x : Result TakenRequest Verdict) → taken_of l w ≡ x → t ≡ flat_taken_by x
  same x q = t-is ∙ flat_taken l w ∙ ap flat_taken_by q

  go : (x : Result TakenRequest Verdict) → taken_of l w ≡ x → r ≡ v
  go (Err u) q =
      let z : ◌≡◌ {A = ℕ} 20 0 = ap (λ (x : Verdict). x.number)
      (sym (refused_20 l (shaped l e) w u q) ∙ sym (ap (λ (y : FlatTaken). y.verdict) (same (Err u) q)) ∙ good) in
      absurd (omega arith)
  go (Ok (Battery p b)) q = absurd (other (ap (λ (y : FlatTaken). y.request.kind) (same (Ok (Battery p b)) q)))
  go (Ok (Quick a)) q =
      f
      ∙ ap (flat_answered_of m.summary) (ap (λ (y : FlatTaken). y.request) (same (Ok (Quick a)) q))
      ∙ by_decoded_request m.summary (flat_request_of a) a (request_again a)
      ∙ from_own l e m is a
      ∙ alike l (shaped l e) w a q
      ∙ sym g

-- ---- at 15.0 V

pub summary_at_15_V : SummaryAt15V
summary_at_15_V s a counted inside from to volts current asks at r is = ((λ good. below good), (λ h. is ∙ allowed h)) where
  ls : List ℕ
  ls = row_of s a.position

  most : ℕ
  most = max (below_in ls) (above_in ls)

  ranged : answered_by s a ≡ range_by ls (mv25 volts) (ma50 current)
  ranged =
      by_row s a counted inside
      ∙ ap (judged_by ls a.mismatch) asks
      ∙ sym (avs_by_range ls volts current a.mismatch (ap (λ (n : ℕ). n % 4) at))

  limit : most ≡ avs_limit (mv25 volts) (below_in ls) (above_in ls)
  limit = sym (limit_at_lem (mv25 volts) (below_in ls) (above_in ls) (ap (λ (n : ℕ). n * 25) at))

  allowed : ma50 current ≤ most → answered_by s a ≡ success
  allowed h = ranged ∙ range_allowed ls (mv25 volts) (ma50 current) (omega (arith, from, at)) (omega (arith, to, at)) most limit h

  refused : most < ma50 current → answered_by s a ≡ verdict 24 0
  refused h = ranged ∙ range_over ls (mv25 volts) (ma50 current) (omega (arith, from, at)) (omega (arith, to, at)) most limit h

  below : r ≡ success → ma50 current ≤ most
  below good = go (leb (ma50 current) most) refl where
    go : (b : Bool) → leb (ma50 current) most ≡ b → ma50 current ≤ most
    go true q = leb-true (ma50 current) most q
    go false q =
        let z : ◌≡◌ {A = ℕ} 24 0 = ap (λ (x : Verdict). x.number) (sym (refused (leb-false (ma50 current) most q)) ∙ sym is ∙ good) in
        absurd (omega arith)
