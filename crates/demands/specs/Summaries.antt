-- Summaries (T-06; docs/STATEMENT.md, "Summaries"): a summary says what the objects of its list allow, and the answer from it is the answer from
-- the list. Each claim is over the contracts of the calls, for every input, and is proved by the theorem of its name in small letters in
-- proofs/Summaries.antt (`summary_at_15_V` is `SummaryAt15V`).
-- `limits_of o` (summaries, specs/Summaries) is the table of limits, object by object; `row_of s p` the row of position p, which counts from 1;
-- `named_by l w` what the word that a request names stands for; `asked_as a` (summaries, specs/Taking) a decoded request as `take_apart` gives it.
-- Assumes nothing.
use Rattle.std.specs.Prelude.{◌≡◌, true, false, ◌↔◌, ◌⊎◌, ℕ, ◌-◌, ◌≤◌, ◌<◌, max, [], length, get_or, Some, Result, Ok, Err}
use Rattle.verdicts.specs.declared.Verdict.{Verdict}
use Rattle.verdicts.specs.Refusals.{verdict, success}
use Rattle.steps.specs.Units.{ma50}
use Rattle.steps.specs.declared.Mv25.{Mv25}
use Rattle.steps.specs.declared.Mv50.{Mv50}
use Rattle.steps.specs.declared.Ma50.{Ma50}
use Rattle.steps.specs.declared.Mw250.{Mw250}
use Rattle.objects.specs.declared.Object.{Object}
use Rattle.objects.specs.declared.Object.TheVariants as object
use Rattle.lists.specs.declared.Words.{Words}
use Rattle.lists.specs.declared.Listing.{Listing}
use Rattle.lists.specs.Shape.{bad_count}
use Rattle.rules.specs.declared.Profile.{Profile}
use Rattle.requests.specs.Taking.{position_of, mismatch_of, operating_in, maximum_in, pps_volts, avs_volts, current_in}
use Rattle.requests.specs.Answering.{bad_position}
use Rattle.summaries.specs.declared.Summary.{Summary}
use Rattle.summaries.specs.declared.Summarized.{Summarized}
use Rattle.summaries.specs.declared.QuickRequest.TheVariants as quick
use Rattle.summaries.specs.declared.QuickAsked.{QuickAsked}
use Rattle.summaries.specs.declared.TakenRequest.{TakenRequest}
use Rattle.summaries.specs.declared.TakenRequest.TheVariants.{Battery, Quick}
use Rattle.summaries.specs.Summaries.{lowest_in, highest_in, below_in, above_in, limits_of, no_limits}
use Rattle.summaries.specs.Taking.{asked_as}
use Rattle.summaries.specs.Answering.{row_of}
use Rattle.flat.specs.declared.FlatRequest.{FlatRequest}
use Rattle.flat.specs.declared.FlatTaken.{FlatTaken}
use Rattle.flat.specs.Flat.{no_ma10}
use Rattle.flat.specs.Requesting.{bit_of, flat_currents, flat_in_20_mV, flat_in_25_mV}
use Rattle.demands.specs.CallContracts.{DecodeAnswers, ShapeAnswers, BuildAnswers, TakeApartAnswers, AnswerAnswers}
use Rattle.demands.specs.FlatContracts.{ArinAnswerAnswers}
use Rattle.demands.specs.SummaryContracts.{SummarizeAnswers, TakeRequestAnswers, AnswerSummaryAnswers, ArinSummarizeAnswers, ArinTakeRequestAnswers, ArinAnswerSummaryAnswers}

-- ---- what a summary says

-- the count of the list, in each of the seven rows up to it the limits of the object that `decode` gives for the word, and zeros past it
pub record SaysOf (l : Words) (s : Summary) : Type 0 where
  pub count : s.count ≡ l.count
  pub row : (position : ℕ) → bad_position l.count position ≡ false → (o : Object) → DecodeAnswers (get_or l.words (position - 1) 0) (Some o)
      → row_of s position ≡ limits_of o
  pub past : (k : ℕ) → l.count ≤ k → k < 7 → get_or s.rows k [] ≡ no_limits
  pub seven : length s.rows ≡ 7

-- of every list whose shape passes
abbrev pub SummaryRowByRow : Type 0
SummaryRowByRow = (l : Words) → ShapeAnswers l success → (r : Summarized) → SummarizeAnswers l r → (r.verdict ≡ success) × SaysOf l r.summary

-- of every list that is built
abbrev pub BuiltRowByRow : Type 0
BuiltRowByRow =
    (p : Profile) (b : Listing) → BuildAnswers p b → b.verdict ≡ success
    → (r : Summarized) → SummarizeAnswers b.list r → (r.verdict ≡ success) × SaysOf b.list r.summary

-- ---- what decoding gives

pub record IsBattery (o : Object) : Type 0 where
  pub max : Mv50
  pub min : Mv50
  pub power : Mw250
  pub is : o ≡ object.Battery max min power

-- a decoded request that is the request as `take_apart` gives it for the object
pub record DecodedAs (o : Object) (w : ℕ) (t : Result TakenRequest Verdict) : Type 0 where
  pub decoded : QuickAsked
  pub is : t ≡ Ok (Quick decoded)
  pub taken_apart : TakeApartAnswers o w (asked_as decoded)

-- of every list of 1 to 7 words, whatever its shape: for a battery object the answer is that the request is for the list, and for every other
-- the request as it is taken apart for that object
abbrev pub DecodedForTheKind : Type 0
DecodedForTheKind =
    (l : Words) (w : ℕ) → bad_count l.count ≡ false → bad_position l.count (position_of w) ≡ false
    → (o : Object) → DecodeAnswers (get_or l.words (position_of w - 1) 0) (Some o)
    → (t : Result TakenRequest Verdict) → TakeRequestAnswers l w t
    → (IsBattery o × (t ≡ Ok (Battery (position_of w) (mismatch_of w)))) ⊎ DecodedAs o w t

-- the struct of C for an object, field by field: the figures of the request as `take_apart` has them, and for a battery none
abbrev pub flat_for : Object → ℕ → FlatRequest
flat_for (object.Fixed f p v a) w = flat_currents 0 (position_of w) (bit_of (mismatch_of w)) (record { 0 = operating_in w }) (record { 0 = maximum_in w })
flat_for (object.Battery x m p) w = flat_currents 1 (position_of w) (bit_of (mismatch_of w)) no_ma10 no_ma10
flat_for (object.Variable x m a) w = flat_currents 2 (position_of w) (bit_of (mismatch_of w)) (record { 0 = operating_in w }) (record { 0 = maximum_in w })
flat_for (object.Pps l x m a) w = flat_in_20_mV 3 (position_of w) (bit_of (mismatch_of w)) (pps_volts w) (current_in w)
flat_for (object.Avs p l h) w = flat_in_25_mV 4 (position_of w) (bit_of (mismatch_of w)) (avs_volts w) (current_in w)

abbrev pub ArinDecodedForTheKind : Type 0
ArinDecodedForTheKind =
    (l : Words) (w : ℕ) → bad_count l.count ≡ false → bad_position l.count (position_of w) ≡ false
    → (o : Object) → DecodeAnswers (get_or l.words (position_of w - 1) 0) (Some o)
    → (t : FlatTaken) → ArinTakeRequestAnswers l w t → (t.verdict ≡ success) × (t.request ≡ flat_for o w)

-- ---- agreement

-- "For every list that has its shape, and every request word that is decoded for an object of it, the answer from the summary of the list is the
-- answer from the list, number and place."
abbrev pub SummaryAgrees : Type 0
SummaryAgrees =
    (l : Words) (w : ℕ) → ShapeAnswers l success → (m : Summarized) → SummarizeAnswers l m
    → (a : QuickAsked) → TakeRequestAnswers l w (Ok (Quick a))
    → (r v : Verdict) → AnswerSummaryAnswers m.summary a r → AnswerAnswers l w v → r ≡ v

-- the same of a request that is taken apart in whatever way, for the object at its position
abbrev pub TakenApartAgrees : Type 0
TakenApartAgrees =
    (l : Words) (w : ℕ) → ShapeAnswers l success → (m : Summarized) → SummarizeAnswers l m
    → bad_position l.count (position_of w) ≡ false
    → (o : Object) → DecodeAnswers (get_or l.words (position_of w - 1) 0) (Some o)
    → (a : QuickAsked) → TakeApartAnswers o w (asked_as a)
    → (r v : Verdict) → AnswerSummaryAnswers m.summary a r → AnswerAnswers l w v → r ≡ v

-- "Where the position of a request word is outside the count, the answer from the list is 20, decoding gives 20, and every decoded request with
-- that position gets 20 from the summary."
abbrev pub OutsideIs20 : Type 0
OutsideIs20 =
    (l : Words) (w : ℕ) → ShapeAnswers l success → bad_position l.count (position_of w) ≡ true
    → ((v : Verdict) → AnswerAnswers l w v → v ≡ verdict 20 0)
    × (((t : Result TakenRequest Verdict) → TakeRequestAnswers l w t → t ≡ Err (verdict 20 0))
    × ((m : Summarized) → SummarizeAnswers l m → (a : QuickAsked) → bad_position l.count a.position ≡ true
    → (r : Verdict) → AnswerSummaryAnswers m.summary a r → r ≡ verdict 20 0))

-- a list that is built has its shape, so the summary of a built list agrees with it
abbrev pub BuiltAgrees : Type 0
BuiltAgrees =
    (p : Profile) (b : Listing) → BuildAnswers p b → b.verdict ≡ success → (w : ℕ) (m : Summarized) → SummarizeAnswers b.list m
    → (a : QuickAsked) → TakeRequestAnswers b.list w (Ok (Quick a))
    → (r v : Verdict) → AnswerSummaryAnswers m.summary a r → AnswerAnswers b.list w v → r ≡ v

-- the three calls of C: what decoding gives without a refusal, for an object that is no battery, gets the answer of `arin_answer`
abbrev pub ArinSummaryAgrees : Type 0
ArinSummaryAgrees =
    (l : Words) (w : ℕ) → ShapeAnswers l success → (m : Summarized) → ArinSummarizeAnswers l m
    → (t : FlatTaken) → ArinTakeRequestAnswers l w t → t.verdict ≡ success → (t.request.kind ≡ 1 → ⊥)
    → (r v : Verdict) → ArinAnswerSummaryAnswers m.summary t.request r → ArinAnswerAnswers l w v → r ≡ v

-- ---- at 15.0 V, of any summary: "exactly 15.0 V", "the larger of the two"

abbrev pub SummaryAt15V : Type 0
SummaryAt15V =
    (s : Summary) (a : QuickAsked) → s.count ≤ 7 → bad_position s.count a.position ≡ false
    → lowest_in (row_of s a.position) ≤ 15000 → 15000 ≤ highest_in (row_of s a.position)
    → (volts : Mv25) (current : Ma50) → a.request ≡ quick.Avs volts current → volts.0 ≡ 600
    → (r : Verdict) → AnswerSummaryAnswers s a r
    → r ≡ success ↔ (ma50 current ≤ max (below_in (row_of s a.position)) (above_in (row_of s a.position)))
