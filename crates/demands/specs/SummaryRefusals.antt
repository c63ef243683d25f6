-- Demand 1, refusals, for the calls over summaries and decoded requests: number n with its place is given exactly when refusal n applies there
-- and none before it does. On a refusal all else in the answer is zero. Each claim is proved by the theorem of its name in small letters in
-- proofs/SummaryRefusals.antt; the order is in docs/STATEMENT.md, "Refusal numbers".
-- Assumes nothing.
use Rattle.std.specs.Prelude.{◌≡◌, ℕ, Result}
use Rattle.verdicts.specs.declared.Verdict.{Verdict}
use Rattle.verdicts.specs.Refusals.{success}
use Rattle.lists.specs.declared.Words.{Words}
use Rattle.lists.specs.Shape.{shape_refusals}
use Rattle.summaries.specs.declared.Summary.{Summary}
use Rattle.summaries.specs.declared.Summarized.{Summarized}
use Rattle.summaries.specs.declared.QuickAsked.{QuickAsked}
use Rattle.summaries.specs.declared.TakenRequest.{TakenRequest}
use Rattle.summaries.specs.Summaries.{no_summary}
use Rattle.summaries.specs.Taking.{decoding_refusals, taken_verdict}
use Rattle.summaries.specs.Answering.{summary_refusals}
use Rattle.flat.specs.declared.FlatRequest.{FlatRequest}
use Rattle.flat.specs.declared.FlatTaken.{FlatTaken}
use Rattle.flat.specs.Requesting.{no_request, flat_answer_refusals}
use Rattle.demands.specs.SummaryContracts.{SummarizeAnswers, TakeRequestAnswers, AnswerSummaryAnswers, FlatTakeRequestAnswers, FlatAnswerSummaryAnswers, ArinSummarizeAnswers, ArinTakeRequestAnswers, ArinAnswerSummaryAnswers}
use Rattle.demands.specs.Refusals.{Answers}

-- ---- summaries

-- "Making a summary refuses exactly what the shape check refuses"
abbrev pub SummarizeRefusals : Type 0
SummarizeRefusals =
    (l : Words) (r : Summarized) → SummarizeAnswers l r
    → Answers r.verdict (shape_refusals l) × ((r.verdict ≡ success → ⊥) → r.summary ≡ no_summary)

-- a refusal is all that a refused decoding gives, by its type
abbrev pub TakeRequestRefusals : Type 0
TakeRequestRefusals =
    (l : Words) (w : ℕ) (r : Result TakenRequest Verdict) → TakeRequestAnswers l w r → Answers (taken_verdict r) (decoding_refusals l w)

abbrev pub AnswerSummaryRefusals : Type 0
AnswerSummaryRefusals = (s : Summary) (a : QuickAsked) (r : Verdict) → AnswerSummaryAnswers s a r → Answers r (summary_refusals s a)

-- ---- flat

abbrev pub FlatTakeRequestRefusals : Type 0
FlatTakeRequestRefusals =
    (l : Words) (w : ℕ) (r : FlatTaken) → FlatTakeRequestAnswers l w r
    → Answers r.verdict (decoding_refusals l w) × ((r.verdict ≡ success → ⊥) → r.request ≡ no_request)

-- "in C 12 before them"
abbrev pub FlatAnswerSummaryRefusals : Type 0
FlatAnswerSummaryRefusals = (s : Summary) (x : FlatRequest) (r : Verdict) → FlatAnswerSummaryAnswers s x r → Answers r (flat_answer_refusals s x)

-- ---- board

abbrev pub ArinSummarizeRefusals : Type 0
ArinSummarizeRefusals =
    (l : Words) (r : Summarized) → ArinSummarizeAnswers l r
    → Answers r.verdict (shape_refusals l) × ((r.verdict ≡ success → ⊥) → r.summary ≡ no_summary)

abbrev pub ArinTakeRequestRefusals : Type 0
ArinTakeRequestRefusals =
    (l : Words) (w : ℕ) (r : FlatTaken) → ArinTakeRequestAnswers l w r
    → Answers r.verdict (decoding_refusals l w) × ((r.verdict ≡ success → ⊥) → r.request ≡ no_request)

abbrev pub ArinAnswerSummaryRefusals : Type 0
ArinAnswerSummaryRefusals = (s : Summary) (x : FlatRequest) (r : Verdict) → ArinAnswerSummaryAnswers s x r → Answers r (flat_answer_refusals s x)
