-- The contract of each call over summaries and decoded requests, and of each of them under its C name. As in CallContracts each name is the
-- clause of the source itself. Nothing is claimed here.
-- Assumes nothing.
use Rattle.std.specs.Prelude.{List, ℕ, Result}
use Rattle.verdicts.specs.declared.Verdict.{Verdict}
use Rattle.lists.specs.declared.Words.{Words}
use Rattle.summaries.specs.declared.Summary.{Summary}
use Rattle.summaries.specs.declared.Summarized.{Summarized}
use Rattle.summaries.specs.declared.QuickAsked.{QuickAsked}
use Rattle.summaries.specs.declared.TakenRequest.{TakenRequest}
use Rattle.summaries.proofs.rows_of.Reads as rows_of
use Rattle.summaries.proofs.summarize.Reads as summarize
use Rattle.summaries.proofs.take_request.Reads as take_request
use Rattle.summaries.proofs.answer_summary.Reads as answer_summary
use Rattle.flat.specs.declared.FlatRequest.{FlatRequest}
use Rattle.flat.specs.declared.FlatTaken.{FlatTaken}
use Rattle.flat.proofs.flat_take_request.Reads as flat_take_request
use Rattle.flat.proofs.flat_answer_summary.Reads as flat_answer_summary
use Rattle.board.proofs.arin_summarize.Reads as arin_summarize
use Rattle.board.proofs.arin_take_request.Reads as arin_take_request
use Rattle.board.proofs.arin_answer_summary.Reads as arin_answer_summary

-- ---- summaries

abbrev pub RowsOfAnswers : Summary → List (List ℕ) → Type 0
RowsOfAnswers s r = rows_of.Post tt (s, tt) r (s, tt)

abbrev pub SummarizeAnswers : Words → Summarized → Type 0
SummarizeAnswers l r = summarize.Post tt (l, tt) r (l, tt)

abbrev pub TakeRequestAnswers : Words → ℕ → Result TakenRequest Verdict → Type 0
TakeRequestAnswers l w r = take_request.Post tt (l, (w, tt)) r (l, (w, tt))

abbrev pub AnswerSummaryAnswers : Summary → QuickAsked → Verdict → Type 0
AnswerSummaryAnswers s a r = answer_summary.Post tt (s, (a, tt)) r (s, (a, tt))

-- ---- flat

abbrev pub FlatTakeRequestAnswers : Words → ℕ → FlatTaken → Type 0
FlatTakeRequestAnswers l w r = flat_take_request.Post tt (l, (w, tt)) r (l, (w, tt))

abbrev pub FlatAnswerSummaryAnswers : Summary → FlatRequest → Verdict → Type 0
FlatAnswerSummaryAnswers s x r = flat_answer_summary.Post tt (s, (x, tt)) r (s, (x, tt))

-- ---- board

abbrev pub ArinSummarizeAnswers : Words → Summarized → Type 0
ArinSummarizeAnswers l r = arin_summarize.Post tt (l, tt) r (l, tt)

abbrev pub ArinTakeRequestAnswers : Words → ℕ → FlatTaken → Type 0
ArinTakeRequestAnswers l w r = arin_take_request.Post tt (l, (w, tt)) r (l, (w, tt))

abbrev pub ArinAnswerSummaryAnswers : Summary → FlatRequest → Verdict → Type 0
ArinAnswerSummaryAnswers s x r = arin_answer_summary.Post tt (s, (x, tt)) r (s, (x, tt))
