-- No second outcome, for the calls over summaries and decoded requests: for every input the contract allows one answer only.
-- `NoSecondSummaryOutcome` has a line for each of them, by its name. Each line is proved by the theorem of its name, `summarize_settles` for
-- `summarize`, and all together by `no_second_summary_outcome`, in proofs/SummaryOutcomes.antt (docs/STATEMENT.md, "What the contracts settle").
-- Assumes nothing.
use Rattle.lists.specs.declared.Words.{Words}
use Rattle.summaries.specs.declared.Summary.{Summary}
use Rattle.demands.specs.SummaryContracts.{RowsOfAnswers, SummarizeAnswers, TakeRequestAnswers, AnswerSummaryAnswers, FlatTakeRequestAnswers, FlatAnswerSummaryAnswers, ArinSummarizeAnswers, ArinTakeRequestAnswers, ArinAnswerSummaryAnswers}
use Rattle.demands.specs.OneOutcome.{Settled}

pub record NoSecondSummaryOutcome : Type 0 where
  -- summaries
  pub rows_of : Settled RowsOfAnswers
  pub summarize : Settled SummarizeAnswers
  pub take_request : (l : Words) → Settled (TakeRequestAnswers l)
  pub answer_summary : (s : Summary) → Settled (AnswerSummaryAnswers s)
  -- flat
  pub flat_take_request : (l : Words) → Settled (FlatTakeRequestAnswers l)
  pub flat_answer_summary : (s : Summary) → Settled (FlatAnswerSummaryAnswers s)
  -- board
  pub arin_summarize : Settled ArinSummarizeAnswers
  pub arin_take_request : (l : Words) → Settled (ArinTakeRequestAnswers l)
  pub arin_answer_summary : (s : Summary) → Settled (ArinAnswerSummaryAnswers s)
