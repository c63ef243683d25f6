-- Proves the claims of specs/SummaryOutcomes.antt.
-- Assumes nothing.
use mathlib.Core.Path.{sym, ◌∙◌}
use Rattle.lists.specs.declared.Words.{Words}
use Rattle.summaries.specs.declared.Summary.{Summary}
use Rattle.demands.specs.SummaryContracts.{RowsOfAnswers, SummarizeAnswers, TakeRequestAnswers, AnswerSummaryAnswers, FlatTakeRequestAnswers, FlatAnswerSummaryAnswers, ArinSummarizeAnswers, ArinTakeRequestAnswers, ArinAnswerSummaryAnswers}
use Rattle.demands.specs.OneOutcome.{Settled}
use Rattle.demands.specs.SummaryOutcomes.{NoSecondSummaryOutcome}

-- ---- summaries

pub rows_of_settles : Settled RowsOfAnswers
rows_of_settles s q r e f = e ∙ sym f

pub summarize_settles : Settled SummarizeAnswers
summarize_settles l r s e f = e ∙ sym f

pub take_request_settles : (l : Words) → Settled (TakeRequestAnswers l)
take_request_settles l w r s e f = e ∙ sym f

pub answer_summary_settles : (s : Summary) → Settled (AnswerSummaryAnswers s)
answer_summary_settles s a r v e f = e ∙ sym f

-- ---- flat

pub flat_take_request_settles : (l : Words) → Settled (FlatTakeRequestAnswers l)
flat_take_request_settles l w r s e f = e ∙ sym f

pub flat_answer_summary_settles : (s : Summary) → Settled (FlatAnswerSummaryAnswers s)
flat_answer_summary_settles s x r v e f = e ∙ sym f

-- ---- board

pub arin_summarize_settles : Settled ArinSummarizeAnswers
arin_summarize_settles l r s e f = e ∙ sym f

pub arin_take_request_settles : (l : Words) → Settled (ArinTakeRequestAnswers l)
arin_take_request_settles l w r s e f = e ∙ sym f

pub arin_answer_summary_settles : (s : Summary) → Settled (ArinAnswerSummaryAnswers s)
arin_answer_summary_settles s x r v e f = e ∙ sym f

-- ---- all of them

pub no_second_summary_outcome : NoSecondSummaryOutcome
no_second_summary_outcome = record {
  rows_of = rows_of_settles;
  summarize = summarize_settles;
  take_request = take_request_settles;
  answer_summary = answer_summary_settles;
  flat_take_request = flat_take_request_settles;
  flat_answer_summary = flat_answer_summary_settles;
  arin_summarize = arin_summarize_settles;
  arin_take_request = arin_take_request_settles;
  arin_answer_summary = arin_answer_summary_settles;
}
