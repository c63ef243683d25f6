-- What each call over summaries promises of its answer (STATEMENT, "Summaries"): the definition of the floor below. The contracts cite
-- these names, and so do the theorems over them.
-- Assumes nothing.
use Rattle.std.specs.Prelude.{◌≡◌, ℕ}
use Rattle.verdicts.specs.declared.Verdict.{Verdict}
use Rattle.lists.specs.declared.Words.{Words}
use Rattle.summaries.specs.declared.Summary.{Summary}
use Rattle.summaries.specs.declared.Summarized.{Summarized}
use Rattle.summaries.specs.Summaries.{summarized_of}
use Rattle.flat.specs.declared.FlatRequest.{FlatRequest}
use Rattle.flat.specs.declared.FlatTaken.{FlatTaken}
use Rattle.flat.specs.Requesting.{flat_taken_of, flat_answered_of}

abbrev pub ArinSummarizes : Words → Summarized → Type 0
ArinSummarizes l r = r ≡ summarized_of l

abbrev pub ArinTakesRequest : Words → ℕ → FlatTaken → Type 0
ArinTakesRequest l w r = r ≡ flat_taken_of l w

abbrev pub ArinAnswersSummary : Summary → FlatRequest → Verdict → Type 0
ArinAnswersSummary s x r = r ≡ flat_answered_of s x
