-- What each public call of this crate promises of its answer (STATEMENT, "Summaries"). The contracts cite these names, and so do the
-- theorems over them.
-- Assumes nothing.
use Rattle.std.specs.Prelude.{◌≡◌, List, ℕ, Result}
use Rattle.verdicts.specs.declared.Verdict.{Verdict}
use Rattle.lists.specs.declared.Words.{Words}
use Rattle.summaries.specs.declared.Summary.{Summary}
use Rattle.summaries.specs.declared.Summarized.{Summarized}
use Rattle.summaries.specs.declared.QuickAsked.{QuickAsked}
use Rattle.summaries.specs.declared.TakenRequest.{TakenRequest}
use Rattle.summaries.specs.Summaries.{summarized_of}
use Rattle.summaries.specs.Taking.{taken_of}
use Rattle.summaries.specs.Answering.{answered_by}

abbrev pub Summarizes : Words → Summarized → Type 0
Summarizes l r = r ≡ summarized_of l

abbrev pub TakesRequest : Words → ℕ → Result TakenRequest Verdict → Type 0
TakesRequest l w r = r ≡ taken_of l w

abbrev pub AnswersSummary : Summary → QuickAsked → Verdict → Type 0
AnswersSummary s a r = r ≡ answered_by s a

abbrev pub HasRows : Summary → List (List ℕ) → Type 0
HasRows s r = r ≡ s.rows
