-- What each public call of this crate promises of its answer (STATEMENT, "Answering a request"). The contracts cite these names, and so
-- do the theorems over them.
-- Assumes nothing.
use Rattle.std.specs.Prelude.{◌≡◌, ℕ}
use Rattle.verdicts.specs.declared.Verdict.{Verdict}
use Rattle.objects.specs.declared.Object.{Object}
use Rattle.lists.specs.declared.Words.{Words}
use Rattle.requests.specs.declared.Asked.{Asked}
use Rattle.requests.specs.Taking.{position_of, taken_apart}
use Rattle.requests.specs.Judging.{judged_of}
use Rattle.requests.specs.Answering.{answer_of}

abbrev pub NamesPlace : ℕ → ℕ → Type 0
NamesPlace w r = r ≡ position_of w

abbrev pub TakesApart : Object → ℕ → Asked → Type 0
TakesApart o w r = r ≡ taken_apart o w

abbrev pub JudgesRequest : Object → ℕ → Verdict → Type 0
JudgesRequest o w r = r ≡ judged_of o w

abbrev pub AnswersRequest : Words → ℕ → Verdict → Type 0
AnswersRequest l w r = r ≡ answer_of l w
