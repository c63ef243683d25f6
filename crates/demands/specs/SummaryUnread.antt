-- What the calls over summaries do not look at. Of a list places past the count (docs/STATEMENT.md, "Lists in hand"), and decoding "looks at the
-- count of the list and at the word that is named, at nothing else" ("Decoded requests"). Of a summary rows past the count, and every row but that
-- of the position; of the struct of C the fields that its kind does not have. Each claim is proved by the theorem of its name in small letters in proofs/SummaryUnread.antt.
-- `AgreeWords` (lists, specs/Unread): the same count, and the same up to it.
-- Assumes nothing.
use Rattle.std.specs.Prelude.{◌≡◌, false, ℕ, ◌-◌, get_or, Result}
use Rattle.verdicts.specs.declared.Verdict.{Verdict}
use Rattle.lists.specs.declared.Words.{Words}
use Rattle.lists.specs.Unread.{AgreeWords}
use Rattle.requests.specs.Taking.{position_of}
use Rattle.requests.specs.Answering.{bad_position}
use Rattle.summaries.specs.declared.Summary.{Summary}
use Rattle.summaries.specs.declared.Summarized.{Summarized}
use Rattle.summaries.specs.declared.QuickAsked.{QuickAsked}
use Rattle.summaries.specs.declared.TakenRequest.{TakenRequest}
use Rattle.summaries.specs.Answering.{row_of}
use Rattle.flat.specs.declared.FlatRequest.{FlatRequest}
use Rattle.flat.specs.declared.FlatTaken.{FlatTaken}
use Rattle.flat.specs.Requesting.{own_request}
use Rattle.demands.specs.SummaryContracts.{SummarizeAnswers, TakeRequestAnswers, AnswerSummaryAnswers, FlatTakeRequestAnswers, FlatAnswerSummaryAnswers, ArinSummarizeAnswers, ArinTakeRequestAnswers, ArinAnswerSummaryAnswers}

-- ---- lists

abbrev pub SummarizeDoesNotLook : Type 0
SummarizeDoesNotLook = (l m : Words) → AgreeWords l m → (r s : Summarized) → SummarizeAnswers l r → SummarizeAnswers m s → r ≡ s

abbrev pub ArinSummarizeDoesNotLook : Type 0
ArinSummarizeDoesNotLook = (l m : Words) → AgreeWords l m → (r s : Summarized) → ArinSummarizeAnswers l r → ArinSummarizeAnswers m s → r ≡ s

-- lists of the same count, with the same word where the position of a request word names one
pub record SameNamed (l m : Words) (w : ℕ) : Type 0 where
  pub count : l.count ≡ m.count
  pub word : bad_position l.count (position_of w) ≡ false → get_or l.words (position_of w - 1) 0 ≡ get_or m.words (position_of w - 1) 0

abbrev pub TakeRequestLooksAtOne : Type 0
TakeRequestLooksAtOne =
    (l m : Words) (w : ℕ) → SameNamed l m w → (r s : Result TakenRequest Verdict) → TakeRequestAnswers l w r → TakeRequestAnswers m w s → r ≡ s

abbrev pub FlatTakeRequestLooksAtOne : Type 0
FlatTakeRequestLooksAtOne =
    (l m : Words) (w : ℕ) → SameNamed l m w → (r s : FlatTaken) → FlatTakeRequestAnswers l w r → FlatTakeRequestAnswers m w s → r ≡ s

abbrev pub ArinTakeRequestLooksAtOne : Type 0
ArinTakeRequestLooksAtOne =
    (l m : Words) (w : ℕ) → SameNamed l m w → (r s : FlatTaken) → ArinTakeRequestAnswers l w r → ArinTakeRequestAnswers m w s → r ≡ s

-- ---- summaries

-- summaries of the same count, with the same row where a position has one
pub record SameRow (s t : Summary) (position : ℕ) : Type 0 where
  pub count : s.count ≡ t.count
  pub row : bad_position s.count position ≡ false → row_of s position ≡ row_of t position

abbrev pub AnswerSummaryLooksAtOne : Type 0
AnswerSummaryLooksAtOne =
    (s t : Summary) (a : QuickAsked) → SameRow s t a.position → (r v : Verdict) → AnswerSummaryAnswers s a r → AnswerSummaryAnswers t a v → r ≡ v

abbrev pub FlatAnswerSummaryLooksAtOne : Type 0
FlatAnswerSummaryLooksAtOne =
    (s t : Summary) (x : FlatRequest) → SameRow s t x.position
    → (r v : Verdict) → FlatAnswerSummaryAnswers s x r → FlatAnswerSummaryAnswers t x v → r ≡ v

abbrev pub ArinAnswerSummaryLooksAtOne : Type 0
ArinAnswerSummaryLooksAtOne =
    (s t : Summary) (x : FlatRequest) → SameRow s t x.position
    → (r v : Verdict) → ArinAnswerSummaryAnswers s x r → ArinAnswerSummaryAnswers t x v → r ≡ v

-- ---- the struct of C

-- "Fields that the kind does not have are not looked at": flat requests that differ in those alone get the same answer
abbrev pub ArinAnswerSummaryOwnFields : Type 0
ArinAnswerSummaryOwnFields =
    (s : Summary) (x y : FlatRequest) → own_request x ≡ own_request y
    → (r v : Verdict) → ArinAnswerSummaryAnswers s x r → ArinAnswerSummaryAnswers s y v → r ≡ v

-- ".. and are zero in what is given back"
abbrev pub ArinTakeRequestOwnFields : Type 0
ArinTakeRequestOwnFields = (l : Words) (w : ℕ) (t : FlatTaken) → ArinTakeRequestAnswers l w t → own_request t.request ≡ t.request
