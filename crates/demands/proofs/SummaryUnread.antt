-- Proves the claims of specs/SummaryUnread.antt.
-- Assumes nothing.
use mathlib.Core.Path.{◌≡◌, sym, ap, ◌∙◌, subst}
use Rattle.summaries.proofs.Unread.{summary_unread, taken_alike, answered_alike}
use Rattle.flat.specs.declared.FlatTaken.{FlatTaken}
use Rattle.flat.specs.Requesting.{flat_answered_of, own_request}
use Rattle.flat.proofs.Requests.{flat_taken_by_one, flat_answered_alike, flat_answered_by_own, flat_taken_own}
use Rattle.demands.specs.SummaryUnread.{SummarizeDoesNotLook, ArinSummarizeDoesNotLook, TakeRequestLooksAtOne, FlatTakeRequestLooksAtOne, ArinTakeRequestLooksAtOne, AnswerSummaryLooksAtOne, FlatAnswerSummaryLooksAtOne, ArinAnswerSummaryLooksAtOne, ArinAnswerSummaryOwnFields, ArinTakeRequestOwnFields}

-- ---- lists

pub summarize_does_not_look : SummarizeDoesNotLook
summarize_does_not_look l m a r s e f = e ∙ summary_unread l m a ∙ sym f

pub arin_summarize_does_not_look : ArinSummarizeDoesNotLook
arin_summarize_does_not_look l m a r s e f = e ∙ summary_unread l m a ∙ sym f

pub take_request_looks_at_one : TakeRequestLooksAtOne
take_request_looks_at_one l m w same r s e f = e ∙ taken_alike l m w same.count same.word ∙ sym f

pub flat_take_request_looks_at_one : FlatTakeRequestLooksAtOne
flat_take_request_looks_at_one l m w same r s e f = e ∙ flat_taken_by_one l m w (taken_alike l m w same.count same.word) ∙ sym f

pub arin_take_request_looks_at_one : ArinTakeRequestLooksAtOne
arin_take_request_looks_at_one l m w same r s e f = e ∙ flat_taken_by_one l m w (taken_alike l m w same.count same.word) ∙ sym f

-- ---- summaries

pub answer_summary_looks_at_one : AnswerSummaryLooksAtOne
answer_summary_looks_at_one s t a same r v e f = e ∙ answered_alike s t a same.count same.row ∙ sym f

pub flat_answer_summary_looks_at_one : FlatAnswerSummaryLooksAtOne
flat_answer_summary_looks_at_one s t x same r v e f = e ∙ flat_answered_alike s t x same.count same.row ∙ sym f

pub arin_answer_summary_looks_at_one : ArinAnswerSummaryLooksAtOne
arin_answer_summary_looks_at_one s t x same r v e f = e ∙ flat_answered_alike s t x same.count same.row ∙ sym f

-- ---- the struct of C

pub arin_answer_summary_own_fields : ArinAnswerSummaryOwnFields
arin_answer_summary_own_fields s x y same r v e f =
    e ∙ sym (flat_answered_by_own s x) ∙ ap (flat_answered_of s) same ∙ flat_answered_by_own s y ∙ sym f

pub arin_take_request_own_fields : ArinTakeRequestOwnFields
arin_take_request_own_fields l w t e = subst (λ (x : FlatTaken). own_request x.request ≡ x.request) (sym e) (flat_taken_own l w)
