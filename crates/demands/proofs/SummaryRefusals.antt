-- Proves the claims of specs/SummaryRefusals.antt.
-- Assumes nothing.
use Rattle.std.specs.Prelude.{Result}
use mathlib.Core.Path.{◌≡◌, refl, sym, ap, ◌∙◌, subst}
use mathlib.Core.Bool.{true}
use Prim.Native.Nat.{ℕ}
use Rattle.verdicts.specs.declared.Verdict.{Verdict}
use Rattle.verdicts.specs.Refusals.{success}
use Rattle.verdicts.proofs.First.{numbered, exactly, telling_numbered}
use Rattle.objects.specs.declared.Side.TheVariants.{Source}
use Rattle.lists.specs.declared.Words.{Words}
use Rattle.lists.specs.Shape.{shape_refusals}
use Rattle.lists.proofs.Shapes.{shape_numbered}
use Rattle.summaries.specs.declared.Summary.{Summary}
use Rattle.summaries.specs.declared.Summarized.{Summarized}
use Rattle.summaries.specs.declared.TakenRequest.{TakenRequest}
use Rattle.summaries.specs.Summaries.{no_summary, summary_of, summary_refused, summarized_of}
use Rattle.summaries.specs.Taking.{decoding_refusals, taken_refused, taken_verdict, taken_of}
use Rattle.summaries.specs.Answering.{summary_refusals}
use Rattle.summaries.proofs.Answers.{summary_numbered, answered_verdict}
use Rattle.summaries.proofs.Takings.{quick_succeeds}
use Rattle.flat.specs.declared.FlatRequest.{FlatRequest}
use Rattle.flat.specs.declared.FlatTaken.{FlatTaken}
use Rattle.flat.specs.Requesting.{no_request, flat_taken_by, flat_taken_of, flat_answer_refusals, flat_answered_of}
use Rattle.flat.proofs.Requests.{flat_numbered, flat_answered, flat_taken, flat_taken_verdict}
use Rattle.demands.specs.Refusals.{Answers}
use Rattle.demands.specs.SummaryRefusals.{SummarizeRefusals, TakeRequestRefusals, AnswerSummaryRefusals, FlatTakeRequestRefusals, FlatAnswerSummaryRefusals, ArinSummarizeRefusals, ArinTakeRequestRefusals, ArinAnswerSummaryRefusals}
use Rattle.demands.proofs.Refusals.{answers, answers_with}

-- ---- summaries

summarized : (l : Words) (r : Summarized) → r ≡ summarized_of l
    → Answers r.verdict (shape_refusals l) × ((r.verdict ≡ success → ⊥) → r.summary ≡ no_summary)
unfolding summarized_of
summarized l r e =
    let rs = shape_refusals l in
    let both = answers_with (λ (s : Summarized). s.verdict) summary_refused (λ n p. refl) rs (telling_numbered rs (shape_numbered Source l))
    (record { verdict = success; summary = summary_of l }) refl r e in
    (both.0, λ f. ap (λ (s : Summarized). s.summary) (both.1 f))

pub summarize_refusals : SummarizeRefusals
summarize_refusals l r e = summarized l r e

pub decoding_numbered : (l : Words) (w : ℕ) → numbered (decoding_refusals l w) ≡ true
decoding_numbered l w = refl

-- the verdict of decoding, and what is given where it is refused
decoded : (l : Words) (w : ℕ) (r : Result TakenRequest Verdict) → r ≡ taken_of l w
    → Answers (taken_verdict r) (decoding_refusals l w) × ((taken_verdict r ≡ success → ⊥) → r ≡ taken_refused (taken_verdict r).number (taken_verdict r).place)
unfolding taken_of
decoded l w r e =
    let rs = decoding_refusals l w in
    let both = answers_with taken_verdict taken_refused (λ n p. refl) rs (telling_numbered rs (decoding_numbered l w)) _ (quick_succeeds l w) r e in
    (both.0, λ f. both.1 f ∙ ap (λ (v : Verdict). taken_refused v.number v.place) (sym (ap taken_verdict (both.1 f))))

pub take_request_refusals : TakeRequestRefusals
take_request_refusals l w r e = (decoded l w r e).0

pub answer_summary_refusals : AnswerSummaryRefusals
answer_summary_refusals s a r e =
    answers r (summary_refusals s a) (exactly (summary_refusals s a) (summary_numbered s a)) (e ∙ answered_verdict s a)

-- ---- flat

flat_decoded : (l : Words) (w : ℕ) (r : FlatTaken) → r ≡ flat_taken_of l w
    → Answers r.verdict (decoding_refusals l w) × ((r.verdict ≡ success → ⊥) → r.request ≡ no_request)
flat_decoded l w r e =
    let v = ap (λ (t : FlatTaken). t.verdict) e ∙ flat_taken_verdict l w in
    let both = decoded l w (taken_of l w) refl in (
      subst (λ (u : Verdict). Answers u (decoding_refusals l w)) (sym v) both.0,
      λ f. ap (λ (t : FlatTaken). t.request) (e ∙ flat_taken l w ∙ ap flat_taken_by (both.1 (λ z. f (v ∙ z)))),
    )

pub flat_take_request_refusals : FlatTakeRequestRefusals
flat_take_request_refusals l w r e = flat_decoded l w r e

flat_answers : (s : Summary) (x : FlatRequest) (r : Verdict) → r ≡ flat_answered_of s x → Answers r (flat_answer_refusals s x)
flat_answers s x r e = answers r (flat_answer_refusals s x) (exactly (flat_answer_refusals s x) (flat_numbered s x)) (e ∙ flat_answered s x)

pub flat_answer_summary_refusals : FlatAnswerSummaryRefusals
flat_answer_summary_refusals s x r e = flat_answers s x r e

-- ---- board

pub arin_summarize_refusals : ArinSummarizeRefusals
arin_summarize_refusals l r e = summarized l r e

pub arin_take_request_refusals : ArinTakeRequestRefusals
arin_take_request_refusals l w r e = flat_decoded l w r e

pub arin_answer_summary_refusals : ArinAnswerSummaryRefusals
arin_answer_summary_refusals s x r e = flat_answers s x r e
