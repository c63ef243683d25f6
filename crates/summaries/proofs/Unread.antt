-- What the calls over summaries do not look at: places past the count, and in decoding and answering all but what the position names.
-- Assumes nothing.
use Rattle.std.specs.Prelude.{Option, Result, Ok}
use Rattle.objects.specs.declared.Object.{Object}
use mathlib.Core.Path.{◌≡◌, refl, sym, ap, ap₂, ◌∙◌, subst}
use mathlib.Core.Bool.{Bool, true, false}
use mathlib.Core.List.{List, [], ◌∷◌}
use Prim.Native.Nat.{ℕ, ◌-◌, ◌<◌, ◌≤◌}
use lib.Dec.{ltb, eqb}
use lib.ListN.{get_or}
use borrow.Author.Tests.{ltb-true, ltb-false}
use Rattle.verdicts.specs.declared.Verdict.{Verdict}
use Rattle.verdicts.specs.Refusals.{refusal, first_of, success, verdict_of}
use Rattle.objects.specs.declared.Side.TheVariants.{Source}
use Rattle.objects.specs.Decode.{decode_of, decoded_number}
use Rattle.lists.specs.declared.Words.{Words}
use Rattle.lists.specs.Shape.{bad_count}
use Rattle.lists.specs.Reading.{object_of}
use Rattle.lists.specs.Unread.{AgreeWords}
use Rattle.lists.proofs.Unread.{recounted, same_taken}
use Rattle.requests.specs.Taking.{position_of, taken_apart}
use Rattle.requests.specs.Answering.{bad_position}
use Rattle.summaries.specs.declared.Summary.{Summary}
use Rattle.summaries.specs.declared.QuickAsked.{QuickAsked}
use Rattle.summaries.specs.declared.TakenRequest.{TakenRequest}
use Rattle.summaries.specs.Summaries.{no_limits, limits_in, summary_with, summary_refused, summarized_of}
use Rattle.summaries.specs.Taking.{quick_of, taken_refused, taken_of}
use Rattle.summaries.specs.Answering.{row_of, row_refusals, answered_by}
use Rattle.summaries.proofs.Answers.{too_many_rows, misplaced}
use Rattle.summaries.proofs.Takings as takings

pub summary_unread : (l m : Words) → AgreeWords l m → summarized_of l ≡ summarized_of m
unfolding summarized_of
summary_unread l m a =
    same_taken Source l.words m.words l.count a.words summary_refused
    (λ (rs : List (List ℕ)). record { verdict = success; summary = summary_with l.count rs }) no_limits (λ (w : ℕ). limits_in (decode_of w))
    ∙ recounted summarized_of l m a

-- decoding, by the count and what the named word stands for
abbrev taken_by : ℕ → ℕ → Option Object → Result TakenRequest Verdict
taken_by w n d =
    first_of taken_refused
    (refusal (bad_count n) 10 0
    ∷ refusal (bad_position n (position_of w)) 20 0
    ∷ refusal (eqb (decoded_number d) 12) 12 (position_of w)
    ∷ [])
    (Ok (quick_of (taken_apart (object_of d) w)))

taken_by_one : (l m : Words) (w : ℕ) → l.count ≡ m.count
    → get_or l.words (position_of w - 1) 0 ≡ get_or m.words (position_of w - 1) 0 → taken_of l w ≡ taken_of m w
unfolding taken_of
taken_by_one l m w e f = ap₂ (taken_by w) e (ap decode_of f)

-- answering, by the count and the row
answered_by_one : (s t : Summary) (a : QuickAsked) → s.count ≡ t.count → row_of s a.position ≡ row_of t a.position → answered_by s a ≡ answered_by t a
unfolding answered_by
answered_by_one s t a e f =
    ap₂ (λ (n : ℕ) (ls : List ℕ). verdict_of
    (refusal (ltb 7 n) 10 0 ∷ refusal (bad_position n a.position) 20 0 ∷ row_refusals ls a.mismatch a.request)) e f

-- ---- where nothing is named, nothing is looked at

pub taken_alike : (l m : Words) (w : ℕ) → l.count ≡ m.count
    → (bad_position l.count (position_of w) ≡ false → get_or l.words (position_of w - 1) 0 ≡ get_or m.words (position_of w - 1) 0) → taken_of l w ≡ taken_of m w
taken_alike l m w e f = go (bad_count l.count) refl (bad_position l.count (position_of w)) refl where
  go : (a : Bool) → bad_count l.count ≡ a → (b : Bool) → bad_position l.count (position_of w) ≡ b → taken_of l w ≡ taken_of m w
  go true p b q = takings.miscounted l w p ∙ sym (takings.miscounted m w (ap bad_count (sym e) ∙ p))
  go false p true q =
      takings.misplaced l w p q
      ∙ sym (takings.misplaced m w (ap bad_count (sym e) ∙ p) (ap (λ (n : ℕ). bad_position n (position_of w)) (sym e) ∙ q))
  go false p false q = taken_by_one l m w e (f q)

pub answered_alike : (s t : Summary) (a : QuickAsked) → s.count ≡ t.count
    → (bad_position s.count a.position ≡ false → row_of s a.position ≡ row_of t a.position) → answered_by s a ≡ answered_by t a
answered_alike s t a e f = go (ltb 7 s.count) refl (bad_position s.count a.position) refl where
  go : (b : Bool) → ltb 7 s.count ≡ b → (c : Bool) → bad_position s.count a.position ≡ c → answered_by s a ≡ answered_by t a
  go true p c q =
      let more = ltb-true 7 s.count p in
      too_many_rows s a more ∙ sym (too_many_rows t a (subst (λ (n : ℕ). 7 < n) e more))
  go false p true q =
      let most = ltb-false 7 s.count p in
      misplaced s a most q
      ∙ sym (misplaced t a (subst (λ (n : ℕ). n ≤ 7) e most) (ap (λ (n : ℕ). bad_position n a.position) (sym e) ∙ q))
  go false p false q = answered_by_one s t a e (f q)
