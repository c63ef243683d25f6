-- The cases of the shape check, and what a shape that passes says of the list.
-- Assumes nothing.
use mathlib.Core.Path.{◌≡◌, refl, sym, ap, ◌∙◌, subst}
use mathlib.Core.Bool.{Bool, true, false, not}
use mathlib.Core.List.{List}
use Prim.Native.Nat.{ℕ, ◌≤◌, ◌<◌}
use native.Mathlib.Omega.{arith}
use lib.Dec.{ltb}
use lib.ListN.{get_or}
use borrow.Author.Tests.{lt-ltb, le-ltb, ltb-false}
use Rattle.verdicts.proofs.Bools.{either_false}
use Rattle.verdicts.specs.declared.Verdict.{Verdict}
use Rattle.verdicts.specs.Refusals.{Refusal, each_place, first_of, verdict, success, verdict_of, NoneApply}
use Rattle.verdicts.proofs.First.{hit, miss, onward, onto, by_first, numbered, numbered_append, numbered_places, none_applied, none_left, none_at, passes, refused_so, all_missed}
use Rattle.objects.specs.declared.Side.{Side}
use Rattle.objects.specs.declared.Side.TheVariants.{Source, Sink}
use Rattle.lists.specs.declared.Words.{Words}
use Rattle.lists.specs.declared.Shaped.{Shaped}
use Rattle.lists.specs.Shape.{bad_count, is_fixed_5_V, word_rows, avs_rows, agreement_rows, refusals_for, shape_for, shaped_refused, shaped_of}

-- ---- the count

pub too_few : (n : ℕ) → n < 1 → bad_count n ≡ true
too_few n h = rw (lt-ltb n 1 h)

pub too_many : (n : ℕ) → 1 ≤ n → 7 < n → bad_count n ≡ true
too_many n h k = rw (le-ltb n 1 h, lt-ltb 7 n k)

pub counted : (n : ℕ) → 1 ≤ n → n ≤ 7 → bad_count n ≡ false
counted n h k = rw (le-ltb n 1 h, le-ltb 7 n k)

pub count_low : (n : ℕ) → bad_count n ≡ false → 1 ≤ n
count_low n e = ltb-false n 1 (either_false (ltb n 1) (ltb 7 n) e).0

pub count_high : (n : ℕ) → bad_count n ≡ false → n ≤ 7
count_high n e = ltb-false 7 n (either_false (ltb n 1) (ltb 7 n) e).1

-- ---- the cases, in order

module _ (side : Side) (l : Words) where
  abbrev pub words_part : List Refusal
  words_part = each_place (word_rows side l.words) l.count

  pub miscounted : bad_count l.count ≡ true → shape_for side l ≡ verdict 10 0
  unfolding shape_for
  miscounted e = hit verdict success 10 0 _ e

  -- past the count and the first word, the words decide and then the AVS words
  module _ {A : Type 0} (refused : ℕ → ℕ → A) (answer : A) (e : bad_count l.count ≡ false) where
    pub misbegun : is_fixed_5_V (get_or l.words 0 0) ≡ false → first_of refused (refusals_for side l) answer ≡ refused 11 1
    misbegun f = miss refused answer 10 0 _ e ∙ hit refused answer 11 1 _ (ap not f)

    pub begun : is_fixed_5_V (get_or l.words 0 0) ≡ true
        → first_of refused (refusals_for side l) answer ≡ first_of refused words_part (first_of refused (agreement_rows side l) answer)
    begun f =
        miss refused answer 10 0 _ e ∙ miss refused answer 11 1 _ (ap not f) ∙ onward refused answer words_part (agreement_rows side l)

  -- ---- every row has a number

  pub words_numbered : numbered words_part ≡ true
  words_numbered = numbered_places (word_rows side l.words) (λ k. refl) l.count

agreement_numbered : (side : Side) (l : Words) → numbered (agreement_rows side l) ≡ true
agreement_numbered Source l = numbered_places (avs_rows l.words l.count) (λ k. refl) l.count
agreement_numbered Sink l = refl

module _ (side : Side) (l : Words) where
  pub shape_numbered : numbered (refusals_for side l) ≡ true
  shape_numbered = numbered_append (words_part side l) (agreement_rows side l) (words_numbered side l) (agreement_numbered side l)

  -- ---- a shape that passes

  pub shape_verdict : shape_for side l ≡ verdict_of (refusals_for side l)
  unfolding shape_for
  shape_verdict = refl

  pub none_of : (shape_for side l).number ≡ 0 → NoneApply (refusals_for side l)
  unfolding shape_for
  none_of e = none_applied (refusals_for side l) shape_numbered e

  pub word_passes : NoneApply (refusals_for side l) → (k : ℕ) → k < l.count → NoneApply (word_rows side l.words k)
  word_passes x k h = none_at (word_rows side l.words) l.count k (none_left (words_part side l) (agreement_rows side l) x.1.1) h

  pub shape_success : (shape_for side l).number ≡ 0 → shape_for side l ≡ success
  unfolding shape_for
  shape_success e = passes (refusals_for side l) shape_numbered e

-- ---- any answer that is refused as the shape is

module _ {A : Type 0} (refused : ℕ → ℕ → A) (side : Side) (l : Words) (answer : A) where
  pub as_shape_refused : ((shape_for side l).number ≡ 0 → ⊥) → first_of refused (refusals_for side l) answer ≡ refused (shape_for side l).number (shape_for side l).place
  unfolding shape_for
  as_shape_refused f = refused_so refused (refusals_for side l) f answer

  pub as_shape_passes : (shape_for side l).number ≡ 0 → first_of refused (refusals_for side l) answer ≡ answer
  as_shape_passes e = all_missed refused answer (refusals_for side l) (none_of side l e)

-- ---- how many words there are to read

module _ (side : Side) (l : Words) where
  pub shaped_refused_lem : ((shape_for side l).number ≡ 0 → ⊥) → shaped_of side l ≡ shaped_refused (shape_for side l).number (shape_for side l).place
  unfolding shaped_of
  shaped_refused_lem f = as_shape_refused shaped_refused side l (record { verdict = success; count = l.count }) f

  pub shaped_passes : (shape_for side l).number ≡ 0 → shaped_of side l ≡ record { verdict = success; count = l.count }
  unfolding shaped_of
  shaped_passes e = as_shape_passes shaped_refused side l (record { verdict = success; count = l.count }) e

  -- an answer made of so many words is refused as the shape is, and made of none then
  pub by_shaped : {A : Type 0} (answer : Verdict → ℕ → A)
      → answer (shaped_of side l).verdict (shaped_of side l).count ≡ first_of (λ n p. answer (verdict n p) 0) (refusals_for side l) (answer success l.count)
  unfolding shaped_of
  by_shaped answer = onto (λ (s : Shaped). answer s.verdict s.count) shaped_refused (refusals_for side l) (record { verdict = success; count = l.count })

  pub shaped_count : (shaped_of side l).count ≤ 7
  unfolding shaped_of
  shaped_count = go (bad_count l.count) refl where
    go : (b : Bool) → bad_count l.count ≡ b → (shaped_of side l).count ≤ 7
    go true e = subst (λ (s : Shaped). s.count ≤ 7) (sym (hit shaped_refused _ 10 0 _ e)) (omega arith)
    go false e = by_first (λ (s : Shaped). s.count ≤ 7) shaped_refused (refusals_for side l) _ (λ n p. omega arith) (count_high l.count e)
