-- The cases of writing, by the side and by what each object is written as.
-- Assumes nothing.
use Rattle.std.specs.Prelude.{Result, Ok, Err, Option, Some, None}
use mathlib.Core.Path.{◌≡◌, refl, sym, ap, ◌∙◌, subst}
use mathlib.Core.Bool.{true, false}
use mathlib.Core.List.{List, [], ◌∷◌}
use Prim.Native.Nat.{ℕ, ◌+◌, ◌<◌}
use lib.Dec.{eqb}
use borrow.Author.Tests.{eq-eqb, ne_eqb}
use lib.ListN.{set, replicate}
use Rattle.verdicts.specs.declared.Verdict.{Verdict}
use Rattle.verdicts.specs.Refusals.{Refusal, refusal, each_place, first_of, err, verdict, success, verdict_of, NoneApply}
use Rattle.verdicts.proofs.First.{hit, miss, onward, onto, all_missed, refused_so, none_yet, none_more, decided, none_applied, passes, numbered, number_not_0, numbered_rest, numbered_append, numbered_places}
use Rattle.objects.specs.declared.Side.{Side}
use Rattle.objects.specs.Encode.{encoded_number}
use Rattle.lists.specs.declared.Words.{Words}
use Rattle.lists.specs.declared.Listing.{Listing}
use Rattle.lists.specs.Shape.{bad_count, refusals_for}
use Rattle.lists.specs.Seven.{seven_to}
use Rattle.lists.specs.Writing.{wide_rows, word_in, no_words, words_from, writing_refusals, write_refused, listing_told, written_from, listed_of, finished_of}
use Rattle.lists.specs.Making.{making_rows, made_from, words_made, listed_as}
use Rattle.lists.proofs.Sevens.{none_filled, one_filled}
use Rattle.lists.proofs.Shapes.{shape_numbered}

abbrev pub written_as : (ℕ → Option ℕ) → ℕ → Listing
written_as made n = record { verdict = success; list = words_from made n }

-- ---- the words made, one after the other

module _ (made : ℕ → Option ℕ) (n : ℕ) where
  pub made_numbered : numbered (making_rows made n) ≡ true
  made_numbered = numbered_places (wide_rows made) (λ k. refl) n

  -- the listing of the result
  pub made_told : listing_told (words_made made n) ≡ made_from made n
  unfolding words_made made_from
  made_told = onto listing_told err (making_rows made n) (Ok (words_from made n))

  pub miscounted_words : bad_count n ≡ true → Err (verdict 10 0) ≡ words_made made n
  unfolding words_made
  miscounted_words e = sym (hit err _ 10 0 _ e)

  pub not_made : bad_count n ≡ true → write_refused 10 0 ≡ made_from made n
  not_made e = ap listing_told (miscounted_words e) ∙ made_told

module _ (made : ℕ → Option ℕ) where
  -- no object before place i + 1 is too wide, and these are the words so far
  pub record MadeTo (i : ℕ) (ws : List ℕ) : Type 0 where
    pub fit : NoneApply (each_place (wide_rows made) i)
    pub words : ws ≡ seven_to (λ (k : ℕ). word_in (made k)) 0 i

  pub none_made : MadeTo 0 (replicate 7 0)
  none_made = record { fit = none_yet (wide_rows made); words = none_filled (λ (k : ℕ). word_in (made k)) 0 }

  pub one_made : (i w : ℕ) (ws : List ℕ) → i < 7 → MadeTo i ws → made i ≡ Some w → MadeTo (i + 1) (set ws i w)
  one_made i w ws h m e = record {
    fit = none_more (wide_rows made) i m.fit (ap (λ (x : Option ℕ). eqb (encoded_number x) 7) e, tt);
    words =
        ap (λ (vs : List ℕ). set vs i w) m.words
        ∙ ap (set (seven_to (λ (k : ℕ). word_in (made k)) 0 i) i) (sym (ap word_in e))
        ∙ one_filled (λ (k : ℕ). word_in (made k)) 0 i h;
  }

  pub wide_word : (i n : ℕ) (ws : List ℕ) → bad_count n ≡ false → i < n → MadeTo i ws → made i ≡ None → Err (verdict 7 (i + 1)) ≡ words_made made n
  unfolding words_made
  wide_word i n ws b h m e =
      sym (miss err _ 10 0 _ b ∙ decided (wide_rows made) err i n _ h m.fit
      (λ (x : Result Words Verdict). hit err x 7 (i + 1) [] (ap (λ (y : Option ℕ). eqb (encoded_number y) 7) e)) _)

  pub one_wide : (i n : ℕ) (ws : List ℕ) → bad_count n ≡ false → i < n → MadeTo i ws → made i ≡ None → write_refused 7 (i + 1) ≡ made_from made n
  one_wide i n ws b h m e = ap listing_told (wide_word i n ws b h m e) ∙ made_told made n

  pub all_words : (i n : ℕ) (ws : List ℕ) → bad_count n ≡ false → i ≡ n → MadeTo i ws → Ok (record { words = ws; count = n }) ≡ words_made made n
  unfolding words_made
  all_words i n ws b e m =
      ap counted (m.words ∙ ap (seven_to (λ (k : ℕ). word_in (made k)) 0) e)
      ∙ sym (miss err _ 10 0 _ b ∙ all_missed err _ _ (subst (λ (j : ℕ). NoneApply (each_place (wide_rows made) j)) e m.fit))
    where
      counted : List ℕ → Result Words Verdict
      counted vs = Ok (record { words = vs; count = n })

  pub all_made : (i n : ℕ) (ws : List ℕ) → bad_count n ≡ false → i ≡ n → MadeTo i ws
      → record { verdict = success; list = record { words = ws; count = n } } ≡ made_from made n
  all_made i n ws b e m = ap listing_told (all_words i n ws b e m) ∙ made_told made n

-- ---- words that are given

-- the listing of the result
pub listed_told : (side : Side) (l : Words) → listing_told (listed_as side l) ≡ listed_of side l
unfolding listed_as listed_of
listed_told side l = onto listing_told err (refusals_for side l) (Ok l)

-- ---- the words made, finished

pub finished_on : (side : Side) (m : Listing) → m.verdict.number ≡ 0 → finished_of side m ≡ listed_of side m.list
finished_on side m z = rw (eq-eqb m.verdict.number 0 z)

pub finished_not : (side : Side) (m : Listing) → (m.verdict.number ≡ 0 → ⊥) → finished_of side m ≡ m
finished_not side m f = rw (ne_eqb m.verdict.number 0 f)

-- what was made is finished by its shape, and what was refused stays refused
pub finished_first : (side : Side) (l : Words) (rs : List Refusal) → numbered rs ≡ true
    → finished_of side (first_of write_refused rs (record { verdict = success; list = l })) ≡ first_of write_refused rs (listed_of side l)
unfolding first_of
finished_first side l [] t = refl
finished_first side l (refusal true n p ∷ rs) t = rw (ne_eqb n 0 (number_not_0 n rs t))
finished_first side l (refusal false n p ∷ rs) t = finished_first side l rs (numbered_rest n rs t)

-- ---- the cases in order

module _ (side : Side) (made : ℕ → Option ℕ) (n : ℕ) where
  pub write_numbered : numbered (writing_refusals side made n) ≡ true
  write_numbered = numbered_append (making_rows made n) (refusals_for side (words_from made n)) (made_numbered made n) (shape_numbered side (words_from made n))

  pub write_miscounted : bad_count n ≡ true → written_from side made n ≡ write_refused 10 0
  unfolding written_from
  write_miscounted e = hit write_refused (written_as made n) 10 0 _ e

  pub made_finished : finished_of side (made_from made n) ≡ written_from side made n
  unfolding made_from written_from listed_of
  made_finished =
      finished_first side (words_from made n) (making_rows made n) (made_numbered made n)
      ∙ sym (onward write_refused (written_as made n) (making_rows made n) (refusals_for side (words_from made n)))

  pub write_clear : NoneApply (writing_refusals side made n) → written_from side made n ≡ written_as made n
  unfolding written_from
  write_clear x = all_missed write_refused (written_as made n) (writing_refusals side made n) x

  -- ---- the verdict of writing

  pub write_verdict : (written_from side made n).verdict ≡ verdict_of (writing_refusals side made n)
  unfolding written_from
  write_verdict = onto (λ (r : Listing). r.verdict) write_refused (writing_refusals side made n) (written_as made n)

  pub write_passes : (written_from side made n).verdict.number ≡ 0 → NoneApply (writing_refusals side made n)
  write_passes e = none_applied (writing_refusals side made n) write_numbered (sym (ap (λ (v : Verdict). v.number) write_verdict) ∙ e)

  -- "On a refusal everything else in the answer is zero, a list is empty"
  pub write_empty : ((written_from side made n).verdict ≡ success → ⊥) → (written_from side made n).list ≡ no_words
  unfolding written_from
  write_empty f =
      ap (λ (r : Listing). r.list)
      (refused_so write_refused (writing_refusals side made n) (λ z. f (write_verdict ∙ passes (writing_refusals side made n) write_numbered z)) (written_as made n))
