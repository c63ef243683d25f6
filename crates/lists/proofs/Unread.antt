-- Places past the count are not read: lists that agree up to the count get the same answer.
-- Assumes nothing.
use Rattle.std.specs.Prelude.{Option, Some, None}
use Rattle.objects.specs.declared.Object.{Object}
use mathlib.Core.Path.{◌≡◌, refl, sym, ap, ap₂, ◌∙◌}
use mathlib.Core.Bool.{Bool, true, false, not, ◌&&◌, ◌||◌}
use mathlib.Core.List.{List, [], ◌∷◌, ◌++◌}
use Prim.Native.Nat.{ℕ, zero, suc, ◌+◌, ◌-◌, ◌<◌}
use native.Mathlib.Nat.{lt-suc_self}
use native.Mathlib.Omega.{arith}
use lib.Dec.{eqb}
use lib.ListN.{get_or}
use Rattle.verdicts.specs.Refusals.{Refusal, refusal, each_place, first_of, verdict, success}
use Rattle.verdicts.proofs.First.{hit, onward, same_places}
use Rattle.steps.specs.declared.Ma10.{Ma10}
use Rattle.objects.specs.declared.Side.{Side}
use Rattle.objects.specs.declared.Side.TheVariants.{Source, Sink}
use Rattle.objects.specs.declared.Object.TheVariants.{Fixed, Battery, Variable, Pps, Avs}
use Rattle.objects.specs.Asking.{of_object}
use Rattle.objects.specs.Decode.{decode_of, decode_for}
use Rattle.objects.specs.Encode.{encode_of, encoded_number}
use Rattle.lists.specs.declared.Words.{Words}
use Rattle.lists.specs.declared.Place.{Place}
use Rattle.lists.specs.declared.Objects.{Objects}
use Rattle.lists.specs.declared.Reading.{Reading}
use Rattle.lists.specs.declared.Listing.{Listing}
use Rattle.lists.specs.Shape.{bad_count, is_fixed_5_V, word_refusals, word_rows, fixed_with, has_fixed, avs_differs, avs_rows, agreement_rows, refusals_for, shape_for, shaped_refused, shaped_of}
use Rattle.lists.specs.Seven.{seven_to}
use Rattle.lists.specs.Reading.{empty_place, object_of, read_refused, read_for}
use Rattle.lists.specs.Writing.{wide_rows, word_in, words_from, writing_refusals, write_refused, written_from, encoded_at, write_of}
use Rattle.lists.specs.Unread.{AgreeWords, AgreeObjects}
use Rattle.lists.proofs.Shapes.{count_low}
use Rattle.lists.proofs.Sevens.{same_seven}

-- a list of these words
abbrev pub counting : List ℕ → ℕ → Words
counting ws n = record { words = ws; count = n }

-- with the other list's count the list is the other
pub recounted : {A : Type 0} (f : Words → A) (l m : Words) → AgreeWords l m → f (counting m.words l.count) ≡ f m
recounted f l m a = ap (λ (n : ℕ). f (counting m.words n)) a.count

module _ (side : Side) (ws vs : List ℕ) (n : ℕ) (e : (k : ℕ) → k < n → get_or ws k 0 ≡ get_or vs k 0) where
  pub same_word_rows : (k : ℕ) → k < n → word_rows side ws k ≡ word_rows side vs k
  same_word_rows k h =
      ap₂ (λ (b w : ℕ). word_refusals side (eqb k 0) (k + 1) (decode_for side b) w) (e (k - 1) (omega arith)) (e k h)

-- among the first k words
same_fixed : (ws vs : List ℕ) (k : ℕ) → ((j : ℕ) → j < k → get_or ws j 0 ≡ get_or vs j 0) → (mv : ℕ) (current : Ma10) → has_fixed ws k mv current ≡ has_fixed vs k mv current
unfolding has_fixed
same_fixed ws vs zero e mv current = refl
same_fixed ws vs (suc k) e mv current =
    ap₂ (λ (b : Bool) (w : ℕ). b || of_object (fixed_with mv current) (decode_of w))
    (same_fixed ws vs k (λ j h. e j (omega arith)) mv current) (e k (lt-suc_self k))

module _ (ws vs : List ℕ) (n : ℕ) (e : (k : ℕ) → k < n → get_or ws k 0 ≡ get_or vs k 0) where
  same_differs : (d : Option Object) → of_object (avs_differs ws n) d ≡ of_object (avs_differs vs n) d
  unfolding avs_differs
  same_differs (Some (Fixed f p v a)) = refl
  same_differs (Some (Battery x m p)) = refl
  same_differs (Some (Variable x m a)) = refl
  same_differs (Some (Pps l x m a)) = refl
  same_differs (Some (Avs p l h)) =
      ap₂ (λ (a b : Bool). not (a && (eqb h.0 0 || b))) (same_fixed ws vs n e 15000 l) (same_fixed ws vs n e 20000 h)
  same_differs None = refl

  same_avs_rows : (k : ℕ) → k < n → avs_rows ws n k ≡ avs_rows vs n k
  same_avs_rows k h =
      ap (λ (b : Bool). refusal b 17 (k + 1) ∷ [])
      (same_differs (decode_of (get_or ws k 0)) ∙ ap (λ (w : ℕ). of_object (avs_differs vs n) (decode_of w)) (e k h))

  pub same_agreement : (side : Side) → agreement_rows side (counting ws n) ≡ agreement_rows side (counting vs n)
  same_agreement Source = same_places (avs_rows ws n) (avs_rows vs n) n same_avs_rows
  same_agreement Sink = refl

module _ (side : Side) (ws vs : List ℕ) (n : ℕ) (e : (k : ℕ) → k < n → get_or ws k 0 ≡ get_or vs k 0) where
  -- with a count of 1 to 7 the very tables are the same
  pub same_shape_rows : bad_count n ≡ false → refusals_for side (counting ws n) ≡ refusals_for side (counting vs n)
  same_shape_rows b =
      ap₂ (λ (w : ℕ) (rs : List Refusal). refusal (bad_count n) 10 0 ∷ refusal (not (is_fixed_5_V w)) 11 1 ∷ rs) (e 0 (count_low n b))
      (ap₂ ◌++◌ (same_places (word_rows side ws) (word_rows side vs) n (same_word_rows side ws vs n e)) (same_agreement ws vs n e side))

  -- any answer over the shape's rows
  pub same_by_shape : {A : Type 0} (refused : ℕ → ℕ → A) (x y : A) → x ≡ y
      → first_of refused (refusals_for side (counting ws n)) x ≡ first_of refused (refusals_for side (counting vs n)) y
  same_by_shape refused x y q = go (bad_count n) refl where
    go : (b : Bool) → bad_count n ≡ b
        → first_of refused (refusals_for side (counting ws n)) x ≡ first_of refused (refusals_for side (counting vs n)) y
    go true b = hit refused x 10 0 _ b ∙ sym (hit refused y 10 0 _ b)
    go false b = ap₂ (λ (rs : List Refusal) (z : _). first_of refused rs z) (same_shape_rows b) q

  -- .. and over rows that come after them
  pub same_past_shape : {A : Type 0} (refused : ℕ → ℕ → A) (answer : A) (xs ys : List Refusal)
      → first_of refused xs answer ≡ first_of refused ys answer
      → first_of refused (refusals_for side (counting ws n) ++ xs) answer ≡ first_of refused (refusals_for side (counting vs n) ++ ys) answer
  same_past_shape refused answer xs ys q =
      onward refused answer (refusals_for side (counting ws n)) xs
      ∙ same_by_shape refused (first_of refused xs answer) (first_of refused ys answer) q
      ∙ sym (onward refused answer (refusals_for side (counting vs n)) ys)

  -- .. and where a list of what is taken from each word is the answer
  pub same_taken : {A B : Type 0} (refused : ℕ → ℕ → B) (answer : List A → B) (blank : A) (take : ℕ → A)
      → first_of refused (refusals_for side (counting ws n)) (answer (seven_to (λ (k : ℕ). take (get_or ws k 0)) blank n))
      ≡ first_of refused (refusals_for side (counting vs n)) (answer (seven_to (λ (k : ℕ). take (get_or vs k 0)) blank n))
  same_taken refused answer blank take =
      same_by_shape refused _ _
      (ap answer (same_seven (λ (k : ℕ). take (get_or ws k 0)) (λ (k : ℕ). take (get_or vs k 0)) blank n (λ k h. ap take (e k h))))

pub shape_unread : (side : Side) (l m : Words) → AgreeWords l m → shape_for side l ≡ shape_for side m
unfolding shape_for
shape_unread side l m a =
    same_by_shape side l.words m.words l.count a.words verdict success success refl
    ∙ recounted (shape_for side) l m a

pub shaped_unread : (side : Side) (l m : Words) → AgreeWords l m → shaped_of side l ≡ shaped_of side m
unfolding shaped_of
shaped_unread side l m a =
    same_by_shape side l.words m.words l.count a.words shaped_refused _ _ refl ∙ recounted (shaped_of side) l m a

pub read_unread : (side : Side) (l m : Words) → AgreeWords l m → read_for side l ≡ read_for side m
unfolding read_for
read_unread side l m a =
    same_taken side l.words m.words l.count a.words read_refused (λ (ps : List Place). as_read ps l.count) empty_place placed
    ∙ recounted (read_for side) l m a
  where
    placed : ℕ → Place
    placed w = record { object = object_of (decode_of w) }

    as_read : List Place → ℕ → Reading
    as_read ps n = record { verdict = success; list = record { places = ps; count = n } }

-- ---- writing, by what each object is written as

module _ (made other : ℕ → Option ℕ) (n : ℕ) (e : (k : ℕ) → k < n → made k ≡ other k) where
  same_wide_rows : each_place (wide_rows made) n ≡ each_place (wide_rows other) n
  same_wide_rows = same_places (wide_rows made) (wide_rows other) n (λ k h. ap (wide_row k) (e k h)) where
    wide_row : ℕ → Option ℕ → List Refusal
    wide_row k x = refusal (eqb (encoded_number x) 7) 7 (k + 1) ∷ []

  pub same_made : words_from made n ≡ words_from other n
  same_made =
      ap (λ (ws : List ℕ). counting ws n)
      (same_seven (λ (k : ℕ). word_in (made k)) (λ (k : ℕ). word_in (other k)) 0 n (λ k h. ap word_in (e k h)))

  pub same_written : (side : Side) → written_from side made n ≡ written_from side other n
  unfolding written_from
  same_written side = ap₂ (λ (rs : List Refusal) (l : Words). answer rs l) same_wide_rows same_made where
    answer : List Refusal → Words → Listing
    answer rs l = first_of write_refused (refusal (bad_count n) 10 0 ∷ (rs ++ refusals_for side l)) (record { verdict = success; list = l })

  -- the very tables are the same
  pub same_refusals : (side : Side) → writing_refusals side made n ≡ writing_refusals side other n
  same_refusals side = ap₂ (λ (rs : List Refusal) (l : Words). refusal (bad_count n) 10 0 ∷ (rs ++ refusals_for side l)) same_wide_rows same_made

  -- .. and with the other count
  pub same_written_at : (side : Side) (m : ℕ) → n ≡ m → written_from side made n ≡ written_from side other m
  same_written_at side m c = same_written side ∙ ap (written_from side other) c

pub write_unread : (o q : Objects) → AgreeObjects o q → write_of o ≡ write_of q
write_unread o q a =
    same_written_at (encoded_at o.places) (encoded_at q.places) o.count (λ k h. ap (λ (p : Place). encode_of p.object) (a.places k h)) Source q.count a.count
