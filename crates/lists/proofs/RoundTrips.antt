-- "Reading a list whose shape passes, and writing what was read, gives the same words; and the other way round for objects that can be
-- written." (STATEMENT, "Shape of a list" and "Shape of a sink list")
-- Assumes nothing.
use Rattle.std.specs.Prelude.{Option, Some, None}
use mathlib.Core.Path.{◌≡◌, refl, sym, ap, ◌∙◌, subst}
use mathlib.Core.Bool.{true, false}
use mathlib.Core.List.{List}
use Prim.Native.Nat.{ℕ, ◌<◌}
use lib.Dec.{eqb}
use lib.ListN.{get_or}
use Rattle.verdicts.specs.Refusals.{each_place, success, NoneApply}
use Rattle.verdicts.proofs.First.{none_append, none_left, none_right, none_at, none_all}
use Rattle.objects.specs.declared.Side.{Side}
use Rattle.objects.specs.declared.Side.TheVariants.{Source}
use Rattle.objects.specs.declared.Object.{Object}
use Rattle.objects.specs.Decode.{decode_of, decode_for}
use Rattle.objects.specs.Reserved.{reserved_set}
use Rattle.objects.specs.Encode.{encode_of, encoded_number}
use Rattle.objects.specs.Asking.{of_object}
use Rattle.objects.proofs.RoundTrip.{decode_encode, encode_decode}
use Rattle.lists.specs.declared.Words.{Words}
use Rattle.lists.specs.declared.Place.{Place}
use Rattle.lists.specs.declared.Objects.{Objects}
use Rattle.lists.specs.declared.Reading.{Reading}
use Rattle.lists.specs.declared.Listing.{Listing}
use Rattle.lists.specs.Shape.{refusals_for, shape_refusals}
use Rattle.lists.specs.Seven.{seven_to}
use Rattle.lists.specs.Reading.{empty_place, object_of, objects_of, read_of}
use Rattle.lists.specs.Writing.{wide_rows, word_in, words_from, writing_refusals, written_from, encoded_at, words_of, write_refusals, write_of}
use Rattle.lists.specs.Kept.{kept_words, kept_objects, Words32}
use Rattle.lists.proofs.Judging.{has_object}
use Rattle.lists.proofs.Sevens.{filled_at, same_seven}
use Rattle.lists.proofs.Shapes.{count_high, word_passes}
use Rattle.lists.proofs.Readings.{read_clear}
use Rattle.lists.proofs.Writings.{write_clear}
use Rattle.lists.proofs.Unread.{same_shape_rows}

-- ---- of any side, and of objects in any form: what is taken from a word, and what is made of an object

has_word : (e : Option ℕ) → eqb (encoded_number e) 7 ≡ false → e ≡ Some (word_in e)
has_word (Some w) q = refl
has_word None q = let z : true ≡ false = q in cc

module _ {A : Type 0} (side : Side) (blank : A) (take : ℕ → A) (make : A → Option ℕ) where
  -- the words, each taken in its place
  abbrev pub all_taken : List ℕ → ℕ → List A
  all_taken ws n = seven_to (λ (k : ℕ). take (get_or ws k 0)) blank n

  abbrev pub made_at : List A → ℕ → Option ℕ
  made_at os k = make (get_or os k blank)

  -- words, objects, words: where each word comes back by itself
  module _ (l : Words) (x : NoneApply (refusals_for side l))
      (back : (k : ℕ) → k < l.count → make (take (get_or l.words k 0)) ≡ Some (get_or l.words k 0)) where
    place_back : (k : ℕ) → k < l.count → made_at (all_taken l.words l.count) k ≡ Some (get_or l.words k 0)
    place_back k h =
        ap make (filled_at (λ (j : ℕ). take (get_or l.words j 0)) blank l.count k (count_high l.count x.0) h) ∙ back k h

    words_back : words_from (made_at (all_taken l.words l.count)) l.count ≡ kept_words l
    words_back =
        ap counting
        (same_seven (λ (k : ℕ). word_in (made_at (all_taken l.words l.count) k)) (λ (k : ℕ). get_or l.words k 0) 0 l.count
        (λ k h. ap word_in (place_back k h)))
      where
        counting : List ℕ → Words
        counting ws = record { words = ws; count = l.count }

    kept_clear : NoneApply (refusals_for side (kept_words l))
    kept_clear =
        subst NoneApply
        (same_shape_rows side l.words (kept_words l).words l.count
        (λ k h. sym (filled_at (λ (j : ℕ). get_or l.words j 0) 0 l.count k (count_high l.count x.0) h)) x.0) x

    pub taken_made : written_from side (made_at (all_taken l.words l.count)) l.count ≡ record { verdict = success; list = kept_words l }
    taken_made =
        write_clear side (made_at (all_taken l.words l.count)) l.count (
          x.0,
          none_append (each_place (wide_rows (made_at (all_taken l.words l.count))) l.count) (refusals_for side (words_from (made_at (all_taken l.words l.count)) l.count))
              (none_all (wide_rows (made_at (all_taken l.words l.count))) l.count (λ k h. (ap (λ (e : Option ℕ). eqb (encoded_number e) 7) (place_back k h), tt)))
              (subst (λ (m : Words). NoneApply (refusals_for side m)) (sym words_back) kept_clear),
        )
        ∙ ap written words_back
      where
        written : Words → Listing
        written m = record { verdict = success; list = m }

  -- objects, words, objects: where each object comes back by itself, as what is kept of it
  module _ (kept : A → A) (os : List A) (n : ℕ) (x : NoneApply (writing_refusals side (made_at os) n))
      (back : (k w : ℕ) → k < n → made_at os k ≡ Some w → take w ≡ kept (get_or os k blank)) where
    object_back : (k : ℕ) → k < n → take (get_or (words_from (made_at os) n).words k 0) ≡ kept (get_or os k blank)
    object_back k h =
        let fits = none_at (wide_rows (made_at os)) n k (none_left (each_place (wide_rows (made_at os)) n) (refusals_for side (words_from (made_at os) n)) x.1) h in
        ap take (filled_at (λ (j : ℕ). word_in (made_at os j)) 0 n k (count_high n x.0) h)
        ∙ back k (word_in (made_at os k)) h (has_word (made_at os k) fits.0)

    pub made_taken : all_taken (words_from (made_at os) n).words n ≡ seven_to (λ (k : ℕ). kept (get_or os k blank)) blank n
    made_taken =
        same_seven (λ (k : ℕ). take (get_or (words_from (made_at os) n).words k 0)) (λ (k : ℕ). kept (get_or os k blank)) blank n object_back

-- the words of objects that can be written have their shape
pub made_clear : (side : Side) (made : ℕ → Option ℕ) (n : ℕ) → NoneApply (writing_refusals side made n) → NoneApply (refusals_for side (words_from made n))
made_clear side made n x = none_right (each_place (wide_rows made) n) (refusals_for side (words_from made n)) x.1

-- a word of a list whose shape passes has an object, and the object has that word
module _ (side : Side) (l : Words) (x : NoneApply (refusals_for side l)) (k : ℕ) (h : k < l.count) where
  pub word_known : decode_for side (get_or l.words k 0) ≡ Some (object_of (decode_for side (get_or l.words k 0)))
  word_known = has_object (decode_for side (get_or l.words k 0)) (word_passes side l x k h).0

  -- .. and no bit of it is set that is reserved
  pub word_clear : reserved_set side (object_of (decode_for side (get_or l.words k 0))) (eqb k 0) (get_or l.words k 0) ≡ false
  word_clear =
      let w = get_or l.words k 0 in
      let clear : of_object (λ (o : Object). reserved_set side o (eqb k 0) w) (decode_for side w) ≡ false = (word_passes side l x k h).1.0 in
      sym (ap (of_object (λ (o : Object). reserved_set side o (eqb k 0) w)) word_known) ∙ clear

  pub word_back : Words32 l → encode_of (object_of (decode_for side (get_or l.words k 0))) ≡ Some (get_or l.words k 0)
  word_back typed = decode_encode (get_or l.words k 0) (typed.fits k) (eqb k 0) side (object_of (decode_for side (get_or l.words k 0))) word_known word_clear

-- ---- of a source

abbrev taken_place : ℕ → Place
taken_place w = record { object = object_of (decode_of w) }

abbrev made_place : Place → Option ℕ
made_place p = encode_of p.object

pub read_write : (l : Words) → Words32 l → NoneApply (shape_refusals l) → write_of (objects_of l) ≡ record { verdict = success; list = kept_words l }
read_write l typed x = taken_made Source empty_place taken_place made_place l x (λ k h. word_back Source l x k h typed)

pub write_read : (o : Objects) → NoneApply (write_refusals o) → read_of (words_of o) ≡ record { verdict = success; list = kept_objects o }
write_read o x =
    read_clear Source (words_of o) (made_clear Source (encoded_at o.places) o.count x)
    ∙ ap reading (made_taken Source empty_place taken_place made_place (λ (p : Place). p) o.places o.count x back)
  where
    placed : Option Object → Place
    placed d = record { object = object_of d }

    back : (k w : ℕ) → k < o.count → made_place (get_or o.places k empty_place) ≡ Some w → taken_place w ≡ get_or o.places k empty_place
    back k w h e = ap placed (encode_decode (get_or o.places k empty_place).object w e)

    reading : List Place → Reading
    reading ps = record { verdict = success; list = record { places = ps; count = o.count } }
