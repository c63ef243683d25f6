-- Both round trips of a flat list, of either side: one that is read is written back to its words, and one that is written reads back to what
-- its side keeps.
-- Assumes nothing.
use Rattle.std.specs.Prelude.{Option, Some, None}
use mathlib.Core.Path.{◌≡◌, refl, sym, ap, ◌∙◌}
use mathlib.Core.Bool.{true, false}
use mathlib.Core.List.{List}
use Prim.Native.Nat.{ℕ, ◌<◌}
use lib.Dec.{eqb}
use lib.ListN.{get_or}
use Rattle.verdicts.specs.Refusals.{success, NoneApply}
use Rattle.objects.specs.declared.Side.{Side}
use Rattle.objects.specs.declared.Side.TheVariants.{Source, Sink}
use Rattle.objects.specs.declared.Object.{Object}
use Rattle.objects.specs.Decode.{decode_of, decode_for, allowed_for, decoded_number}
use Rattle.objects.proofs.RoundTrip.{encode_decode}
use Rattle.objects.proofs.Sides.{known_for, sink_bare}
use Rattle.lists.specs.declared.Words.{Words}
use Rattle.lists.specs.Shape.{refusals_for}
use Rattle.lists.specs.Reading.{object_of, objects_of}
use Rattle.lists.specs.Writing.{word_in, written_from}
use Rattle.lists.specs.Kept.{kept_words, Words32}
use Rattle.lists.proofs.Sevens.{filled_at}
use Rattle.lists.proofs.Shapes.{count_high, word_passes}
use Rattle.lists.proofs.Readings.{read_clear}
use Rattle.lists.proofs.Writings.{write_clear}
use Rattle.lists.proofs.RoundTrips.{taken_made, made_taken, made_clear, word_known, word_clear, word_back}
use Rattle.flat.specs.declared.FlatObject.{FlatObject}
use Rattle.flat.specs.declared.FlatObjects.{FlatObjects}
use Rattle.flat.specs.declared.FlatReading.{FlatReading}
use Rattle.flat.specs.Flat.{flat_of, raised_for, raised_says, own_for}
use Rattle.flat.specs.Reading.{empty_flat, flat_objects, flat_reading, flat_reading_for}
use Rattle.flat.specs.Writing.{raised_at, encoded_raised, encoded_flat_at, flat_words, flat_write_refusals, flat_write_for}
use Rattle.flat.specs.Kept.{kept_flat}
use Rattle.flat.proofs.BothWays.{raise_flat, raise_flat_for, flat_raise_for}
use Rattle.flat.proofs.Readings.{words_flattened}
use Rattle.flat.proofs.NoKind.{no_kind}

abbrev taken_flat : ℕ → FlatObject
taken_flat w = flat_of (object_of (decode_of w))

abbrev made_flat : Side → FlatObject → Option ℕ
made_flat side x = encoded_raised (raised_for side x)

-- the object of a word is what is raised of it
raised_back : (side : Side) (l : Words) → NoneApply (refusals_for side l) → (k : ℕ) → k < l.count
    → raised_for side (taken_flat (get_or l.words k 0)) ≡ Some (object_of (decode_for side (get_or l.words k 0)))
raised_back Source l x k h = raise_flat (object_of (decode_of (get_or l.words k 0)))
raised_back Sink l x k h =
    let w = get_or l.words k 0 in
    let o = object_of (decode_for Sink w) in
    let q = word_known Sink l x k h in
    let same = known_for Sink (decode_of w) o q in
    ap (λ (d : Option Object). raised_for Sink (flat_of (object_of d))) same
    ∙ raise_flat_for o (sink_bare (eqb k 0) w o q (word_clear Sink l x k h)) (sym (ap (allowed_for Sink) same) ∙ q)

module _ (side : Side) (l : Words) (typed : Words32 l) (x : NoneApply (refusals_for side l)) where
  flat_back : (k : ℕ) → k < l.count → made_flat side (taken_flat (get_or l.words k 0)) ≡ Some (get_or l.words k 0)
  flat_back k h = ap encoded_raised (raised_back side l x k h) ∙ word_back side l x k h typed

  pub flat_read_write : flat_write_for side (flat_objects (objects_of l)) ≡ record { verdict = success; list = kept_words l }
  flat_read_write =
      ap (λ (fs : List FlatObject). written_from side (encoded_flat_at side fs) l.count) (sym (words_flattened l.words l.count))
      ∙ taken_made side empty_flat taken_flat (made_flat side) l x flat_back

-- the object raised; a list that is written has one in every place that counts
abbrev object_in : Option Object → Object
object_in r = (raised_says r).1

-- where 12 does not apply, there is an object
has_kind : (side : Side) (r : Option Object) → eqb (decoded_number (decode_for side (word_in (encoded_raised r)))) 12 ≡ false → r ≡ Some (object_in r)
has_kind side (Some o) e = refl
has_kind side None e = let z : true ≡ false = sym (ap (λ (d : Option Object). eqb (decoded_number d) 12) (no_kind side)) ∙ e in cc

module _ (side : Side) (f : FlatObjects) (x : NoneApply (flat_write_refusals side f)) where
  known : (k : ℕ) → k < f.count → raised_at side f.places k ≡ Some (object_in (raised_at side f.places k))
  known k h =
      has_kind side (raised_at side f.places k)
      (sym (ap (λ (w : ℕ). eqb (decoded_number (decode_for side w)) 12) (filled_at (λ (j : ℕ). word_in (encoded_flat_at side f.places j)) 0 f.count k (count_high f.count x.0) h))
      ∙ (word_passes side (flat_words side f) (made_clear side (encoded_flat_at side f.places) f.count x) k h).0)

  own_back : (k w : ℕ) → k < f.count → encoded_flat_at side f.places k ≡ Some w → taken_flat w ≡ own_for side (get_or f.places k empty_flat)
  own_back k w h e =
      ap (λ (d : Option Object). flat_of (object_of d)) (encode_decode (object_in (raised_at side f.places k)) w (sym (ap encoded_raised (known k h)) ∙ e))
      ∙ flat_raise_for side (get_or f.places k empty_flat) (object_in (raised_at side f.places k)) (known k h)

  pub flat_write_read : flat_reading_for side (flat_words side f) ≡ record { verdict = success; list = kept_flat side f }
  unfolding flat_reading_for
  flat_write_read =
      ap flat_reading (read_clear side (flat_words side f) (made_clear side (encoded_flat_at side f.places) f.count x))
      ∙ ap reading (sym (words_flattened (flat_words side f).words f.count) ∙ made_taken side empty_flat taken_flat (made_flat side) (own_for side) f.places f.count x own_back)
    where
      reading : List FlatObject → FlatReading
      reading fs = record { verdict = success; list = record { places = fs; count = f.count } }

  pub flat_write_is : flat_write_for side f ≡ record { verdict = success; list = flat_words side f }
  flat_write_is = write_clear side (encoded_flat_at side f.places) f.count x
