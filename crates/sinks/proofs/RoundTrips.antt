-- "Reading a sink list whose shape passes, and writing what was read, gives the same words; and the other way round for objects that can be
-- written." (STATEMENT, "Shape of a sink list"), and one word and one sink object ("Sink objects")
-- Assumes nothing.
use Rattle.std.specs.Prelude.{Option, Some, None}
use mathlib.Core.Path.{◌≡◌, refl, sym, ap, ◌∙◌, subst}
use mathlib.Core.Bool.{Bool, false}
use mathlib.Core.List.{List}
use Prim.Native.Nat.{ℕ, ◌^◌, ◌<◌}
use lib.Dec.{eqb}
use lib.ListN.{get_or}
use Rattle.verdicts.specs.Refusals.{success, NoneApply}
use Rattle.objects.specs.declared.Side.TheVariants.{Sink}
use Rattle.objects.specs.declared.Object.{Object}
use Rattle.objects.specs.declared.Object.TheVariants as source
use Rattle.objects.specs.Decode.{decode_of, decode_for, allowed_for}
use Rattle.objects.specs.Reserved.{reserved_set}
use Rattle.objects.specs.Encode.{encode_of}
use Rattle.objects.proofs.RoundTrip.{decode_encode, encode_decode}
use Rattle.objects.proofs.Sides.{Bare, sink_bare}
use Rattle.lists.specs.declared.Words.{Words}
use Rattle.lists.specs.Reading.{object_of}
use Rattle.lists.specs.Kept.{kept_words, Words32}
use Rattle.lists.proofs.RoundTrips.{taken_made, made_clear, made_taken, word_known, word_clear}
use Rattle.sinks.specs.declared.SinkObject.{SinkObject}
use Rattle.sinks.specs.declared.SinkPlace.{SinkPlace}
use Rattle.sinks.specs.declared.SinkObjects.{SinkObjects}
use Rattle.sinks.specs.declared.SinkReading.{SinkReading}
use Rattle.sinks.specs.SinkWords.{sink_decode_of, sink_encode_of, as_object}
use Rattle.sinks.specs.SinkLists.{sink_shape_refusals, empty_sink, sink_in, sink_place, sink_objects_of, sink_read_of, sink_encoded_at, sink_words_of, sink_write_refusals, sink_write_of}
use Rattle.sinks.specs.Kept.{kept_sinks}
use Rattle.sinks.proofs.SinkWords.{as_sink, sink_decode_is, as_fields, as_sink_back}
use Rattle.sinks.proofs.Readings.{sink_read_clear}

-- ---- one word and one sink object

pub sink_encode_decode : (o : SinkObject) (w : ℕ) → sink_encode_of o ≡ Some w → sink_decode_of w ≡ Some o
sink_encode_decode o w e =
    sink_decode_is w ∙ ap (λ (d : Option Object). as_sink (allowed_for Sink d)) (encode_decode (as_object o) w (sym (as_fields o) ∙ e)) ∙ as_sink_back o

-- an object without peak current and power limited is that of its sink object
pub bare_back : (q : Object) (o : SinkObject) → Bare q → as_sink (Some q) ≡ Some o → as_object o ≡ q
bare_back (source.Fixed f p v a) o b e = rw b (ap (λ (d : Option SinkObject). as_object (sink_in d)) (sym e))
bare_back (source.Battery x m p) o b e = ap (λ (d : Option SinkObject). as_object (sink_in d)) (sym e)
bare_back (source.Variable x m a) o b e = ap (λ (d : Option SinkObject). as_object (sink_in d)) (sym e)
bare_back (source.Pps l x m a) o b e = rw b (ap (λ (d : Option SinkObject). as_object (sink_in d)) (sym e))
bare_back (source.Avs p l h) o b e = cc

module _ (w : ℕ) (first : Bool) (q : Object) (known : decode_for Sink w ≡ Some q) (clear : reserved_set Sink q first w ≡ false) where
  -- a word of a kind that a sink has, with no reserved bit set, has this object
  pub sink_as_object : (o : SinkObject) → sink_decode_of w ≡ Some o → as_object o ≡ q
  sink_as_object o e = bare_back q o (sink_bare first w q known clear) (sym (sink_decode_is w ∙ ap as_sink known) ∙ e)

  pub sink_decode_encode : w < 2 ^ 32 → (o : SinkObject) → sink_decode_of w ≡ Some o → sink_encode_of o ≡ Some w
  sink_decode_encode h o e = as_fields o ∙ ap encode_of (sink_as_object o e) ∙ decode_encode w h first Sink q known clear

-- a word that has an object in the list of a sink has a sink object
has_sink : (d : Option Object) (q : Object) → allowed_for Sink d ≡ Some q → as_sink (allowed_for Sink d) ≡ Some (sink_in (as_sink (allowed_for Sink d)))
has_sink (Some (source.Fixed f p v a)) q e = refl
has_sink (Some (source.Battery x m p)) q e = refl
has_sink (Some (source.Variable x m a)) q e = refl
has_sink (Some (source.Pps l x m a)) q e = refl
has_sink (Some (source.Avs p l h)) q e = cc
has_sink None q e = cc

pub sink_known : (w : ℕ) (q : Object) → decode_for Sink w ≡ Some q → sink_decode_of w ≡ Some (sink_in (sink_decode_of w))
sink_known w q e = subst (λ (d : Option SinkObject). d ≡ Some (sink_in d)) (sym (sink_decode_is w)) (has_sink (decode_of w) q e)

-- ---- lists

abbrev made_place : SinkPlace → Option ℕ
made_place p = sink_encode_of p.object

module _ (l : Words) (x : NoneApply (sink_shape_refusals l)) (k : ℕ) (h : k < l.count) where
  -- each word of a list whose shape passes has a sink object
  pub sink_word_known : sink_decode_of (get_or l.words k 0) ≡ Some (sink_place (get_or l.words k 0)).object
  sink_word_known = sink_known (get_or l.words k 0) _ (word_known Sink l x k h)

  pub sink_word_back : Words32 l → made_place (sink_place (get_or l.words k 0)) ≡ Some (get_or l.words k 0)
  sink_word_back typed =
      sink_decode_encode (get_or l.words k 0) (eqb k 0) (object_of (decode_for Sink (get_or l.words k 0))) (word_known Sink l x k h) (word_clear Sink l x k h)
      (typed.fits k) (sink_place (get_or l.words k 0)).object sink_word_known

pub sink_read_write : (l : Words) → Words32 l → NoneApply (sink_shape_refusals l) → sink_write_of (sink_objects_of l) ≡ record { verdict = success; list = kept_words l }
sink_read_write l typed x = taken_made Sink empty_sink sink_place made_place l x (λ k h. sink_word_back l x k h typed)

pub sink_write_read : (o : SinkObjects) → NoneApply (sink_write_refusals o) → sink_read_of (sink_words_of o) ≡ record { verdict = success; list = kept_sinks o }
sink_write_read o x =
    sink_read_clear (sink_words_of o) (made_clear Sink (sink_encoded_at o.places) o.count x)
    ∙ ap reading (made_taken Sink empty_sink sink_place made_place (λ (p : SinkPlace). p) o.places o.count x back)
  where
    placed : Option SinkObject → SinkPlace
    placed d = record { object = sink_in d }

    back : (k w : ℕ) → k < o.count → made_place (get_or o.places k empty_sink) ≡ Some w → sink_place w ≡ get_or o.places k empty_sink
    back k w h e = ap placed (sink_encode_decode (get_or o.places k empty_sink).object w e)

    reading : List SinkPlace → SinkReading
    reading ps = record { verdict = success; list = record { places = ps; count = o.count } }
