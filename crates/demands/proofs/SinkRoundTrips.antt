-- Proves the claims of specs/SinkRoundTrips.antt.
-- Assumes nothing.
use Rattle.std.specs.Prelude.{Option, Some}
use Rattle.objects.specs.declared.Object.{Object}
use mathlib.Core.Path.{◌≡◌, sym, ap, ◌∙◌}
use Prim.Native.Nat.{ℕ, ◌<◌}
use lib.Dec.{eqb}
use lib.ListN.{get_or}
use Rattle.verdicts.specs.declared.Verdict.{Verdict}
use Rattle.verdicts.specs.Refusals.{NoneApply}
use Rattle.objects.specs.declared.Side.TheVariants.{Sink}
use Rattle.objects.specs.Decode.{decode_of, decode_for}
use Rattle.objects.proofs.Saying.{decoded_for}
use Rattle.objects.proofs.Sides.{known_for}
use Rattle.lists.specs.declared.Words.{Words}
use Rattle.lists.specs.declared.Listing.{Listing}
use Rattle.lists.specs.Shape.{shape_for}
use Rattle.lists.specs.Reading.{object_of}
use Rattle.lists.proofs.Sevens.{filled_at}
use Rattle.lists.proofs.Shapes.{count_high, none_of}
use Rattle.lists.proofs.Readings.{read_passes}
use Rattle.lists.proofs.Writings.{write_passes, write_clear}
use Rattle.lists.proofs.RoundTrips.{word_known, word_clear}
use Rattle.sinks.specs.declared.SinkPlace.{SinkPlace}
use Rattle.sinks.specs.declared.SinkReading.{SinkReading}
use Rattle.sinks.specs.SinkWords.{as_object}
use Rattle.sinks.specs.SinkLists.{sink_shape_refusals, empty_sink, sink_place, sink_read_of, sink_encoded_at, sink_write_of}
use Rattle.sinks.proofs.SinkWords.{sink_decoded_is, sink_encoded_is}
use Rattle.sinks.proofs.Readings.{sink_read_passes}
use Rattle.sinks.proofs.RoundTrips as sinks
use Rattle.flat.specs.declared.FlatReading.{FlatReading}
use Rattle.flat.specs.Flat.{flat_of}
use Rattle.flat.specs.Reading.{empty_flat, flat_reading, flat_reading_for}
use Rattle.flat.proofs.Readings.{flat_word, words_flattened}
use Rattle.demands.specs.SinkRoundTrips.{SinkDecodeThenEncode, SinkEncodeThenDecode, SinkReadThenWrite, SinkWriteThenRead, ArinSinkReadThenWrite, ArinSinkWriteThenRead, ArinSinkReadsSinks}
use Rattle.demands.proofs.FlatRoundTrips.{flat_read_then_write, flat_write_then_read}

-- ---- one word

pub sink_decode_then_encode : SinkDecodeThenEncode
sink_decode_then_encode w h q d first c o s e f =
    sink_encoded_is o e f
    ∙ sinks.sink_decode_encode w first q (sym (decoded_for Sink w (Some q) d)) (sym c) h o (sym (sink_decoded_is w (Some o) s))

pub sink_encode_then_decode : SinkEncodeThenDecode
sink_encode_then_decode o w e d q = sink_decoded_is w d q ∙ sinks.sink_encode_decode o w (sym (sink_encoded_is o (Some w) e))

-- ---- a list

pub sink_read_then_write : SinkReadThenWrite
sink_read_then_write l typed s r e w f =
    let n : (shape_for Sink l).number ≡ 0 = ap (λ (v : Verdict). v.number) (sym s) in
    let p = e ∙ sink_read_passes l n in
    (ap (λ (x : SinkReading). x.verdict) p, f ∙ ap (λ (x : SinkReading). sink_write_of x.list) p ∙ sinks.sink_read_write l typed (none_of Sink l n))

pub sink_write_then_read : SinkWriteThenRead
sink_write_then_read o w e s r f =
    let x = write_passes Sink (sink_encoded_at o.places) o.count (ap (λ (v : Verdict). v.number) (sym (ap (λ (y : Listing). y.verdict) e) ∙ s)) in
    f ∙ ap (λ (y : Listing). sink_read_of y.list) (e ∙ write_clear Sink (sink_encoded_at o.places) o.count x) ∙ sinks.sink_write_read o x

-- ---- as C has it

pub arin_sink_read_then_write : ArinSinkReadThenWrite
arin_sink_read_then_write l typed s r e w f = flat_read_then_write Sink l typed s r e w f

pub arin_sink_write_then_read : ArinSinkWriteThenRead
arin_sink_write_then_read f w e s r g = flat_write_then_read Sink f w e s r g

-- the object of a word, flattened, is that of its sink object
word_flat : (l : Words) → NoneApply (sink_shape_refusals l) → (k : ℕ) → k < l.count
    → flat_word l.words k ≡ flat_of (as_object (sink_place (get_or l.words k 0)).object)
word_flat l x k h =
    let w = get_or l.words k 0 in
    let q = object_of (decode_for Sink w) in
    let known = word_known Sink l x k h in
    ap (λ (d : Option Object). flat_of (object_of d)) (known_for Sink (decode_of w) q known)
    ∙ sym (ap flat_of (sinks.sink_as_object w (eqb k 0) q known (word_clear Sink l x k h) (sink_place w).object (sinks.sink_word_known l x k h)))

pub arin_sink_reads_sinks : ArinSinkReadsSinks
unfolding flat_reading_for
arin_sink_reads_sinks l s r e t f k h =
    let n : (shape_for Sink l).number ≡ 0 = ap (λ (v : Verdict). v.number) (sym s) in
    let x = none_of Sink l n in
    let high = count_high l.count x.0 in
    ap (λ (y : FlatReading). get_or y.list.places k empty_flat) (e ∙ ap flat_reading (read_passes Sink l n))
    ∙ ap (λ (fs : _). get_or fs k empty_flat) (sym (words_flattened l.words l.count))
    ∙ filled_at (flat_word l.words) empty_flat l.count k high h
    ∙ word_flat l x k h
    ∙ sym (ap (λ (p : SinkPlace). flat_of (as_object p.object))
    (ap (λ (y : SinkReading). get_or y.list.places k empty_sink) (f ∙ sink_read_passes l n)
    ∙ filled_at (λ (j : ℕ). sink_place (get_or l.words j 0)) empty_sink l.count k high h))
