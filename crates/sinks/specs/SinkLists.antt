-- Reading and writing the list of a sink (STATEMENT, "Shape of a sink list": "Reading and writing are as on the source side, with this
-- shape").
-- Assumes nothing.
use Rattle.std.specs.Prelude.{List, ℕ, get_or, replicate, Option, Result}
use Rattle.verdicts.specs.declared.Verdict.{Verdict}
use Rattle.verdicts.specs.Refusals.{Refusal, first_of, verdict, success}
use Rattle.objects.specs.declared.Side.TheVariants.{Sink}
use Rattle.lists.specs.declared.Words.{Words}
use Rattle.lists.specs.declared.Listing.{Listing}
use Rattle.lists.specs.Shape.{refusals_for, shape_for}
use Rattle.lists.specs.Seven.{seven_to}
use Rattle.lists.specs.Writing.{words_from, writing_refusals, written_from}
use Rattle.lists.specs.Making.{words_made}
use Rattle.sinks.specs.declared.SinkObject.{SinkObject}
use Rattle.sinks.specs.declared.SinkPlace.{SinkPlace}
use Rattle.sinks.specs.declared.SinkObjects.{SinkObjects}
use Rattle.sinks.specs.declared.SinkReading.{SinkReading}
use Rattle.sinks.specs.SinkWords.{sink_decode_of, sink_decoded_says, zero_sink, sink_encode_of}

-- "10; 11; then for each word in turn 12, 13, 15, 16, 14"
abbrev pub sink_shape_refusals : Words → List Refusal
sink_shape_refusals l = refusals_for Sink l

abbrev pub sink_shape_of : Words → Verdict
sink_shape_of l = shape_for Sink l

-- ---- reading

-- "A place past the count is, in what is given back, a fixed object with all its fields zero."
abbrev pub empty_sink : SinkPlace
empty_sink = record { object = zero_sink }

abbrev pub no_sinks : SinkObjects
no_sinks = record { places = replicate 7 empty_sink; count = 0 }

-- the object of a word; a list whose shape passes has one in every word
abbrev pub sink_in : Option SinkObject → SinkObject
sink_in d = (sink_decoded_says d).1

abbrev pub sink_place : ℕ → SinkPlace
sink_place w = record { object = sink_in (sink_decode_of w) }

-- those of the first n words
abbrev pub sink_objects_to : List ℕ → ℕ → SinkObjects
sink_objects_to ws n = record { places = seven_to (λ (k : ℕ). sink_place (get_or ws k 0)) empty_sink n; count = n }

abbrev pub sink_objects_of : Words → SinkObjects
sink_objects_of l = sink_objects_to l.words l.count

abbrev pub sink_read_refused : ℕ → ℕ → SinkReading
sink_read_refused n p = record { verdict = verdict n p; list = no_sinks }

-- "reading refuses what it refuses"
unfoldable pub sink_read_of : Words → SinkReading
sink_read_of l = first_of sink_read_refused (sink_shape_refusals l) (record { verdict = success; list = sink_objects_of l })

-- ---- writing: "10, then 7 at the first such object, then what the shape of the words refuses"

abbrev pub sink_encoded_at : List SinkPlace → ℕ → Option ℕ
sink_encoded_at ps k = sink_encode_of (get_or ps k empty_sink).object

abbrev pub sink_words_of : SinkObjects → Words
sink_words_of o = words_from (sink_encoded_at o.places) o.count

abbrev pub sink_write_refusals : SinkObjects → List Refusal
sink_write_refusals o = writing_refusals Sink (sink_encoded_at o.places) o.count

abbrev pub sink_write_of : SinkObjects → Listing
sink_write_of o = written_from Sink (sink_encoded_at o.places) o.count

-- the words made, before their shape is looked at, for `?`
abbrev pub sink_made_of : SinkObjects → Result Words Verdict
sink_made_of o = words_made (sink_encoded_at o.places) o.count
