-- Demand 2, what is read and written, for sink lists (docs/STATEMENT.md, "Sink objects" and "Shape of a sink list"): a word becomes a sink object
-- and that object the same word again, and the other way round; and so do lists. Each claim is proved by the theorem of its name in small
-- letters in proofs/SinkRoundTrips.antt.
-- Assumes nothing.
use Rattle.std.specs.Prelude.{◌≡◌, Bool, false, ℕ, ◌^◌, ◌<◌, get_or, Option, Some}
use Rattle.verdicts.specs.Refusals.{success}
use Rattle.objects.specs.declared.Side.TheVariants.{Sink}
use Rattle.objects.specs.declared.Object.{Object}
use Rattle.lists.specs.declared.Words.{Words}
use Rattle.lists.specs.declared.Listing.{Listing}
use Rattle.lists.specs.Kept.{kept_words, Words32}
use Rattle.sinks.specs.declared.SinkObject.{SinkObject}
use Rattle.sinks.specs.declared.SinkObjects.{SinkObjects}
use Rattle.sinks.specs.declared.SinkReading.{SinkReading}
use Rattle.sinks.specs.SinkWords.{as_object}
use Rattle.sinks.specs.SinkLists.{empty_sink}
use Rattle.sinks.specs.Kept.{kept_sinks}
use Rattle.flat.specs.declared.FlatObjects.{FlatObjects}
use Rattle.flat.specs.declared.FlatReading.{FlatReading}
use Rattle.flat.specs.Flat.{flat_of}
use Rattle.flat.specs.Reading.{empty_flat}
use Rattle.flat.specs.Kept.{kept_flat}
use Rattle.demands.specs.CallContracts.{DecodeForAnswers, ReservedAnswers}
use Rattle.demands.specs.SinkContracts.{SinkDecodeAnswers, SinkEncodeAnswers, SinkShapeAnswers, SinkReadAnswers, SinkWriteAnswers, ArinSinkShapeAnswers, ArinSinkReadAnswers, ArinSinkWriteAnswers}

-- ---- one word

-- a word of a kind that a sink has, with no reserved bit set, has a sink object, and that object encodes back to the word
abbrev pub SinkDecodeThenEncode : Type 0
SinkDecodeThenEncode =
    (w : ℕ) → w < 2 ^ 32 → (q : Object) → DecodeForAnswers Sink w (Some q) → (first : Bool) → ReservedAnswers Sink q first w false
    → (o : SinkObject) → SinkDecodeAnswers w (Some o) → (e : Option ℕ) → SinkEncodeAnswers o e → e ≡ Some w

-- a sink object whose fields fit encodes to a word, and that word decodes back to the object
abbrev pub SinkEncodeThenDecode : Type 0
SinkEncodeThenDecode = (o : SinkObject) (w : ℕ) → SinkEncodeAnswers o (Some w) → (d : Option SinkObject) → SinkDecodeAnswers w d → d ≡ Some o

-- ---- a list

-- a sink list whose shape passes reads and writes back to the same words, zero past the count
abbrev pub SinkReadThenWrite : Type 0
SinkReadThenWrite =
    (l : Words) → Words32 l → SinkShapeAnswers l success
    → (r : SinkReading) → SinkReadAnswers l r → (w : Listing) → SinkWriteAnswers r.list w
    → (r.verdict ≡ success) × (w ≡ record { verdict = success; list = kept_words l })

-- a list that is written reads back to the same sink objects, zero past the count
abbrev pub SinkWriteThenRead : Type 0
SinkWriteThenRead =
    (o : SinkObjects) (w : Listing) → SinkWriteAnswers o w → w.verdict ≡ success
    → (r : SinkReading) → SinkReadAnswers w.list r → r ≡ record { verdict = success; list = kept_sinks o }

-- ---- as C has it

abbrev pub ArinSinkReadThenWrite : Type 0
ArinSinkReadThenWrite =
    (l : Words) → Words32 l → ArinSinkShapeAnswers l success
    → (r : FlatReading) → ArinSinkReadAnswers l r → (w : Listing) → ArinSinkWriteAnswers r.list w
    → (r.verdict ≡ success) × (w ≡ record { verdict = success; list = kept_words l })

abbrev pub ArinSinkWriteThenRead : Type 0
ArinSinkWriteThenRead =
    (f : FlatObjects) (w : Listing) → ArinSinkWriteAnswers f w → w.verdict ≡ success
    → (r : FlatReading) → ArinSinkReadAnswers w.list r → r ≡ record { verdict = success; list = kept_flat Sink f }

-- each object that C is given is the sink object of its place: "Peak current and power limited are fields that no sink object has: they are not
-- looked at, and zero in what is given back."
abbrev pub ArinSinkReadsSinks : Type 0
ArinSinkReadsSinks =
    (l : Words) → ArinSinkShapeAnswers l success
    → (r : FlatReading) → ArinSinkReadAnswers l r → (s : SinkReading) → SinkReadAnswers l s
    → (k : ℕ) → k < l.count → get_or r.list.places k empty_flat ≡ flat_of (as_object (get_or s.list.places k empty_sink).object)
