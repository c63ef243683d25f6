-- Demand 1, refusals, for the calls over sink lists: number n with its place is given exactly when refusal n applies there and none before it
-- does. On a refusal all else in the answer is zero. Each claim is proved by the theorem of its name in small letters in
-- proofs/SinkRefusals.antt; the order is in docs/STATEMENT.md, "Refusal numbers".
-- Assumes nothing.
use Rattle.std.specs.Prelude.{◌≡◌, true, false, ℕ, Option}
use Rattle.verdicts.specs.declared.Verdict.{Verdict}
use Rattle.verdicts.specs.Refusals.{success}
use Rattle.steps.specs.declared.HalfWatts.{HalfWatts}
use Rattle.objects.specs.declared.Side.TheVariants.{Sink}
use Rattle.objects.specs.Layout.{all_fit}
use Rattle.objects.specs.Decode.{kind_bits, not_allowed_for}
use Rattle.objects.specs.Encode.{encoded_says}
use Rattle.lists.specs.declared.Words.{Words}
use Rattle.lists.specs.declared.Listing.{Listing}
use Rattle.lists.specs.Writing.{no_words}
use Rattle.sinks.specs.declared.SinkObject.{SinkObject}
use Rattle.sinks.specs.declared.SinkObjects.{SinkObjects}
use Rattle.sinks.specs.declared.SinkReading.{SinkReading}
use Rattle.sinks.specs.SinkWords.{zero_sink, sink_decoded_says, sink_fields_of}
use Rattle.sinks.specs.SinkLists.{sink_shape_refusals, no_sinks, sink_write_refusals}
use Rattle.sinks.specs.Rating.{sink_check_refusals}
use Rattle.flat.specs.declared.FlatObjects.{FlatObjects}
use Rattle.flat.specs.declared.FlatReading.{FlatReading}
use Rattle.flat.specs.Writing.{flat_write_refusals}
use Rattle.flat.specs.Kept.{no_flat}
use Rattle.demands.specs.SinkContracts.{SinkDecodeAnswers, SinkEncodeAnswers, SinkShapeAnswers, SinkReadAnswers, SinkWriteAnswers, SinkCheckAnswers, ArinSinkShapeAnswers, ArinSinkReadAnswers, ArinSinkWriteAnswers, ArinSinkCheckAnswers}
use Rattle.demands.specs.Refusals.{Answers}
use Rattle.demands.specs.EnumRefusals.{OneRefusal}

-- ---- one word

-- 12 exactly for the kinds that no sink has
abbrev pub SinkDecode12 : Type 0
SinkDecode12 =
    (w : ℕ) (r : Option SinkObject) → SinkDecodeAnswers w r → OneRefusal zero_sink 12 (not_allowed_for Sink (kind_bits w) ≡ true) (sink_decoded_says r)

-- 7 exactly where a field does not fit its bits
abbrev pub SinkEncode7 : Type 0
SinkEncode7 = (o : SinkObject) (r : Option ℕ) → SinkEncodeAnswers o r → OneRefusal 0 7 (all_fit (sink_fields_of o) ≡ false) (encoded_says r)

-- ---- a list

abbrev pub SinkShapeRefusals : Type 0
SinkShapeRefusals = (l : Words) (r : Verdict) → SinkShapeAnswers l r → Answers r (sink_shape_refusals l)

abbrev pub SinkReadRefusals : Type 0
SinkReadRefusals =
    (l : Words) (r : SinkReading) → SinkReadAnswers l r
    → Answers r.verdict (sink_shape_refusals l) × ((r.verdict ≡ success → ⊥) → r.list ≡ no_sinks)

abbrev pub SinkWriteRefusals : Type 0
SinkWriteRefusals =
    (o : SinkObjects) (r : Listing) → SinkWriteAnswers o r
    → Answers r.verdict (sink_write_refusals o) × ((r.verdict ≡ success → ⊥) → r.list ≡ no_words)

abbrev pub SinkCheckRefusals : Type 0
SinkCheckRefusals = (rating : HalfWatts) (l : Words) (r : Verdict) → SinkCheckAnswers rating l r → Answers r (sink_check_refusals rating.0 l)

-- ---- board

abbrev pub ArinSinkShapeRefusals : Type 0
ArinSinkShapeRefusals = (l : Words) (r : Verdict) → ArinSinkShapeAnswers l r → Answers r (sink_shape_refusals l)

abbrev pub ArinSinkReadRefusals : Type 0
ArinSinkReadRefusals =
    (l : Words) (r : FlatReading) → ArinSinkReadAnswers l r
    → Answers r.verdict (sink_shape_refusals l) × ((r.verdict ≡ success → ⊥) → r.list ≡ no_flat)

abbrev pub ArinSinkWriteRefusals : Type 0
ArinSinkWriteRefusals =
    (f : FlatObjects) (r : Listing) → ArinSinkWriteAnswers f r
    → Answers r.verdict (flat_write_refusals Sink f) × ((r.verdict ≡ success → ⊥) → r.list ≡ no_words)

abbrev pub ArinSinkCheckRefusals : Type 0
ArinSinkCheckRefusals = (rating : ℕ) (l : Words) (r : Verdict) → ArinSinkCheckAnswers rating l r → Answers r (sink_check_refusals rating l)
