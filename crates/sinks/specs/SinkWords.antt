-- What a word says in the list of a sink, and the word of a sink object (STATEMENT, "Sink objects").
-- Assumes nothing.
use Rattle.std.specs.Prelude.{cond, List, [], ◌∷◌, ℕ, zero, suc, Option, Some, None, Result, Ok, Err}
use Rattle.objects.specs.Bits.{bits}
use Rattle.objects.specs.Layout.{Field, field}
use Rattle.objects.specs.Decode.{kind_bits, not_allowed_for}
use Rattle.objects.specs.Encode.{three_fields, word_of, fields_say}
use Rattle.objects.specs.declared.Side.TheVariants.{Sink}
use Rattle.objects.specs.declared.Object.{Object}
use Rattle.objects.specs.declared.Object.TheVariants as source
use Rattle.sinks.specs.declared.SinkObject.{SinkObject}
use Rattle.sinks.specs.declared.SinkObject.TheVariants.{Fixed, Battery, Variable, Pps}

-- ---- "A sink object has one of four kinds: fixed, battery, variable and PPS. Its fields", at their bits

-- flags, voltage, current
abbrev pub sink_fixed_of : ℕ → SinkObject
sink_fixed_of w = Fixed (bits w 29 23) (record { 0 = bits w 19 10 }) (record { 0 = bits w 9 0 })

-- maximum voltage, minimum voltage, power
abbrev pub sink_battery_of : ℕ → SinkObject
sink_battery_of w = Battery (record { 0 = bits w 29 20 }) (record { 0 = bits w 19 10 }) (record { 0 = bits w 9 0 })

-- maximum voltage, minimum voltage, current
abbrev pub sink_variable_of : ℕ → SinkObject
sink_variable_of w = Variable (record { 0 = bits w 29 20 }) (record { 0 = bits w 19 10 }) (record { 0 = bits w 9 0 })

-- maximum voltage, minimum voltage, current
abbrev pub sink_pps_of : ℕ → SinkObject
sink_pps_of w = Pps (record { 0 = bits w 24 17 }) (record { 0 = bits w 15 8 }) (record { 0 = bits w 6 0 })

-- by the number in the kind's bits: 00b, 01b, 10b, and of the others 1100b alone is a sink's
abbrev pub sink_by : ℕ → ℕ → SinkObject
sink_by zero w = sink_fixed_of w
sink_by (suc zero) w = sink_battery_of w
sink_by (suc (suc zero)) w = sink_variable_of w
sink_by (suc (suc (suc k))) w = sink_pps_of w

-- "the kinds 1101b, 1110b and 1111b are not allowed"
unfoldable pub sink_decode_of : ℕ → Option SinkObject
sink_decode_of w = cond (not_allowed_for Sink (kind_bits w)) None (Some (sink_by (kind_bits w) w))

-- ---- what each answer says: its refusal number, and the object

abbrev pub zero_sink : SinkObject
zero_sink = Fixed 0 (record { 0 = 0 }) (record { 0 = 0 })

-- 12: "a kind that is not allowed". "On a refusal everything else in the answer is zero".
abbrev pub sink_decoded_says : Option SinkObject → ℕ × SinkObject
sink_decoded_says (Some o) = (0, o)
sink_decoded_says None = (12, zero_sink)

-- what is to be said of a word
abbrev pub sink_word_says : ℕ → ℕ × SinkObject
sink_word_says w = cond (not_allowed_for Sink (kind_bits w)) (12, zero_sink) (0, sink_by (kind_bits w) w)

-- ---- "Putting a sink object together sets its reserved bits to zero, and refuses with 7 when a field does not fit its bits."

abbrev pub sink_fields_of : SinkObject → List Field
sink_fields_of (Fixed f v a) = field a.0 9 0 ∷ field v.0 19 10 ∷ field 0 22 20 ∷ field f 29 23 ∷ field 0 31 30 ∷ []
sink_fields_of (Battery x m p) = three_fields 1 x.0 m.0 p.0
sink_fields_of (Variable x m a) = three_fields 2 x.0 m.0 a.0
sink_fields_of (Pps x m a) =
    field a.0 6 0
    ∷ field 0 7 7
    ∷ field m.0 15 8
    ∷ field 0 16 16
    ∷ field x.0 24 17
    ∷ field 0 27 25
    ∷ field 0 29 28
    ∷ field 3 31 30
    ∷ []

abbrev pub sink_encode_of : SinkObject → Option ℕ
sink_encode_of o = word_of (sink_fields_of o)

-- what is to be said of a sink object
abbrev pub sink_object_says : SinkObject → ℕ × ℕ
sink_object_says o = fields_say (sink_fields_of o)

-- ---- as an object of the source side: "A sink has no peak current and no power limited"

abbrev pub as_object : SinkObject → Object
as_object (Fixed f v a) = source.Fixed f 0 v a
as_object (Battery x m p) = source.Battery x m p
as_object (Variable x m a) = source.Variable x m a
as_object (Pps x m a) = source.Pps 0 x m a

-- and back: without them. No sink has an AVS object
abbrev pub of_sink : Object → Result SinkObject Object
of_sink (source.Fixed f p v a) = Ok (Fixed f v a)
of_sink (source.Battery x m p) = Ok (Battery x m p)
of_sink (source.Variable x m a) = Ok (Variable x m a)
of_sink (source.Pps l x m a) = Ok (Pps x m a)
of_sink (source.Avs p l h) = Err (source.Avs p l h)
