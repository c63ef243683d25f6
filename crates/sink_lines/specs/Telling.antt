-- What is told of a sink object (docs/CONSOLE.md, Sink lists): the capital letter of its kind, and its fields in their order.
-- Assumes nothing.
use Rattle.std.specs.Prelude.{List, [], ◌∷◌, ℕ}
use Rattle.sinks.specs.declared.SinkObject.{SinkObject}
use Rattle.sinks.specs.declared.SinkObject.TheVariants.{Fixed, Battery, Variable, Pps}
use Rattle.lines.specs.Numbers.{numbers_text}

abbrev pub sink_object_text : SinkObject → List ℕ
sink_object_text (Fixed flags volts current) = 70 ∷ numbers_text (flags ∷ volts.0 ∷ current.0 ∷ [])
sink_object_text (Battery max min power) = 66 ∷ numbers_text (max.0 ∷ min.0 ∷ power.0 ∷ [])
sink_object_text (Variable max min current) = 86 ∷ numbers_text (max.0 ∷ min.0 ∷ current.0 ∷ [])
sink_object_text (Pps max min current) = 80 ∷ numbers_text (max.0 ∷ min.0 ∷ current.0 ∷ [])
