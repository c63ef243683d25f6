-- What is told of an object (docs/CONSOLE.md, Objects): the capital letter of its kind, and its fields in their order.
-- Assumes nothing.
use Rattle.std.specs.Prelude.{List, [], ◌∷◌, ℕ}
use Rattle.objects.specs.declared.Object.{Object}
use Rattle.objects.specs.declared.Object.TheVariants.{Fixed, Battery, Variable, Pps, Avs}
use Rattle.lines.specs.Numbers.{numbers_text}

abbrev pub object_text : Object → List ℕ
object_text (Fixed flags peak volts current) = 70 ∷ numbers_text (flags ∷ peak ∷ volts.0 ∷ current.0 ∷ [])
object_text (Battery max min power) = 66 ∷ numbers_text (max.0 ∷ min.0 ∷ power.0 ∷ [])
object_text (Variable max min current) = 86 ∷ numbers_text (max.0 ∷ min.0 ∷ current.0 ∷ [])
object_text (Pps limited max min current) = 80 ∷ numbers_text (limited ∷ max.0 ∷ min.0 ∷ current.0 ∷ [])
object_text (Avs peak low high) = 65 ∷ numbers_text (peak ∷ low.0 ∷ high.0 ∷ [])
