-- What is asked of an object, or of an object of one kind (STATEMENT, "Object words"), says nothing of anything else: there the answer is
-- no.
-- Assumes nothing.
use Rattle.std.specs.Prelude.{Bool, false, Option, Some, None}
use Rattle.steps.specs.declared.Mv50.{Mv50}
use Rattle.steps.specs.declared.Mv100.{Mv100}
use Rattle.steps.specs.declared.Ma10.{Ma10}
use Rattle.steps.specs.declared.Ma50.{Ma50}
use Rattle.objects.specs.declared.Object.{Object}
use Rattle.objects.specs.declared.Object.TheVariants.{Fixed, Battery, Variable, Pps, Avs}

abbrev pub of_object : (Object → Bool) → Option Object → Bool
of_object asked (Some o) = asked o
of_object asked None = false

-- asked of the voltage and the current of a fixed object
abbrev pub of_fixed : (Mv50 → Ma10 → Bool) → Object → Bool
of_fixed asked (Fixed f p v a) = asked v a
of_fixed asked (Battery x m p) = false
of_fixed asked (Variable x m a) = false
of_fixed asked (Pps l x m a) = false
of_fixed asked (Avs p l h) = false

-- asked of the max and min voltage and the current of a PPS object
abbrev pub of_pps : (Mv100 → Mv100 → Ma50 → Bool) → Object → Bool
of_pps asked (Fixed f p v a) = false
of_pps asked (Battery x m p) = false
of_pps asked (Variable x m a) = false
of_pps asked (Pps l x m a) = asked x m a
of_pps asked (Avs p l h) = false

-- asked of the two currents of an AVS object
abbrev pub of_avs : (Ma10 → Ma10 → Bool) → Object → Bool
of_avs asked (Fixed f p v a) = false
of_avs asked (Battery x m p) = false
of_avs asked (Variable x m a) = false
of_avs asked (Pps l x m a) = false
of_avs asked (Avs p l h) = asked l h
