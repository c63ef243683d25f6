-- The figures of an object that stands in a word are as narrow as their bits (STATEMENT, "Steps of measure", the widths). Of such an object
-- every limit fits 16 bits.
-- Assumes nothing.
use Rattle.std.specs.Prelude.{◌<◌}
use Rattle.objects.specs.declared.Object.{Object}
use Rattle.objects.specs.declared.Object.TheVariants.{Fixed, Battery, Variable, Pps, Avs}

-- ten bits, and of PPS eight for a voltage and seven for a current
abbrev pub Narrow : Object → Type 0
Narrow (Fixed f p v a) = (v.0 < 1024) × (a.0 < 1024)
Narrow (Battery x m p) = (x.0 < 1024) × (m.0 < 1024)
Narrow (Variable x m a) = (x.0 < 1024) × ((m.0 < 1024) × (a.0 < 1024))
Narrow (Pps l x m a) = (x.0 < 256) × ((m.0 < 256) × (a.0 < 128))
Narrow (Avs p l h) = (l.0 < 1024) × (h.0 < 1024)
