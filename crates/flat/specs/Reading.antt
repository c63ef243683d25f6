-- Reading a list as flat objects (STATEMENT, "Lists in hand", and of a sink "Shape of a sink list"): what `lists` reads,
-- each place flattened.
-- Assumes nothing.
use Rattle.std.specs.Prelude.{List, ℕ, get_or}
use Rattle.objects.specs.declared.Side.{Side}
use Rattle.objects.specs.declared.Side.TheVariants.{Source}
use Rattle.lists.specs.declared.Words.{Words}
use Rattle.lists.specs.declared.Place.{Place}
use Rattle.lists.specs.declared.Objects.{Objects}
use Rattle.lists.specs.declared.Reading.{Reading}
use Rattle.lists.specs.Seven.{seven_to}
use Rattle.lists.specs.Reading.{empty_place, read_for}
use Rattle.flat.specs.declared.FlatObject.{FlatObject}
use Rattle.flat.specs.declared.FlatObjects.{FlatObjects}
use Rattle.flat.specs.declared.FlatReading.{FlatReading}
use Rattle.flat.specs.Flat.{no_mv50, no_ma10, flat_fixed, flat_of}

-- "in a list of objects such a place is a fixed object with all its fields zero"
abbrev pub empty_flat : FlatObject
empty_flat = flat_fixed 0 0 no_mv50 no_ma10

-- the object at place k + 1, flattened
abbrev pub flat_at : List Place → ℕ → FlatObject
flat_at ps k = flat_of (get_or ps k empty_place).object

abbrev pub flat_objects : Objects → FlatObjects
flat_objects o = record { places = seven_to (flat_at o.places) empty_flat 7; count = o.count }

abbrev pub flat_reading : Reading → FlatReading
flat_reading r = record { verdict = r.verdict; list = flat_objects r.list }

unfoldable pub flat_reading_for : Side → Words → FlatReading
flat_reading_for side l = flat_reading (read_for side l)

abbrev pub flat_reading_of : Words → FlatReading
flat_reading_of l = flat_reading_for Source l
