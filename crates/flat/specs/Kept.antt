-- A flat list as it is returned (STATEMENT, "Lists in hand"): the own fields of each object up to the count, zero past it.
-- Assumes nothing.
use Rattle.std.specs.Prelude.{ℕ, get_or, replicate}
use Rattle.objects.specs.declared.Side.{Side}
use Rattle.lists.specs.Seven.{seven_to}
use Rattle.flat.specs.declared.FlatObjects.{FlatObjects}
use Rattle.flat.specs.Flat.{own_for}
use Rattle.flat.specs.Reading.{empty_flat}

abbrev pub kept_flat : Side → FlatObjects → FlatObjects
kept_flat side f = record { places = seven_to (λ (k : ℕ). own_for side (get_or f.places k empty_flat)) empty_flat f.count; count = f.count }

abbrev pub no_flat : FlatObjects
no_flat = record { places = replicate 7 empty_flat; count = 0 }
