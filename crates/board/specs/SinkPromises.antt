-- What each call over sink lists promises of its answer (STATEMENT, "Sink lists"): the definition of the floor below. The contracts cite
-- these names, and so do the theorems over them.
-- Assumes nothing.
use Rattle.std.specs.Prelude.{◌≡◌, ℕ}
use Rattle.verdicts.specs.declared.Verdict.{Verdict}
use Rattle.objects.specs.declared.Side.TheVariants.{Sink}
use Rattle.lists.specs.declared.Words.{Words}
use Rattle.lists.specs.declared.Listing.{Listing}
use Rattle.sinks.specs.SinkLists.{sink_shape_of}
use Rattle.sinks.specs.Rating.{sink_checked_of}
use Rattle.flat.specs.declared.FlatObjects.{FlatObjects}
use Rattle.flat.specs.declared.FlatReading.{FlatReading}
use Rattle.flat.specs.Reading.{flat_reading_for}
use Rattle.flat.specs.Writing.{flat_write_for}

abbrev pub ArinSinkShapes : Words → Verdict → Type 0
ArinSinkShapes l r = r ≡ sink_shape_of l

abbrev pub ArinSinkReads : Words → FlatReading → Type 0
ArinSinkReads l r = r ≡ flat_reading_for Sink l

abbrev pub ArinSinkWrites : FlatObjects → Listing → Type 0
ArinSinkWrites f r = r ≡ flat_write_for Sink f

abbrev pub ArinSinkChecks : ℕ → Words → Verdict → Type 0
ArinSinkChecks rating l r = r ≡ sink_checked_of rating l
