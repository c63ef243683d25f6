-- What each call over lists and requests promises of its answer (STATEMENT, "Lists in hand" to "Answering a request"): the definition of
-- the floor below. The contracts cite these names, and so do the theorems over them.
-- Assumes nothing.
use Rattle.std.specs.Prelude.{◌≡◌, ℕ}
use Rattle.verdicts.specs.declared.Verdict.{Verdict}
use Rattle.lists.specs.declared.Words.{Words}
use Rattle.lists.specs.declared.Listing.{Listing}
use Rattle.lists.specs.Shape.{shape_of}
use Rattle.rules.specs.declared.Profile.{Profile}
use Rattle.rules.specs.declared.Profiled.{Profiled}
use Rattle.rules.specs.Profiles.{half_watts, default_of}
use Rattle.rules.specs.Building.{built_of}
use Rattle.rules.specs.Checking.{checked_of}
use Rattle.requests.specs.Answering.{answer_of}
use Rattle.flat.specs.declared.FlatObjects.{FlatObjects}
use Rattle.flat.specs.declared.FlatReading.{FlatReading}
use Rattle.flat.specs.Reading.{flat_reading_of}
use Rattle.flat.specs.Writing.{flat_write_of}

abbrev pub ArinDefaults : ℕ → Profiled → Type 0
ArinDefaults m r = r ≡ default_of (half_watts m)

abbrev pub ArinBuilds : Profile → Listing → Type 0
ArinBuilds p r = r ≡ built_of p

abbrev pub ArinChecks : Profile → Words → Verdict → Type 0
ArinChecks p l r = r ≡ checked_of p l

abbrev pub ArinShapes : Words → Verdict → Type 0
ArinShapes l r = r ≡ shape_of l

abbrev pub ArinReads : Words → FlatReading → Type 0
ArinReads l r = r ≡ flat_reading_of l

abbrev pub ArinWrites : FlatObjects → Listing → Type 0
ArinWrites f r = r ≡ flat_write_of f

abbrev pub ArinAnswers : Words → ℕ → Verdict → Type 0
ArinAnswers l w r = r ≡ answer_of l w
