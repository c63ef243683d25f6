-- What each public call of this crate promises of its answer (STATEMENT, "Lists in hand", "Decoded requests" and "Answering from a summary"). The
-- contracts cite these names, and so do the theorems over them.
-- Assumes nothing.
use Rattle.std.specs.Prelude.{◌≡◌, ℕ, Option}
use Rattle.verdicts.specs.declared.Verdict.{Verdict}
use Rattle.objects.specs.declared.Side.{Side}
use Rattle.objects.specs.declared.Object.{Object}
use Rattle.lists.specs.declared.Words.{Words}
use Rattle.lists.specs.declared.Listing.{Listing}
use Rattle.summaries.specs.declared.Summary.{Summary}
use Rattle.flat.specs.declared.FlatObject.{FlatObject}
use Rattle.flat.specs.declared.FlatObjects.{FlatObjects}
use Rattle.flat.specs.declared.FlatReading.{FlatReading}
use Rattle.flat.specs.declared.FlatRequest.{FlatRequest}
use Rattle.flat.specs.declared.FlatTaken.{FlatTaken}
use Rattle.flat.specs.Flat.{flat_of, raised_says, flat_says}
use Rattle.flat.specs.Reading.{flat_reading_for, flat_reading_of}
use Rattle.flat.specs.Writing.{flat_write_for, flat_write_of}
use Rattle.flat.specs.Requesting.{flat_taken_of, flat_answered_of}

abbrev pub Flattens : Object → FlatObject → Type 0
Flattens o r = r ≡ flat_of o

abbrev pub Raises : FlatObject → Option Object → Type 0
Raises x r = raised_says r ≡ flat_says x

abbrev pub FlatReadsFor : Side → Words → FlatReading → Type 0
FlatReadsFor side l r = r ≡ flat_reading_for side l

abbrev pub FlatReads : Words → FlatReading → Type 0
FlatReads l r = r ≡ flat_reading_of l

abbrev pub FlatWritesFor : Side → FlatObjects → Listing → Type 0
FlatWritesFor side f r = r ≡ flat_write_for side f

abbrev pub FlatWrites : FlatObjects → Listing → Type 0
FlatWrites f r = r ≡ flat_write_of f

abbrev pub FlatTakesRequest : Words → ℕ → FlatTaken → Type 0
FlatTakesRequest l w r = r ≡ flat_taken_of l w

abbrev pub FlatAnswersSummary : Summary → FlatRequest → Verdict → Type 0
FlatAnswersSummary s x r = r ≡ flat_answered_of s x
