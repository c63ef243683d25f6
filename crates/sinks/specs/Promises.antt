-- What each public call of this crate promises of its answer (STATEMENT, "Sink lists"). The contracts cite these names, and so do the
-- theorems over them.
-- Assumes nothing.
use Rattle.std.specs.Prelude.{◌≡◌, ℕ, Option}
use Rattle.verdicts.specs.declared.Verdict.{Verdict}
use Rattle.steps.specs.declared.HalfWatts.{HalfWatts}
use Rattle.objects.specs.Encode.{encoded_says}
use Rattle.lists.specs.declared.Words.{Words}
use Rattle.lists.specs.declared.Listing.{Listing}
use Rattle.sinks.specs.declared.SinkObject.{SinkObject}
use Rattle.sinks.specs.declared.SinkObjects.{SinkObjects}
use Rattle.sinks.specs.declared.SinkReading.{SinkReading}
use Rattle.sinks.specs.SinkWords.{sink_decoded_says, sink_word_says, sink_object_says}
use Rattle.sinks.specs.SinkLists.{sink_shape_of, sink_read_of, sink_write_of}
use Rattle.sinks.specs.Rating.{sink_checked_of}

abbrev pub SinkDecodes : ℕ → Option SinkObject → Type 0
SinkDecodes w r = sink_decoded_says r ≡ sink_word_says w

abbrev pub SinkEncodes : SinkObject → Option ℕ → Type 0
SinkEncodes o r = encoded_says r ≡ sink_object_says o

abbrev pub SinkShapes : Words → Verdict → Type 0
SinkShapes l r = r ≡ sink_shape_of l

abbrev pub SinkReads : Words → SinkReading → Type 0
SinkReads l r = r ≡ sink_read_of l

abbrev pub SinkWrites : SinkObjects → Listing → Type 0
SinkWrites o r = r ≡ sink_write_of o

abbrev pub SinkChecks : HalfWatts → Words → Verdict → Type 0
SinkChecks rating l r = r ≡ sink_checked_of rating.0 l
