-- The contract of each call over sink lists, and of each of them under its C name. As in CallContracts each name is the clause of the source
-- itself. Nothing is claimed here.
-- Assumes nothing.
use Rattle.std.specs.Prelude.{ℕ, Option}
use Rattle.verdicts.specs.declared.Verdict.{Verdict}
use Rattle.steps.specs.declared.HalfWatts.{HalfWatts}
use Rattle.lists.specs.declared.Words.{Words}
use Rattle.lists.specs.declared.Listing.{Listing}
use Rattle.sinks.specs.declared.SinkObject.{SinkObject}
use Rattle.sinks.specs.declared.SinkObjects.{SinkObjects}
use Rattle.sinks.specs.declared.SinkReading.{SinkReading}
use Rattle.sinks.proofs.sink_decode.Reads as sink_decode
use Rattle.sinks.proofs.sink_encode.Reads as sink_encode
use Rattle.sinks.proofs.sink_shape.Reads as sink_shape
use Rattle.sinks.proofs.sink_read.Reads as sink_read
use Rattle.sinks.proofs.sink_write.Reads as sink_write
use Rattle.sinks.proofs.sink_check.Reads as sink_check
use Rattle.flat.specs.declared.FlatObjects.{FlatObjects}
use Rattle.flat.specs.declared.FlatReading.{FlatReading}
use Rattle.board.proofs.arin_sink_shape.Reads as arin_sink_shape
use Rattle.board.proofs.arin_sink_read.Reads as arin_sink_read
use Rattle.board.proofs.arin_sink_write.Reads as arin_sink_write
use Rattle.board.proofs.arin_sink_check.Reads as arin_sink_check

-- ---- sinks

abbrev pub SinkDecodeAnswers : ℕ → Option SinkObject → Type 0
SinkDecodeAnswers w r = sink_decode.Post tt (w, tt) r (w, tt)

abbrev pub SinkEncodeAnswers : SinkObject → Option ℕ → Type 0
SinkEncodeAnswers o r = sink_encode.Post tt (o, tt) r (o, tt)

abbrev pub SinkShapeAnswers : Words → Verdict → Type 0
SinkShapeAnswers l r = sink_shape.Post tt (l, tt) r (l, tt)

abbrev pub SinkReadAnswers : Words → SinkReading → Type 0
SinkReadAnswers l r = sink_read.Post tt (l, tt) r (l, tt)

abbrev pub SinkWriteAnswers : SinkObjects → Listing → Type 0
SinkWriteAnswers o r = sink_write.Post tt (o, tt) r (o, tt)

abbrev pub SinkCheckAnswers : HalfWatts → Words → Verdict → Type 0
SinkCheckAnswers rating l r = sink_check.Post tt (rating, (l, tt)) r (rating, (l, tt))

-- ---- board

abbrev pub ArinSinkShapeAnswers : Words → Verdict → Type 0
ArinSinkShapeAnswers l r = arin_sink_shape.Post tt (l, tt) r (l, tt)

abbrev pub ArinSinkReadAnswers : Words → FlatReading → Type 0
ArinSinkReadAnswers l r = arin_sink_read.Post tt (l, tt) r (l, tt)

abbrev pub ArinSinkWriteAnswers : FlatObjects → Listing → Type 0
ArinSinkWriteAnswers f r = arin_sink_write.Post tt (f, tt) r (f, tt)

abbrev pub ArinSinkCheckAnswers : ℕ → Words → Verdict → Type 0
ArinSinkCheckAnswers rating l r = arin_sink_check.Post tt (rating, (l, tt)) r (rating, (l, tt))
