-- No second outcome, for the calls over sink lists: for every input the contract allows one answer only. `NoSecondSinkOutcome` has a line for
-- each of them, by its name. Each line is proved by the theorem of its name, `sink_shape_settles` for `sink_shape`, and all together by
-- `no_second_sink_outcome`, in proofs/SinkOutcomes.antt (docs/STATEMENT.md, "What the contracts settle").
-- Assumes nothing.
use Rattle.std.specs.Prelude.{ℕ}
use Rattle.steps.specs.declared.HalfWatts.{HalfWatts}
use Rattle.demands.specs.SinkContracts.{SinkDecodeAnswers, SinkEncodeAnswers, SinkShapeAnswers, SinkReadAnswers, SinkWriteAnswers, SinkCheckAnswers, ArinSinkShapeAnswers, ArinSinkReadAnswers, ArinSinkWriteAnswers, ArinSinkCheckAnswers}
use Rattle.demands.specs.OneOutcome.{Settled}

pub record NoSecondSinkOutcome : Type 0 where
  -- sinks
  pub sink_decode : Settled SinkDecodeAnswers
  pub sink_encode : Settled SinkEncodeAnswers
  pub sink_shape : Settled SinkShapeAnswers
  pub sink_read : Settled SinkReadAnswers
  pub sink_write : Settled SinkWriteAnswers
  pub sink_check : (rating : HalfWatts) → Settled (SinkCheckAnswers rating)
  -- board
  pub arin_sink_shape : Settled ArinSinkShapeAnswers
  pub arin_sink_read : Settled ArinSinkReadAnswers
  pub arin_sink_write : Settled ArinSinkWriteAnswers
  pub arin_sink_check : (rating : ℕ) → Settled (ArinSinkCheckAnswers rating)
