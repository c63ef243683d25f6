-- Proves the claims of specs/SinkOutcomes.antt.
-- Assumes nothing.
use mathlib.Core.Path.{sym, ◌∙◌}
use Prim.Native.Nat.{ℕ}
use Rattle.steps.specs.declared.HalfWatts.{HalfWatts}
use Rattle.objects.proofs.Saying.{encoded_one}
use Rattle.sinks.proofs.SinkWords.{sink_decoded_one}
use Rattle.demands.specs.SinkContracts.{SinkDecodeAnswers, SinkEncodeAnswers, SinkShapeAnswers, SinkReadAnswers, SinkWriteAnswers, SinkCheckAnswers, ArinSinkShapeAnswers, ArinSinkReadAnswers, ArinSinkWriteAnswers, ArinSinkCheckAnswers}
use Rattle.demands.specs.OneOutcome.{Settled}
use Rattle.demands.specs.SinkOutcomes.{NoSecondSinkOutcome}

-- ---- sinks

pub sink_decode_settles : Settled SinkDecodeAnswers
sink_decode_settles w r s e f = sink_decoded_one r s (e ∙ sym f)

pub sink_encode_settles : Settled SinkEncodeAnswers
sink_encode_settles o r s e f = encoded_one r s (e ∙ sym f)

pub sink_shape_settles : Settled SinkShapeAnswers
sink_shape_settles l r s e f = e ∙ sym f

pub sink_read_settles : Settled SinkReadAnswers
sink_read_settles l r s e f = e ∙ sym f

pub sink_write_settles : Settled SinkWriteAnswers
sink_write_settles o r s e f = e ∙ sym f

pub sink_check_settles : (rating : HalfWatts) → Settled (SinkCheckAnswers rating)
sink_check_settles rating l r s e f = e ∙ sym f

-- ---- board

pub arin_sink_shape_settles : Settled ArinSinkShapeAnswers
arin_sink_shape_settles l r s e f = e ∙ sym f

pub arin_sink_read_settles : Settled ArinSinkReadAnswers
arin_sink_read_settles l r s e f = e ∙ sym f

pub arin_sink_write_settles : Settled ArinSinkWriteAnswers
arin_sink_write_settles o r s e f = e ∙ sym f

pub arin_sink_check_settles : (rating : ℕ) → Settled (ArinSinkCheckAnswers rating)
arin_sink_check_settles rating l r s e f = e ∙ sym f

-- ---- all of them

pub no_second_sink_outcome : NoSecondSinkOutcome
no_second_sink_outcome = record {
  sink_decode = sink_decode_settles;
  sink_encode = sink_encode_settles;
  sink_shape = sink_shape_settles;
  sink_read = sink_read_settles;
  sink_write = sink_write_settles;
  sink_check = sink_check_settles;
  arin_sink_shape = arin_sink_shape_settles;
  arin_sink_read = arin_sink_read_settles;
  arin_sink_write = arin_sink_write_settles;
  arin_sink_check = arin_sink_check_settles;
}
