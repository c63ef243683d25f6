-- What reading a sink list gives: it refuses as the shape of a sink list does, and is empty then.
-- Assumes nothing.
use mathlib.Core.Path.{◌≡◌, ap, ◌∙◌}
use Prim.Native.Nat.{ℕ}
use Rattle.verdicts.specs.declared.Verdict.{Verdict}
use Rattle.verdicts.specs.Refusals.{success, NoneApply}
use Rattle.verdicts.proofs.First.{all_missed, onto}
use Rattle.objects.specs.declared.Side.TheVariants.{Sink}
use Rattle.lists.specs.declared.Words.{Words}
use Rattle.lists.specs.Shape.{shape_for, shaped_of}
use Rattle.lists.specs.Seven.{seven_to}
use Rattle.lists.proofs.Shapes.{none_of, shape_success, as_shape_refused, by_shaped}
use Rattle.sinks.specs.declared.SinkReading.{SinkReading}
use Rattle.sinks.specs.SinkLists.{sink_shape_refusals, sink_shape_of, no_sinks, sink_objects_to, sink_objects_of, sink_read_refused, sink_read_of}

abbrev pub sink_read_as : Words → SinkReading
sink_read_as l = record { verdict = success; list = sink_objects_of l }

module _ (l : Words) where
  abbrev given : Verdict → ℕ → SinkReading
  given v n = record { verdict = v; list = sink_objects_to l.words n }

  -- the objects of the words that there are to read
  pub sink_read_shaped : given (shaped_of Sink l).verdict (shaped_of Sink l).count ≡ sink_read_of l
  unfolding sink_read_of seven_to
  sink_read_shaped = by_shaped Sink l given

  pub sink_read_verdict : (sink_read_of l).verdict ≡ sink_shape_of l
  unfolding sink_read_of shape_for
  sink_read_verdict = onto (λ (r : SinkReading). r.verdict) sink_read_refused (sink_shape_refusals l) (sink_read_as l)

  pub sink_read_refused_lem : ((sink_shape_of l).number ≡ 0 → ⊥) → sink_read_of l ≡ sink_read_refused (sink_shape_of l).number (sink_shape_of l).place
  unfolding sink_read_of
  sink_read_refused_lem f = as_shape_refused sink_read_refused Sink l (sink_read_as l) f

  pub sink_read_clear : NoneApply (sink_shape_refusals l) → sink_read_of l ≡ sink_read_as l
  unfolding sink_read_of
  sink_read_clear x = all_missed sink_read_refused (sink_read_as l) (sink_shape_refusals l) x

  pub sink_read_passes : (sink_shape_of l).number ≡ 0 → sink_read_of l ≡ sink_read_as l
  sink_read_passes e = sink_read_clear (none_of Sink l e)

  -- "On a refusal everything else in the answer is zero, a list is empty"
  pub sink_read_empty : ((sink_read_of l).verdict ≡ success → ⊥) → (sink_read_of l).list ≡ no_sinks
  sink_read_empty f =
      ap (λ (r : SinkReading). r.list) (sink_read_refused_lem (λ z. f (sink_read_verdict ∙ shape_success Sink l z)))
