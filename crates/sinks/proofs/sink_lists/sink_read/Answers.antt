-- `sinks::sink_read` meets its contract: the objects of the words that there are to read.
-- Assumes nothing.
use mathlib.Core.Path.{ap, sym, ◌∙◌, subst}
use Prim.Native.Nat.{◌≤◌}
use Rattle.verdicts.specs.declared.Verdict.{Verdict}
use Rattle.objects.specs.declared.Side.TheVariants.{Sink}
use Rattle.lists.specs.declared.Shaped.{Shaped}
use Rattle.lists.proofs.Shapes.{shaped_count}
use Rattle.sinks.specs.declared.SinkObjects.{SinkObjects}
use Rattle.sinks.specs.declared.SinkReading.{SinkReading}
use Rattle.sinks.specs.SinkLists.{sink_objects_to}
use Rattle.sinks.proofs.Readings.{sink_read_shaped}
use Rattle.sinks.proofs.sink_lists.sink_read.Goals as goal

abbrev reading : Verdict → SinkObjects → SinkReading
reading v o = record { verdict = v; list = o }

pub decode_words-requires : goal.decode_words-requires
decode_words-requires c = subst (λ (s : Shaped). s.count ≤ 7) (sym c.readable-shaped.ensures) (shaped_count Sink _)

pub returns : goal.returns
returns c =
    let l = c.args.list in
    ap (reading c.readable-shaped.result.verdict) c.decode_words.ensures
    ∙ ap (λ (s : Shaped). reading s.verdict (sink_objects_to l.words s.count)) c.readable-shaped.ensures
    ∙ sink_read_shaped l
