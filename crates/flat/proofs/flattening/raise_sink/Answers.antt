-- `flat::flattening::raise_sink` meets its contract: AVS is no kind of a sink, and the others are raised without what no sink has.
-- Assumes nothing.
use mathlib.Core.Path.{◌≡◌, ap, sym, ◌∙◌}
use Rattle.flat.specs.Flat.{raised_says, sink_raised}
use Rattle.flat.proofs.Saying.{raised_is}
use Rattle.flat.proofs.BothWays.{sink_avs, sink_others}
use Rattle.flat.proofs.flattening.raise_sink.Goals as goal

pub returns-then-flat-eq-KIND_AVS : goal.returns-then-flat-eq-KIND_AVS
returns-then-flat-eq-KIND_AVS c = ap raised_says (sym (sink_avs _ c.if-flat-eq-KIND_AVS.true))

pub returns : goal.returns
returns c =
    let e : c.raise.result ≡ sink_raised c.args.flat = raised_is _ _ c.raise.ensures ∙ sink_others _ c.if-flat-eq-KIND_AVS.false in
    ap raised_says e
