-- `sinks::sink_lists::decode_words` meets its contract: the invariant is that the places passed are filled.
-- Assumes nothing.
use mathlib.Core.Path.{◌≡◌, ap, ap₂, ◌∙◌}
use mathlib.Core.List.{List}
use Prim.Native.Nat.{◌<◌}
use native.Mathlib.Omega.{arith}
use lib.ListN.{set}
use Rattle.lists.specs.Seven.{seven_to}
use Rattle.lists.proofs.Sevens.{none_filled, one_filled}
use Rattle.sinks.specs.declared.SinkPlace.{SinkPlace}
use Rattle.sinks.specs.SinkLists.{empty_sink, sink_place}
use Rattle.lists.proofs.Counted.{counted_below, counted_at, counted_all}
use Rattle.sinks.proofs.sink_lists.decode_words.Invariants.{place_at}
use Rattle.sinks.proofs.sink_lists.decode_words.Goals as goal

pub loop-i-init : goal.loop-i-init
loop-i-init c = none_filled _ _

pub loop-i-preserved : goal.loop-i-preserved
loop-i-preserved c =
    let ws = c.args.list.words in
    let n = c.args.count in
    let at = c.loop-i in
    let h = c.loop-i-test.true in
    let below : at.i < 7 = omega (arith, counted_below ws n at.i h) in
    ap₂ (λ (ps : List SinkPlace) (p : SinkPlace). set ps at.i p) at.invariant (c.place_of.ensures ∙ ap sink_place (counted_at ws n at.i 0 h))
    ∙ one_filled (place_at ws) empty_sink at.i below

pub returns : goal.returns
returns c =
    let ws = c.args.list.words in
    let n = c.args.count in
    let at = c.loop-i in
    let e : at.i ≡ n = counted_all ws n at.i (omega arith) at.auto.i-end c.loop-i-test.false in
    ap (λ (ps : List SinkPlace). record { places = ps; count = n }) (at.invariant ∙ ap (seven_to (place_at ws) empty_sink) e)
