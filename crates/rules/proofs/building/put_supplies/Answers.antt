-- `rules::building::put_supplies` meets its contract: the invariant is that the rows passed are put down.
-- Assumes nothing.
use mathlib.Core.Path.{◌≡◌, refl, sym, ap, ◌∙◌}
use native.Mathlib.Omega.{arith}
use Rattle.rules.proofs.TableWalk.{supplies_to, all_supplies, supply_stands}
use Rattle.rules.proofs.PutDown.{said_as, supply_put, room}
use Rattle.rules.proofs.Places.{with_pps}
use Rattle.rules.proofs.building.put_supplies.Goals as goal

pub put_row-requires : goal.put_row-requires
put_row-requires c =
    let p = c.args.port.profile in
    let high = c.args.port.within.max in
    (tt, λ t. room p high _ _ _ c.loop-row.invariant.place (supply_stands p.max.0 high c.loop-row.row-index c.loop-row-test.true t))

pub loop-row-preserved : goal.loop-row-preserved
loop-row-preserved c =
    supply_put c.args.port.profile c.args.port.within.max c.loop-row.row-index c.loop-row-test.true c.loop-row.invariant c.put_row.ensures

pub returns-after-loop-row : goal.returns-after-loop-row
returns-after-loop-row c =
    let p = c.args.port.profile in
    let e : 3 ≡ c.loop-row.row-index = omega arith in
    said_as c.loop-row.invariant
    (with_pps p c.if-port-eq1.true ∙ sym (all_supplies p.max.0 c.args.port.within.max) ∙ ap (supplies_to p.max.0) e) refl refl
