-- `rules::building::put_rails` meets its contract: the invariant is that the rows passed are put down.
-- Assumes nothing.
use Rattle.rules.proofs.PutDown.{none_put, rail_put}
use Rattle.rules.proofs.building.put_rails.Goals as goal

pub loop-row-init : goal.loop-row-init
loop-row-init c = none_put c.args.port.profile c.requires

pub loop-row-preserved : goal.loop-row-preserved
loop-row-preserved c =
    rail_put c.args.port.profile c.args.port.within.max c.loop-row.row-index c.loop-row-test.true c.loop-row.invariant c.put_row.ensures
