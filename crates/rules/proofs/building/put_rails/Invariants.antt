-- `rules::building::put_rails` meets its contract: the invariant is that the rows passed are put down.
-- Assumes nothing.
use Rattle.rules.specs.Building.{PutDown}
use Rattle.rules.proofs.TableWalk.{rails_to}
use Rattle.rules.proofs.building.put_rails.Given as goal

abbrev pub invariant-loop-row : goal.invariant-loop-row
invariant-loop-row l = PutDown l.port.profile (rails_to l.port.profile.max.0 l.row-index) l.list.words l.list.count
