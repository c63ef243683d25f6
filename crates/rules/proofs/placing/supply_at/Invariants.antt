-- `rules::placing::supply_at` meets its contract: the invariant is the place after the rows passed, and that the one asked for is not among them.
-- Assumes nothing.
use mathlib.Core.Path.{◌≡◌}
use Prim.Native.Nat.{◌≤◌}
use Rattle.rules.proofs.TableWalk.{supplies_to}
use Rattle.rules.proofs.placing.supply_at.Given as goal

abbrev pub invariant-loop-row : goal.invariant-loop-row
invariant-loop-row l = (l.at ≡ supplies_to l.port.profile.max.0 l.row-index) × (l.at ≤ l.asked)
