-- `rules::port::Candidate::follow_supplies` meets its contract: the invariant is that the rows passed are followed.
-- Assumes nothing.
use Rattle.std.specs.Prelude.{Some}
use mathlib.Core.Path.{◌≡◌}
use Rattle.rules.specs.Following.{followed}
use Rattle.rules.proofs.TableWalk.{supplies_to}
use Rattle.rules.proofs.port.Candidate.follow_supplies.Given as goal

abbrev pub invariant-loop-row : goal.invariant-loop-row
invariant-loop-row l = followed l.self.port.profile l.self.list.now (supplies_to l.self.port.profile.max.0 l.row-index) ≡ Some l.walk
