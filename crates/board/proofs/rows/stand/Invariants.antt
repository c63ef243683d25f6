-- After so many rows the standing is what the definition says of them.
use mathlib.Core.Path.{◌≡◌}
use Rattle.ports.specs.Standing.{after_rows}
use Rattle.board.proofs.rows.stand.Given as goal

abbrev pub invariant-loop-i : goal.invariant-loop-i
invariant-loop-i l = l.standing ≡ after_rows l.fresh l.fn.capacity.0 l.rows l.i
