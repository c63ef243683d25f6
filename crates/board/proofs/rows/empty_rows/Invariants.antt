-- The first i rows are emptied.
use mathlib.Core.Path.{◌≡◌}
use Rattle.board.specs.Rows.{emptied_to}
use Rattle.board.proofs.rows.empty_rows.Given as goal

abbrev pub invariant-loop-i : goal.invariant-loop-i
invariant-loop-i l = l.rows ≡ emptied_to l.i l.fn.rows
