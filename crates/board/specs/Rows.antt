-- What the functions over the lent rows do to them (STATEMENT, "Rows").
-- Assumes nothing.
use Rattle.std.specs.Prelude.{List, ℕ, zero, suc, get_or, set}
use Rattle.ports.specs.declared.Row.{Row}
use Rattle.ports.specs.Rows.{no_row, emptied}

-- the rows of which the first n are emptied
abbrev pub emptied_to : ℕ → List Row → List Row
emptied_to zero ys = ys
emptied_to (suc n) ys = set (emptied_to n ys) n (emptied (get_or (emptied_to n ys) n no_row))
