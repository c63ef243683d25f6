-- When rows are sound (STATEMENT, "Rows").
-- Assumes nothing.
use Rattle.std.specs.Prelude.{Bool, cond, ◌&&◌, leb, eqb}
use Rattle.steps.specs.Ranges.{within}
use Rattle.ports.specs.declared.Row.{Row}

-- the column "empty port": cable 0, P 0, held 15
abbrev pub sound_empty : Row → Bool
sound_empty y = eqb y.present.0 0 && eqb y.held.0 15

-- the column "attached port": cable "100 to 500", P "from held to M", held "15 to P"
abbrev pub sound_attached : Row → Bool
sound_attached y =
    within 100 500 y.cable.0
    && (leb 15 y.held.0 && (leb y.held.0 y.present.0 && leb y.present.0 y.max.0))

-- M "15 to 200", PPS wanted "0 or 1", and each port as above; the sum is asked of all rows together
unfoldable pub sound_row : Row → Bool
sound_row y =
    within 15 200 y.max.0 && (leb y.pps 1 && cond (eqb y.cable.0 0) (sound_empty y) (sound_attached y))
