-- The rows of the ports and what they hold (STATEMENT, "Rows"). Rows are a list, one row for each port, as they are lent.
-- Assumes nothing.
use Rattle.std.specs.Prelude.{cond, List, ℕ, zero, suc, ◌+◌, ◌-◌, min, eqb, length, get_or}
use Rattle.rules.specs.Profiles.{half_watts, in_10_mA}
use Rattle.ports.specs.declared.Row.{Row}

-- no row at all
abbrev pub no_row : Row
no_row = record { max = half_watts 0; pps = 0; cable = in_10_mA 0; present = half_watts 0; held = half_watts 0 }

-- the row of place k + 1
abbrev pub row_of : List Row → ℕ → Row
row_of ys k = get_or ys k no_row

-- the row of a port; ports count from 1
abbrev pub port_row : List Row → ℕ → Row
port_row ys port = row_of ys (port - 1)

-- the column "empty port": cable 0, P 0, held 15
unfoldable pub emptied : Row → Row
emptied y = record { max = y.max; pps = y.pps; cable = in_10_mA 0; present = half_watts 0; held = half_watts 15 }

-- the figures of the places 1..n together; `figure k` is that of place k + 1
unfoldable pub together : (ℕ → ℕ) → ℕ → ℕ
together figure zero = 0
together figure (suc k) = together figure k + figure k

-- all figures but that of place `own` + 1
unfoldable pub besides : ℕ → (ℕ → ℕ) → ℕ → ℕ
besides own figure k = cond (eqb k own) 0 (figure k)

abbrev pub held_at : List Row → ℕ → ℕ
held_at ys k = (row_of ys k).held.0

-- "all they hold together"
abbrev pub all_held : List Row → ℕ
all_held ys = together (held_at ys) (length ys)

-- "what all other rows hold"
abbrev pub others_held : List Row → ℕ → ℕ
others_held ys port = together (besides (port - 1) (held_at ys)) (length ys)

-- "What the others leave for a port is the capacity less what all other rows hold."
abbrev pub left_for : ℕ → List Row → ℕ → ℕ
left_for capacity ys port = capacity - others_held ys port

-- the smaller of M and what is left for the row
abbrev pub present_of : Row → ℕ → ℕ
present_of y left = min y.max.0 left

-- "the smaller of M and what the others leave"
unfoldable pub present_for : ℕ → List Row → ℕ → ℕ
present_for capacity ys port = present_of (port_row ys port) (left_for capacity ys port)

-- a row with this P and this cable; what it holds stays
unfoldable pub offering : Row → ℕ → ℕ → Row
offering y present cable = record { max = y.max; pps = y.pps; cable = in_10_mA cable; present = half_watts present; held = y.held }

-- a port with its cable, offered that P
abbrev pub offered : ℕ → List Row → ℕ → ℕ → Row
offered capacity ys port cable = offering (port_row ys port) (present_for capacity ys port) cable

-- a port that holds so much
unfoldable pub holding : Row → ℕ → Row
holding y power = record { max = y.max; pps = y.pps; cable = y.cable; present = y.present; held = half_watts power }
