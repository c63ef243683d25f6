-- How the rows stand while one pass judges and sums them (STATEMENT, "Rows"): before the first row, with each row, and what it says at
-- the end. The loops over the rows are those of the callers.
-- Assumes nothing.
use Rattle.std.specs.Prelude.{Bool, true, false, cond, not, ◌&&◌, List, [], ◌∷◌, ◌++◌, ℕ, zero, suc, ◌+◌, ◌-◌, ◌%◌, ◌^◌, ltb, leb, eqb, length}
use Rattle.verdicts.specs.Refusals.{Refusal, refusal, verdict_of}
use Rattle.ports.specs.declared.Row.{Row}
use Rattle.ports.specs.declared.Standing.{Standing}
use Rattle.ports.specs.Rows.{row_of}
use Rattle.ports.specs.Refusing.{table_refusals, fresh_row, fault_row, sum_fault, no_such_port}

-- 30 and 32, of so many rows: none is looked at yet
unfoldable pub begun : ℕ → ℕ → Standing
begun capacity count = record { fault = verdict_of (table_refusals capacity count); count = count; held = 0 }

-- whether nothing is refused so far
abbrev pub standing : Standing → Bool
standing s = eqb s.fault.number 0

-- what is asked of a row: at set-up 31 and 4, else 37
abbrev pub row_refusals : Bool → Row → ℕ → List Refusal
row_refusals true y place = fresh_row y place
row_refusals false y place = fault_row y place

-- One row more; the first refusal stays. What is held is a 32-bit figure: of rows that are sound it is never cut.
unfoldable pub taken_row : Bool → Standing → Row → ℕ → Standing
taken_row fresh s y place =
    cond (standing s)
    (record { fault = verdict_of (row_refusals fresh y place); count = s.count; held = (s.held + y.held.0) % 2 ^ 32 }) s

-- the first k rows looked at, in their order
unfoldable pub after_rows : Bool → ℕ → List Row → ℕ → Standing
after_rows fresh capacity ys zero = begun capacity (length ys)
after_rows fresh capacity ys (suc k) = taken_row fresh (after_rows fresh capacity ys k) (row_of ys k) (suc k)

-- and all of them
abbrev pub standing_of : Bool → ℕ → List Row → Standing
standing_of fresh capacity ys = after_rows fresh capacity ys (length ys)

-- whether there is a row to look at after so many: none after a refusal
unfoldable pub goes_on : Standing → ℕ → Bool
goes_on s judged = standing s && ltb judged s.count

-- all rows, and none after a refusal
unfoldable pub all_or_none : Standing → ℕ
all_or_none s = cond (standing s) s.count 0

-- where the row of a port stands; past the end after a refusal, and where there is no such port
unfoldable pub place_of : Standing → ℕ → ℕ
place_of s port = cond (standing s && leb 1 port) (port - 1) s.count

-- ---- what it says at the end

-- the first refusal so far
abbrev pub so_far : Standing → List Refusal
so_far s = refusal (not (standing s)) s.fault.number s.fault.place ∷ []

-- .. then 37 for the sum
abbrev pub end_refusals : ℕ → Standing → List Refusal
end_refusals capacity s = so_far s ++ sum_fault capacity s.held

-- .. then 33
abbrev pub port_end_refusals : ℕ → Standing → ℕ → List Refusal
port_end_refusals capacity s port = end_refusals capacity s ++ no_such_port s.count port
