-- What the listing program prints for an input (STATEMENT, "The listing program"). `caps` is proved to write `printed_of` of its
-- input, over any source and any writer whose bytes are known; std does not say which bytes the process's own streams have.
-- Assumes nothing.
use Rattle.std.specs.Prelude.{List, [], ◌++◌, ℕ, zero, suc, ◌*◌, ◌/◌, ◌%◌, length}
use Rattle.lists.specs.Writing.{write_refused}
use Rattle.rules.specs.Building.{built_of}
use Rattle.printed.specs.Records.{profile_at, listing_line}

-- "It builds the list of each record and prints a line for it": that of the record whose first byte is at a place
abbrev pub record_line : List ℕ → ℕ → List ℕ
record_line s at = listing_line (built_of (profile_at s at))

-- the lines of the first n records
abbrev pub record_lines : List ℕ → ℕ → List ℕ
record_lines s zero = []
record_lines s (suc n) = record_lines s n ++ record_line s (8 * n)

-- the line of refusal 9, "an input record too short", whose list is empty
abbrev pub short_line : List ℕ
short_line = listing_line (write_refused 9 0)

-- behind the last whole record, by how many bytes are left: nothing, or the line "Where one to seven bytes are left at the end"
abbrev pub end_line : ℕ → List ℕ
end_line zero = []
end_line (suc n) = short_line

-- from the bytes of the input to the bytes of the output
unfoldable pub printed_of : List ℕ → List ℕ
printed_of s = record_lines s (length s / 8) ++ end_line (length s % 8)
