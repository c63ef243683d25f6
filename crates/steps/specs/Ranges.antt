-- From the lowest to the highest, both allowed, as STATEMENT has it: "M, or the rating of a sink, outside 1 to 200", "of a PPS object
-- from its minimum to its maximum".
-- Assumes nothing.
use Rattle.std.specs.Prelude.{Bool, ◌&&◌, ℕ, leb}

abbrev pub within : ℕ → ℕ → ℕ → Bool
within low high n = leb low n && leb n high
