-- A word as a row of fields, the lowest first: what it takes to put a word together (STATEMENT, "Object words").
-- Assumes nothing.
use Rattle.std.specs.Prelude.{Bool, true, ◌&&◌, List, [], ◌∷◌, ℕ, ◌+◌, ◌-◌, ◌*◌, ◌^◌, ltb}

-- a number, and the bits hi..lo that it goes to
pub data Field : Type 0 where
  field : ℕ → ℕ → ℕ → Field

-- no number is too wide for its bits
abbrev pub all_fit : List Field → Bool
all_fit [] = true
all_fit (field v hi lo ∷ fs) = ltb v (2 ^ (hi + 1 - lo)) && all_fit fs

-- the word that has each number at its bits
abbrev pub joined : List Field → ℕ
joined [] = 0
joined (field v hi lo ∷ fs) = v * 2 ^ lo + joined fs
