-- A list as it is returned (STATEMENT, "Lists in hand"): the same up to the count, and "the places past its count are zero".
-- Assumes nothing.
use Rattle.std.specs.Prelude.{ℕ, ◌^◌, ◌<◌, get_or}
use Rattle.lists.specs.declared.Words.{Words}
use Rattle.lists.specs.declared.Objects.{Objects}
use Rattle.lists.specs.Seven.{seven_to}
use Rattle.lists.specs.Reading.{empty_place}

abbrev pub kept_words : Words → Words
kept_words l = record { words = seven_to (λ (k : ℕ). get_or l.words k 0) 0 l.count; count = l.count }

abbrev pub kept_objects : Objects → Objects
kept_objects o = record { places = seven_to (λ (k : ℕ). get_or o.places k empty_place) empty_place o.count; count = o.count }

-- each word has 32 bits, as its type in the source says; no contract cites this
pub record Words32 (l : Words) : Type 0 where
  pub fits : (k : ℕ) → get_or l.words k 0 < 2 ^ 32
