-- What the word by word part of the shape check hands on to the AVS part (STATEMENT, "Shape of a list").
-- Assumes nothing.
use Rattle.std.specs.Prelude.{◌≡◌, List, ℕ, ◌+◌, ◌≤◌, ◌<◌, get_or, length, Option, Some, None, Result, Ok, Err}
use Rattle.verdicts.specs.declared.Verdict.{Verdict}
use Rattle.verdicts.specs.Refusals.{each_place, passed_by}
use Rattle.objects.specs.declared.Side.{Side}
use Rattle.objects.specs.Decode.{decode_for}
use Rattle.lists.specs.declared.Words.{Words}
use Rattle.lists.specs.ObjectRules.{rank_of}
use Rattle.lists.specs.Shape.{word_rows}
use Rattle.lists.specs.Reading.{object_of}

-- a list of these words, all of which count
abbrev pub all_counting : List ℕ → Words
all_counting ws = record { words = ws; count = length ws }

-- the place of an index; 0 for none
abbrev pub place_at : Option ℕ → ℕ
place_at (Some i) = i + 1
place_at None = 0

-- among the first n words, of seven, none is AVS, but for the one at this place
pub record OnlyAvs (side : Side) (ws : List ℕ) (n place : ℕ) : Type 0 where
  pub short : n ≤ 7
  pub within : place ≤ n
  pub others : (k : ℕ) → k < n → (k + 1 ≡ place → ⊥) → rank_of (object_of (decode_for side (get_or ws k 0))) ≡ 3 → ⊥

-- the first refusal of a word; where no word is refused, the index of the only AVS word
abbrev pub Scans : Side → List ℕ → Result (Option ℕ) Verdict → Type 0
Scans side ws (Ok avs) = (passed_by (each_place (word_rows side ws) (length ws)) ≡ Ok tt) × OnlyAvs side ws (length ws) (place_at avs)
Scans side ws (Err v) = passed_by (each_place (word_rows side ws) (length ws)) ≡ Err v
