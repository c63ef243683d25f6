-- Lists that agree up to their count (STATEMENT, "Lists in hand": "Only the places up to the count are looked at."): what is claimed of
-- them is in demands, Unread; no contract cites these.
-- Assumes nothing.
use Rattle.std.specs.Prelude.{◌≡◌, ℕ, ◌<◌, get_or}
use Rattle.lists.specs.declared.Words.{Words}
use Rattle.lists.specs.declared.Objects.{Objects}
use Rattle.lists.specs.Reading.{empty_place}

-- the same count, and the same words up to it
pub record AgreeWords (l m : Words) : Type 0 where
  pub count : l.count ≡ m.count
  pub words : (k : ℕ) → k < l.count → get_or l.words k 0 ≡ get_or m.words k 0

-- the same count, and the same objects up to it
pub record AgreeObjects (o q : Objects) : Type 0 where
  pub count : o.count ≡ q.count
  pub places : (k : ℕ) → k < o.count → get_or o.places k empty_place ≡ get_or q.places k empty_place
