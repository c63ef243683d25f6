-- Flat lists that agree up to their count (STATEMENT, "Lists in hand": "Only the places up to the count are looked at."): what is claimed of
-- them is in demands, FlatUnread; no contract cites this.
-- Assumes nothing.
use Rattle.std.specs.Prelude.{◌≡◌, ℕ, ◌<◌, get_or}
use Rattle.flat.specs.declared.FlatObjects.{FlatObjects}
use Rattle.flat.specs.Reading.{empty_flat}

-- the same count, and the same flat objects up to it
pub record AgreeFlat (f g : FlatObjects) : Type 0 where
  pub count : f.count ≡ g.count
  pub places : (k : ℕ) → k < f.count → get_or f.places k empty_flat ≡ get_or g.places k empty_flat
