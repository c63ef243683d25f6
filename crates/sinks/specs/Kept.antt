-- A list of sink objects as it is returned (STATEMENT, "Lists in hand"), and such lists that agree up to their count: what is claimed of
-- them is in demands; no contract cites this.
-- Assumes nothing.
use Rattle.std.specs.Prelude.{◌≡◌, ℕ, ◌<◌, get_or}
use Rattle.lists.specs.Seven.{seven_to}
use Rattle.sinks.specs.declared.SinkObjects.{SinkObjects}
use Rattle.sinks.specs.SinkLists.{empty_sink}

-- the same up to the count, and "the places past its count are zero"
abbrev pub kept_sinks : SinkObjects → SinkObjects
kept_sinks o = record { places = seven_to (λ (k : ℕ). get_or o.places k empty_sink) empty_sink o.count; count = o.count }

-- the same count, and the same sink objects up to it
pub record AgreeSinks (o q : SinkObjects) : Type 0 where
  pub count : o.count ≡ q.count
  pub places : (k : ℕ) → k < o.count → get_or o.places k empty_sink ≡ get_or q.places k empty_sink
