-- The shape of the calls that change a row: what was decided by value is answered, and the row that comes of it is written. What is said of
-- the decision holds of the call.
-- Assumes nothing.
use mathlib.Core.Path.{◌≡◌}
use mathlib.Core.List.{List}
use lib.ListN.{set}
use Rattle.ports.specs.declared.Row.{Row}
use Rattle.ports.specs.declared.Change.{Change}

pub shared : {A : Type 0} (ys : List Row) (answer : Change → A) (d : Change) {a : A} {after : List Row}
    → (answer d ≡ a) × (set ys d.at d.row ≡ after) → (c : Change) → c ≡ d
    → (zs : List Row) → zs ≡ set ys c.at c.row → (r : A) → r ≡ answer c → (r ≡ a) × (zs ≡ after)
shared ys answer d said c e zs k r h = rw (h, k, e) said
