-- What each public call of this crate promises of its answer (STATEMENT, "Lists in hand", "Shape of a list" and "Shape of a
-- sink list"). The contracts cite these names, and so do the theorems over them.
-- Assumes nothing.
use Rattle.std.specs.Prelude.{◌≡◌, Bool, ℕ}
use Rattle.verdicts.specs.declared.Verdict.{Verdict}
use Rattle.objects.specs.declared.Side.{Side}
use Rattle.lists.specs.declared.Words.{Words}
use Rattle.lists.specs.declared.Shaped.{Shaped}
use Rattle.lists.specs.declared.Objects.{Objects}
use Rattle.lists.specs.declared.Reading.{Reading}
use Rattle.lists.specs.declared.Listing.{Listing}
use Rattle.lists.specs.Shape.{bad_count, shape_for, shape_of, shaped_of}
use Rattle.lists.specs.Reading.{read_of}
use Rattle.lists.specs.Writing.{write_refused, finished_of, write_of}

abbrev pub ShapesFor : Side → Words → Verdict → Type 0
ShapesFor side l r = r ≡ shape_for side l

abbrev pub ShapesTo : Side → Words → Shaped → Type 0
ShapesTo side l r = r ≡ shaped_of side l

abbrev pub Shapes : Words → Verdict → Type 0
Shapes l r = r ≡ shape_of l

abbrev pub Reads : Words → Reading → Type 0
Reads l r = r ≡ read_of l

abbrev pub Refuses : ℕ → ℕ → Listing → Type 0
Refuses number place r = r ≡ write_refused number place

-- 10: "count outside 1 to 7"
abbrev pub MiscountsPlaces : ℕ → Bool → Type 0
MiscountsPlaces n r = r ≡ bad_count n

abbrev pub Finishes : Side → Listing → Listing → Type 0
Finishes side m r = r ≡ finished_of side m

abbrev pub Writes : Objects → Listing → Type 0
Writes o r = r ≡ write_of o
