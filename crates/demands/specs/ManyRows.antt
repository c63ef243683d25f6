-- More than eight rows are refused with 30 at place 0 by every sharing call, whatever the rows and the other arguments are. No row is
-- written, and there is no list and no power. Each claim is proved by the theorem of its name in small letters (`set_up_30` is `SetUp30`) in
-- proofs/ManyRows.antt.
-- Assumes nothing.
use Rattle.std.specs.Prelude.{◌≡◌, List, ℕ, ◌<◌, length}
use Rattle.verdicts.specs.declared.Verdict.{Verdict}
use Rattle.verdicts.specs.Refusals.{verdict}
use Rattle.lists.specs.declared.Listing.{Listing}
use Rattle.lists.specs.Writing.{write_refused}
use Rattle.ports.specs.declared.Row.{Row}
use Rattle.ports.specs.declared.RemainingPower.{RemainingPower}
use Rattle.ports.specs.Lending.{no_power_left}
use Rattle.board.specs.Promises.{SharesSetUp, SharesAttach, SharesAdvertise, SharesRequest, SharesDetach, SharesRemaining}

abbrev pub SetUp30 : Type 0
SetUp30 =
    (ys : List Row) (capacity : ℕ) → 8 < length ys → (r : Verdict) (zs : List Row) → SharesSetUp ys capacity r zs
    → (r ≡ verdict 30 0) × (zs ≡ ys)

abbrev pub Attach30 : Type 0
Attach30 =
    (ys : List Row) (capacity : ℕ) → 8 < length ys → (port cable : ℕ) (r : Listing) (zs : List Row)
    → SharesAttach ys capacity port cable r zs → (r ≡ write_refused 30 0) × (zs ≡ ys)

abbrev pub Advertise30 : Type 0
Advertise30 =
    (ys : List Row) (capacity : ℕ) → 8 < length ys → (port : ℕ) (r : Listing) (zs : List Row)
    → SharesAdvertise ys capacity port r zs → (r ≡ write_refused 30 0) × (zs ≡ ys)

abbrev pub Request30 : Type 0
Request30 =
    (ys : List Row) (capacity : ℕ) → 8 < length ys → (port word : ℕ) (r : Verdict) (zs : List Row)
    → SharesRequest ys capacity port word r zs → (r ≡ verdict 30 0) × (zs ≡ ys)

abbrev pub Detach30 : Type 0
Detach30 =
    (ys : List Row) (capacity : ℕ) → 8 < length ys → (port : ℕ) (r : Verdict) (zs : List Row)
    → SharesDetach ys capacity port r zs → (r ≡ verdict 30 0) × (zs ≡ ys)

abbrev pub Remaining30 : Type 0
Remaining30 = (ys : List Row) (capacity : ℕ) → 8 < length ys → (r : RemainingPower) → SharesRemaining ys capacity r → r ≡ no_power_left 30 0
