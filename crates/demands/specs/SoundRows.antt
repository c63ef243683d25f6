-- Rows that are sound stay sound after any sharing call, accepted or refused, with any arguments. After an accepted set-up they are sound
-- whatever else the lent rows held. Each claim is proved by the theorem of its name in small letters (`attach_keeps` is `AttachKeeps`) in
-- proofs/SoundRows.antt (docs/STATEMENT.md, "Ports that share").
-- Assumes nothing.
use Rattle.std.specs.Prelude.{◌≡◌, true, List, map, ℕ, ◌≤◌, ◌<◌, length}
use Rattle.verdicts.specs.Refusals.{NoneApply}
use Rattle.verdicts.specs.declared.Verdict.{Verdict}
use Rattle.lists.specs.declared.Listing.{Listing}
use Rattle.ports.specs.declared.Row.{Row}
use Rattle.ports.specs.Rows.{row_of, all_held, emptied}
use Rattle.ports.specs.Soundness.{sound_row}
use Rattle.ports.specs.Refusing.{set_up_refusals}
use Rattle.board.specs.Promises.{SharesSetUp, SharesAttach, SharesAdvertise, SharesRequest, SharesDetach}

-- each row is sound, and together they do not hold more than the capacity; the rows of n ports stand at 0 .. n - 1
pub record SoundRows (capacity : ℕ) (ys : List Row) : Type 0 where
  pub each : (k : ℕ) → k < length ys → sound_row (row_of ys k) ≡ true
  pub sum : all_held ys ≤ capacity

-- what set-up writes, where it refuses nothing
abbrev pub SetUpSounds : Type 0
SetUpSounds = (capacity : ℕ) (ys : List Row) → NoneApply (set_up_refusals capacity ys) → SoundRows capacity (map emptied ys)

abbrev pub SetUpKeeps : Type 0
SetUpKeeps =
    (capacity : ℕ) (ys : List Row) → SoundRows capacity ys → (r : Verdict) (zs : List Row) → SharesSetUp ys capacity r zs
    → SoundRows capacity zs

abbrev pub AttachKeeps : Type 0
AttachKeeps =
    (capacity : ℕ) (ys : List Row) → SoundRows capacity ys → (port cable : ℕ) (r : Listing) (zs : List Row)
    → SharesAttach ys capacity port cable r zs → SoundRows capacity zs

abbrev pub AdvertiseKeeps : Type 0
AdvertiseKeeps =
    (capacity : ℕ) (ys : List Row) → SoundRows capacity ys → (port : ℕ) (r : Listing) (zs : List Row)
    → SharesAdvertise ys capacity port r zs → SoundRows capacity zs

abbrev pub RequestKeeps : Type 0
RequestKeeps =
    (capacity : ℕ) (ys : List Row) → SoundRows capacity ys → (port word : ℕ) (r : Verdict) (zs : List Row)
    → SharesRequest ys capacity port word r zs → SoundRows capacity zs

abbrev pub DetachKeeps : Type 0
DetachKeeps =
    (capacity : ℕ) (ys : List Row) → SoundRows capacity ys → (port : ℕ) (r : Verdict) (zs : List Row)
    → SharesDetach ys capacity port r zs → SoundRows capacity zs
