-- What each call of this crate promises of its answer (STATEMENT, "Calls"). The contracts cite these names, and so do the theorems over
-- them.
-- Assumes nothing.
use Rattle.std.specs.Prelude.{◌≡◌, Bool, ℕ}
use Rattle.steps.specs.declared.HalfWatts.{HalfWatts}
use Rattle.steps.specs.declared.Ma10.{Ma10}
use Rattle.lists.specs.declared.Listing.{Listing}
use Rattle.ports.specs.declared.Row.{Row}
use Rattle.ports.specs.declared.Standing.{Standing}
use Rattle.ports.specs.declared.Change.{Change}
use Rattle.ports.specs.declared.RemainingPower.{RemainingPower}
use Rattle.ports.specs.Rows.{emptied as emptied_row}
use Rattle.ports.specs.Standing.{begun, taken_row, goes_on, all_or_none, place_of}
use Rattle.ports.specs.Deciding.{attach_change, advertise_change, offer_of, request_change, detach_change, power_left}

-- ---- the pass over the rows

abbrev pub Begins : ℕ → HalfWatts → Standing → Type 0
Begins count capacity r = r ≡ begun capacity.0 count

abbrev pub GoesOn : Standing → ℕ → Bool → Type 0
GoesOn s judged r = r ≡ goes_on s judged

abbrev pub TakesRow : Standing → Row → ℕ → Bool → Standing → Type 0
TakesRow s y place fresh r = r ≡ taken_row fresh s y place

abbrev pub TellsAllOrNone : Standing → ℕ → Type 0
TellsAllOrNone s r = r ≡ all_or_none s

abbrev pub TellsPlace : Standing → ℕ → ℕ → Type 0
TellsPlace s port r = r ≡ place_of s port

-- ---- the calls

abbrev pub Attaches : Standing → Row → HalfWatts → ℕ → Ma10 → Change → Type 0
Attaches s y capacity port cable r = r ≡ attach_change capacity.0 s y port cable.0

abbrev pub Advertises : Standing → Row → HalfWatts → ℕ → Change → Type 0
Advertises s y capacity port r = r ≡ advertise_change capacity.0 s y port

abbrev pub Offers : Change → Listing → Type 0
Offers c r = r ≡ offer_of c

abbrev pub Requests : Standing → Row → HalfWatts → ℕ → ℕ → Change → Type 0
Requests s y capacity port word r = r ≡ request_change capacity.0 s y port word

abbrev pub Detaches : Standing → Row → HalfWatts → ℕ → Change → Type 0
Detaches s y capacity port r = r ≡ detach_change capacity.0 s y port

abbrev pub Remains : Standing → HalfWatts → RemainingPower → Type 0
Remains s capacity r = r ≡ power_left capacity.0 s

abbrev pub Empties : Row → Row → Type 0
Empties y r = r ≡ emptied_row y
