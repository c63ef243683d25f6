-- Demand 1, refusals, for the decisions of `ports`, by value: number n with its place is given exactly when refusal n applies there and none
-- before it in the order does. A refusal names no row to write, and gives no list and no power. `attach_decides` proves `AttachDecidesFirst` and
-- so on, `offer_refusals_lem` proves `OfferRefusals` and so on, in proofs/DecidingRefusals.antt.
-- The tables are in crates/ports/specs/Standing.antt and Deciding.antt; that of a call begins with what was refused before.
-- Assumes nothing.
use Rattle.std.specs.Prelude.{◌≡◌, Bool, List, ◌∷◌, ℕ}
use Rattle.verdicts.specs.Refusals.{Refusal, refusal, success}
use Rattle.steps.specs.declared.HalfWatts.{HalfWatts}
use Rattle.steps.specs.declared.Ma10.{Ma10}
use Rattle.lists.specs.declared.Listing.{Listing}
use Rattle.lists.specs.Writing.{no_words}
use Rattle.rules.specs.Profiles.{half_watts, build_refusals}
use Rattle.ports.specs.declared.Row.{Row}
use Rattle.ports.specs.declared.Standing.{Standing}
use Rattle.ports.specs.declared.Change.{Change}
use Rattle.ports.specs.declared.RemainingPower.{RemainingPower}
use Rattle.ports.specs.Rows.{no_row}
use Rattle.ports.specs.RuleLists.{rule_profile}
use Rattle.ports.specs.Refusing.{table_refusals}
use Rattle.ports.specs.Standing.{row_refusals, end_refusals}
use Rattle.ports.specs.Deciding.{attach_end_refusals, use_end_refusals, request_end_refusals, refused}
use Rattle.demands.specs.CallContracts.{BeginAnswers, TakeRowAnswers, AttachDecides, AdvertiseDecides, OfferAnswers, RequestDecides, DetachDecides, RemainingDecides}
use Rattle.demands.specs.Refusals.{Answers}

-- ---- the pass over the rows

-- 30 and 32, of so many rows; what they hold is not counted yet
abbrev pub BeginRefusals : Type 0
BeginRefusals =
    (count : ℕ) (capacity : HalfWatts) (r : Standing) → BeginAnswers count capacity r
    → Answers r.fault (table_refusals capacity.0 count) × ((r.count ≡ count) × (r.held ≡ 0))

-- 31 and 4 at set-up, else 37, where nothing was refused before; after a refusal nothing changes
abbrev pub TakeRowRefusals : Type 0
TakeRowRefusals =
    (s : Standing) (y : Row) (place : ℕ) (fresh : Bool) (r : Standing) → TakeRowAnswers s y place fresh r
    → (s.fault.number ≡ 0 → Answers r.fault (row_refusals fresh y place)) × ((s.fault.number ≡ 0 → ⊥) → r ≡ s)

-- ---- the calls that change a row

-- a change answers a table, and a refusal names no row to write: where the row is to be put counts from 0, so the number of rows, which is
-- past the last of them, is nowhere
abbrev pub Decides : Standing → Change → List Refusal → Type 0
Decides s r rs = Answers r.answer rs × ((r.answer ≡ success → ⊥) → (r.at ≡ s.count) × (r.row ≡ no_row))

abbrev pub AttachDecidesFirst : Type 0
AttachDecidesFirst =
    (s : Standing) (y : Row) (capacity : HalfWatts) (port : ℕ) (cable : Ma10) (r : Change) → AttachDecides s y capacity port cable r
    → Decides s r (attach_end_refusals capacity.0 s y port cable.0)

abbrev pub AdvertiseDecidesFirst : Type 0
AdvertiseDecidesFirst =
    (s : Standing) (y : Row) (capacity : HalfWatts) (port : ℕ) (r : Change) → AdvertiseDecides s y capacity port r
    → Decides s r (use_end_refusals capacity.0 s y port)

abbrev pub RequestDecidesFirst : Type 0
RequestDecidesFirst =
    (s : Standing) (y : Row) (capacity : HalfWatts) (port word : ℕ) (r : Change) → RequestDecides s y capacity port word r
    → Decides s r (request_end_refusals capacity.0 s y port word)

abbrev pub DetachDecidesFirst : Type 0
DetachDecidesFirst =
    (s : Standing) (y : Row) (capacity : HalfWatts) (port : ℕ) (r : Change) → DetachDecides s y capacity port r
    → Decides s r (use_end_refusals capacity.0 s y port)

-- ---- the list of a change

-- what the change refused, then what building the rule list of its row refuses
abbrev pub offer_refusals : Change → List Refusal
offer_refusals c = refusal (refused c) c.answer.number c.answer.place ∷ build_refusals (rule_profile c.row)

abbrev pub OfferRefusals : Type 0
OfferRefusals =
    (c : Change) (r : Listing) → OfferAnswers c r
    → Answers r.verdict (offer_refusals c) × ((r.verdict ≡ success → ⊥) → r.list ≡ no_words)

-- ---- remaining power

abbrev pub RemainingDecidesFirst : Type 0
RemainingDecidesFirst =
    (s : Standing) (capacity : HalfWatts) (r : RemainingPower) → RemainingDecides s capacity r
    → Answers r.verdict (end_refusals capacity.0 s) × ((r.verdict ≡ success → ⊥) → r.power ≡ half_watts 0)
