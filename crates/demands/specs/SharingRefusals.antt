-- Demand 1, refusals, for the sharing calls, over rows that can be anything: number n with its place is given exactly when refusal n applies
-- there and none before it in the order does. On a refusal the list is empty, the power zero, and no row changes. Each claim is proved by the
-- theorem of its name in small letters in proofs/SharingRefusals.antt.
-- ys are the rows at entry, zs those at exit; the tables, in the order of docs/STATEMENT.md, "Refusal numbers", are in
-- crates/ports/specs/Refusing.antt.
-- Assumes nothing.
use Rattle.std.specs.Prelude.{◌≡◌, List, ℕ}
use Rattle.verdicts.specs.declared.Verdict.{Verdict}
use Rattle.verdicts.specs.Refusals.{success}
use Rattle.lists.specs.declared.Listing.{Listing}
use Rattle.lists.specs.Writing.{no_words}
use Rattle.rules.specs.Profiles.{half_watts}
use Rattle.ports.specs.declared.Row.{Row}
use Rattle.ports.specs.declared.RemainingPower.{RemainingPower}
use Rattle.ports.specs.Refusing.{set_up_refusals, attach_refusals, use_refusals, request_refusals, remaining_refusals}
use Rattle.board.specs.Promises.{SharesSetUp, SharesAttach, SharesAdvertise, SharesRequest, SharesDetach, SharesRemaining}
use Rattle.demands.specs.Refusals.{Answers}

abbrev pub SetUpRefusals : Type 0
SetUpRefusals =
    (ys : List Row) (capacity : ℕ) (r : Verdict) (zs : List Row) → SharesSetUp ys capacity r zs
    → Answers r (set_up_refusals capacity ys) × ((r ≡ success → ⊥) → zs ≡ ys)

abbrev pub AttachRefusals : Type 0
AttachRefusals =
    (ys : List Row) (capacity port cable : ℕ) (r : Listing) (zs : List Row) → SharesAttach ys capacity port cable r zs
    → Answers r.verdict (attach_refusals capacity ys port cable) × ((r.verdict ≡ success → ⊥) → (r.list ≡ no_words) × (zs ≡ ys))

abbrev pub AdvertiseRefusals : Type 0
AdvertiseRefusals =
    (ys : List Row) (capacity port : ℕ) (r : Listing) (zs : List Row) → SharesAdvertise ys capacity port r zs
    → Answers r.verdict (use_refusals capacity ys port) × ((r.verdict ≡ success → ⊥) → (r.list ≡ no_words) × (zs ≡ ys))

abbrev pub RequestRefusals : Type 0
RequestRefusals =
    (ys : List Row) (capacity port word : ℕ) (r : Verdict) (zs : List Row) → SharesRequest ys capacity port word r zs
    → Answers r (request_refusals capacity ys port word) × ((r ≡ success → ⊥) → zs ≡ ys)

abbrev pub DetachRefusals : Type 0
DetachRefusals =
    (ys : List Row) (capacity port : ℕ) (r : Verdict) (zs : List Row) → SharesDetach ys capacity port r zs
    → Answers r (use_refusals capacity ys port) × ((r ≡ success → ⊥) → zs ≡ ys)

abbrev pub RemainingRefusals : Type 0
RemainingRefusals =
    (ys : List Row) (capacity : ℕ) (r : RemainingPower) → SharesRemaining ys capacity r
    → Answers r.verdict (remaining_refusals capacity ys) × ((r.verdict ≡ success → ⊥) → r.power ≡ half_watts 0)
