-- What each sharing call promises of its answer r and of the rows, ys at entry and zs at exit (STATEMENT, "Calls").
-- The contracts cite these names, and so do the theorems over them.
-- Assumes nothing.
use Rattle.std.specs.Prelude.{◌≡◌, List, ℕ}
use Rattle.verdicts.specs.declared.Verdict.{Verdict}
use Rattle.lists.specs.declared.Listing.{Listing}
use Rattle.ports.specs.declared.Row.{Row}
use Rattle.ports.specs.declared.RemainingPower.{RemainingPower}
use Rattle.ports.specs.Lending.{set_up_answer, set_up_rows, attach_answer, attach_rows, advertise_answer, advertise_rows, request_answer, request_rows, detach_answer, detach_rows, remaining_answer}

abbrev pub SharesSetUp : List Row → ℕ → Verdict → List Row → Type 0
SharesSetUp ys capacity r zs = (r ≡ set_up_answer capacity ys) × (zs ≡ set_up_rows capacity ys)

abbrev pub SharesAttach : List Row → ℕ → ℕ → ℕ → Listing → List Row → Type 0
SharesAttach ys capacity port cable r zs = (r ≡ attach_answer capacity ys port cable) × (zs ≡ attach_rows capacity ys port cable)

abbrev pub SharesAdvertise : List Row → ℕ → ℕ → Listing → List Row → Type 0
SharesAdvertise ys capacity port r zs = (r ≡ advertise_answer capacity ys port) × (zs ≡ advertise_rows capacity ys port)

abbrev pub SharesRequest : List Row → ℕ → ℕ → ℕ → Verdict → List Row → Type 0
SharesRequest ys capacity port word r zs = (r ≡ request_answer capacity ys port word) × (zs ≡ request_rows capacity ys port word)

abbrev pub SharesDetach : List Row → ℕ → ℕ → Verdict → List Row → Type 0
SharesDetach ys capacity port r zs = (r ≡ detach_answer capacity ys port) × (zs ≡ detach_rows capacity ys port)

-- the rows are lent for reading alone
abbrev pub SharesRemaining : List Row → ℕ → RemainingPower → Type 0
SharesRemaining ys capacity r = r ≡ remaining_answer capacity ys
