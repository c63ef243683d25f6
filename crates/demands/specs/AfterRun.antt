-- Demand 3: after every run, what the ports hold never passes the capacity, the next list of a port is the rule list for what the others leave,
-- and a request that the port's list allows is refused, with 36, exactly when the others hold the power it needs. All of it is said of the
-- figures that calls and answers alone give (Figures), and of any next call that its contract allows. `demand_3` in proofs/Demand3.antt proves
-- `Demand3`, the record `AfterRun` for every run (docs/STATEMENT.md, "Ports that share").
-- Ports count from 1 and what is looked up counts from 0, as in Figures: `h (port - 1)` is what is known of a port.
-- Assumes nothing.
use Rattle.std.specs.Prelude.{◌≡◌, List, ◌↔◌, ℕ, ◌-◌, ◌≤◌, ◌<◌, length}
use Rattle.verdicts.specs.declared.Verdict.{Verdict}
use Rattle.verdicts.specs.Refusals.{verdict, success}
use Rattle.lists.specs.declared.Listing.{Listing}
use Rattle.rules.specs.Profiles.{half_watts}
use Rattle.requests.specs.Answering.{answer_of}
use Rattle.ports.specs.declared.Row.{Row}
use Rattle.ports.specs.declared.RemainingPower.{RemainingPower}
use Rattle.ports.specs.Rows.{together, besides}
use Rattle.board.specs.Promises.{SharesAttach, SharesAdvertise, SharesRequest, SharesDetach, SharesRemaining}
use Rattle.demands.specs.Runs.{Event, Run}
use Rattle.demands.specs.Figures.{Known, figures, smaller, new_figure, max_of, wanted_of, known, list_for, IsAttached, CanAttach}

-- What is to hold of the rows ys after a run, where h is what is known from its calls and answers, start what was lent to set-up, and
-- every next call is one that its contract allows.
pub record AfterRun (capacity : ℕ) (start : List Row) (h : ℕ → Known) (ys : List Row) : Type 0 where
  -- the figures together do not pass the capacity
  pub within_capacity : together (figures h) (length start) ≤ capacity
  -- the next list that attach or advertise gives is the rule list for M at the smaller of M and what the other figures leave of the capacity;
  -- attach is accepted exactly for an empty port and a cable of 1 to 5 A, advertise exactly for an attached port
  pub attach_list : (port cable : ℕ) (r : Listing) (zs : List Row) → SharesAttach ys capacity port cable r zs
      → CanAttach (length start) h port cable
      → r ≡ record {
        verdict = success;
        list = list_for (max_of start (port - 1)) (wanted_of start (port - 1)) cable (smaller capacity (length start) (max_of start) h port);
      }
  pub attach_only : (port cable : ℕ) (r : Listing) (zs : List Row) → SharesAttach ys capacity port cable r zs
      → r.verdict ≡ success → CanAttach (length start) h port cable
  pub advertise_list : (port : ℕ) (r : Listing) (zs : List Row) → SharesAdvertise ys capacity port r zs → IsAttached (length start) h port
      → r ≡ record {
        verdict = success;
        list =
            list_for (max_of start (port - 1)) (wanted_of start (port - 1)) (h (port - 1)).cable
            (smaller capacity (length start) (max_of start) h port);
      }
  pub advertise_only : (port : ℕ) (r : Listing) (zs : List Row) → SharesAdvertise ys capacity port r zs
      → r.verdict ≡ success → IsAttached (length start) h port
  -- a request that the port's latest list allows is refused with 36 at the port exactly when its figure is more than the others leave, and is
  -- accepted exactly when it is not
  pub refused_36 : (port word : ℕ) (r : Verdict) (zs : List Row) → SharesRequest ys capacity port word r zs → IsAttached (length start) h port
      → answer_of (h (port - 1)).list word ≡ success
      → r ≡ verdict 36 port ↔ capacity - together (besides (port - 1) (figures h)) (length start) < new_figure h port word
  pub accepted_else : (port word : ℕ) (r : Verdict) (zs : List Row) → SharesRequest ys capacity port word r zs → IsAttached (length start) h port
      → answer_of (h (port - 1)).list word ≡ success
      → r ≡ success ↔ new_figure h port word ≤ capacity - together (besides (port - 1) (figures h)) (length start)
  -- a request that the list does not allow gets the list's own refusal
  pub own_refusal : (port word : ℕ) (r : Verdict) (zs : List Row) → SharesRequest ys capacity port word r zs → IsAttached (length start) h port
      → (answer_of (h (port - 1)).list word ≡ success → ⊥) → r ≡ answer_of (h (port - 1)).list word
  -- a request is accepted, and a port detached, only where the port is attached
  pub request_only : (port word : ℕ) (r : Verdict) (zs : List Row) → SharesRequest ys capacity port word r zs
      → r ≡ success → IsAttached (length start) h port
  pub detach_only : (port : ℕ) (r : Verdict) (zs : List Row) → SharesDetach ys capacity port r zs → r ≡ success → IsAttached (length start) h port
  -- an attached port can be detached
  pub detach_accepted : (port : ℕ) (r : Verdict) (zs : List Row) → SharesDetach ys capacity port r zs → IsAttached (length start) h port → r ≡ success
  -- the remaining power is the capacity less all figures
  pub remaining_power : (r : RemainingPower) → SharesRemaining ys capacity r
      → r ≡ record { verdict = success; power = half_watts (capacity - together (figures h) (length start)) }

-- for every run
abbrev pub Demand3 : Type 0
Demand3 =
    (capacity : ℕ) (start : List Row) (es : List Event) (ys : List Row) → Run capacity start es ys
    → AfterRun capacity start (known capacity start es) ys
