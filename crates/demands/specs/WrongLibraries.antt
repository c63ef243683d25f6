-- The six wrong libraries of docs/STATEMENT.md, "What the contracts settle", in general: what a library that meets the contracts does, so that
-- none of the six meets them. On lists this is said of a `Library`, for every M and every profile that nothing refuses; sharing is said after
-- every run, of any answer and any rows that the contract of the next call allows, so of a library with any memory of its own. `lists_served`,
-- `built_served` and `sharing_served` in proofs/WrongLibraries.antt prove the claims `ListsServed`, `BuiltServed` and `SharingServed`; each
-- field of their records is a theorem of its own name there.
-- The six: 1 refuses everything; 2 attaches no port, or accepts no shared request; 3 always gives the 5 V list; 4 ignores requests, or never
-- changes a row; 5 serves the first call of a run and afterwards only nods; 6 invents counts or remaining power. The number before a field says
-- which of them it shuts out. WrongInstances has each as a definition, and refutes it on the rows of the worked cases.
-- Ports count from 1 and what is looked up counts from 0, as in Figures.
-- Assumes nothing.
use Rattle.std.specs.Prelude.{◌≡◌, List, ℕ, ◌-◌, ◌≤◌, ◌<◌, length}
use Rattle.verdicts.specs.declared.Verdict.{Verdict}
use Rattle.verdicts.specs.Refusals.{success, NoneApply}
use Rattle.lists.specs.declared.Words.{Words}
use Rattle.lists.specs.declared.Listing.{Listing}
use Rattle.rules.specs.declared.Profile.{Profile}
use Rattle.rules.specs.Building.{built_count}
use Rattle.rules.specs.Profiles.{build_refusals}
use Rattle.ports.specs.declared.Row.{Row}
use Rattle.ports.specs.declared.RemainingPower.{RemainingPower}
use Rattle.ports.specs.Rows.{port_row, together}
use Rattle.ports.specs.Refusing.{set_up_refusals}
use Rattle.board.specs.Promises.{SharesAttach, SharesAdvertise, SharesRequest, SharesDetach, SharesRemaining}
use Rattle.demands.specs.MarkedCases.{fixed}
use Rattle.demands.specs.Runs.{Event, Step, Run}
use Rattle.demands.specs.Figures.{Known, figures, smaller, new_figure, max_of, known, IsAttached, CanAttach}
use Rattle.demands.specs.DueAnswers.{ToAccept, due, verdict_in, list_in}
use Rattle.demands.specs.Libraries.{Library, Meets}

-- a request that every list allows and every port can hold: 5 V, which every list has first, at no current
abbrev pub no_current : ℕ
no_current = fixed 1 0

-- ---- on lists, and set-up

-- 1: what no refusal applies to is accepted. Each M of 1 to 200 has a default profile, for which a list is built; and set-up takes its rows
pub record OnLists (l : Library) : Type 0 where
  pub default_given : (n : ℕ) → 1 ≤ n → n ≤ 200 → (l.default n).verdict ≡ success
  pub default_builds : (n : ℕ) → 1 ≤ n → n ≤ 200 → (l.build (l.default n).profile).verdict ≡ success
  pub set_up_given : (ys : List Row) (capacity : ℕ) → NoneApply (set_up_refusals capacity ys) → (l.set_up ys capacity).0 ≡ success

-- of a profile that nothing refuses
pub record OnBuilt (l : Library) (p : Profile) : Type 0 where
  -- 1: it is built, and every other call on lists takes what is built
  pub list_built : (l.build p).verdict ≡ success
  pub built_shaped : l.shape (l.build p).list ≡ success
  pub built_checked : l.check p (l.build p).list ≡ success
  pub built_read : (l.read (l.build p).list).verdict ≡ success
  pub built_written : l.write (l.read (l.build p).list).list ≡ l.build p
  pub built_answered : l.answer (l.build p).list no_current ≡ success
  -- 3: above M 30 the list has more than 5 V
  pub built_past_5_V : 30 < p.max.0 → 1 < (l.build p).list.count
  -- 6: the count is that of the tables
  pub no_other_built_count : (n : ℕ) → (n ≡ built_count p → ⊥) → (l.build p).list.count ≡ n → ⊥

abbrev pub ListsServed : Type 0
ListsServed = (l : Library) → Meets l → OnLists l

abbrev pub BuiltServed : Type 0
BuiltServed = (l : Library) → Meets l → (p : Profile) → NoneApply (build_refusals p) → OnBuilt l p

-- ---- on sharing

-- what is to hold of the next call after a run, where h is what is known from its calls and answers, start what was lent to set-up, and ys
-- the rows
pub record OnSharing (capacity : ℕ) (start : List Row) (h : ℕ → Known) (ys : List Row) : Type 0 where
  -- 1 and 2: what is to be accepted is accepted: a port that can be attached is attached, a request that the list allows and the power is
  -- there for is accepted
  pub nothing_refused : (e : Event) (zs : List Row) → Step capacity ys e zs → ToAccept capacity (length start) h e → verdict_in e ≡ success
  -- 2: and every attached port has such a request
  pub no_current_accepted : (port : ℕ) (r : Verdict) (zs : List Row) → SharesRequest ys capacity port no_current r zs
      → IsAttached (length start) h port → r ≡ success
  -- 3: above M 30 a list has more than 5 V
  pub attached_past_5_V : (port cable : ℕ) (r : Listing) (zs : List Row) → SharesAttach ys capacity port cable r zs
      → CanAttach (length start) h port cable → 30 < max_of start (port - 1) → 1 < r.list.count
  pub advertised_past_5_V : (port : ℕ) (r : Listing) (zs : List Row) → SharesAdvertise ys capacity port r zs
      → IsAttached (length start) h port → 30 < max_of start (port - 1) → 1 < r.list.count
  -- 4 and 5: a request that is accepted with another figure changes the row of its port; so does each attach, each detach, and an advertise at
  -- another P
  pub request_changes_row : (port word : ℕ) (r : Verdict) (zs : List Row) → SharesRequest ys capacity port word r zs → r ≡ success
      → (new_figure h port word ≡ (h (port - 1)).figure → ⊥) → port_row zs port ≡ port_row ys port → ⊥
  pub attach_changes_row : (port cable : ℕ) (r : Listing) (zs : List Row) → SharesAttach ys capacity port cable r zs
      → CanAttach (length start) h port cable → port_row zs port ≡ port_row ys port → ⊥
  pub advertise_changes_row : (port : ℕ) (r : Listing) (zs : List Row) → SharesAdvertise ys capacity port r zs
      → IsAttached (length start) h port → (smaller capacity (length start) (max_of start) h port ≡ (h (port - 1)).present → ⊥)
      → port_row zs port ≡ port_row ys port → ⊥
  pub detach_changes_row : (port : ℕ) (r : Verdict) (zs : List Row) → SharesDetach ys capacity port r zs → IsAttached (length start) h port
      → port_row zs port ≡ port_row ys port → ⊥
  -- 5: nothing is accepted that is to be refused, and what is accepted has no list but the one that is due
  pub no_nod : (e : Event) (zs : List Row) → Step capacity ys e zs → (ToAccept capacity (length start) h e → ⊥) → verdict_in e ≡ success → ⊥
  pub no_other_list : (e : Event) (zs : List Row) → Step capacity ys e zs → ToAccept capacity (length start) h e
      → (old : Words) → (old ≡ list_in (due capacity start h e) → ⊥) → list_in e ≡ old → ⊥
  -- 6: no count but that of the list that is due, and no power but what the figures leave of the capacity
  pub no_other_count : (e : Event) (zs : List Row) → Step capacity ys e zs → ToAccept capacity (length start) h e
      → (n : ℕ) → (n ≡ (list_in (due capacity start h e)).count → ⊥) → (list_in e).count ≡ n → ⊥
  pub no_other_power : (r : RemainingPower) → SharesRemaining ys capacity r
      → (n : ℕ) → (n ≡ capacity - together (figures h) (length start) → ⊥) → r.power.0 ≡ n → ⊥

-- after every run
abbrev pub SharingServed : Type 0
SharingServed =
    (capacity : ℕ) (start : List Row) (es : List Event) (ys : List Row) → Run capacity start es ys
    → OnSharing capacity start (known capacity start es) ys
