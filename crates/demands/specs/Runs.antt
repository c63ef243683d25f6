-- Demand 3, what a run is: an accepted set-up, and then any calls in any order, each with any arguments, good or bad, and with an answer and
-- rows that its contract allows. All of them have the same capacity and all the rows. Nothing is claimed here: Figures says what is known from
-- a run, AfterRun what holds after it (docs/STATEMENT.md, "Ports that share").
-- Assumes nothing.
use Rattle.std.specs.Prelude.{◌≡◌, List, [], ◌∷◌, ℕ}
use Rattle.verdicts.specs.declared.Verdict.{Verdict}
use Rattle.verdicts.specs.Refusals.{success}
use Rattle.lists.specs.declared.Listing.{Listing}
use Rattle.ports.specs.declared.Row.{Row}
use Rattle.ports.specs.declared.RemainingPower.{RemainingPower}
use Rattle.board.specs.Promises.{SharesSetUp, SharesAttach, SharesAdvertise, SharesRequest, SharesDetach, SharesRemaining}

-- a call with its arguments, good or bad, and its answer. The first number is the port, which counts from 1; attach has the cable in 10 mA
-- after it, request the request word
pub data Event : Type 0 where
  attached : ℕ → ℕ → Listing → Event
  advertised : ℕ → Listing → Event
  requested : ℕ → ℕ → Verdict → Event
  detached : ℕ → Verdict → Event
  remained : RemainingPower → Event

-- the contract of the call allows this answer, and these rows zs after the rows ys
abbrev pub Step : ℕ → List Row → Event → List Row → Type 0
Step capacity ys (attached port cable r) zs = SharesAttach ys capacity port cable r zs
Step capacity ys (advertised port r) zs = SharesAdvertise ys capacity port r zs
Step capacity ys (requested port word r) zs = SharesRequest ys capacity port word r zs
Step capacity ys (detached port r) zs = SharesDetach ys capacity port r zs
Step capacity ys (remained r) zs = SharesRemaining ys capacity r × (zs ≡ ys)

-- an accepted set-up of the rows that were lent
pub record SetUp (capacity : ℕ) (start ys : List Row) : Type 0 where
  pub answer : Verdict
  pub said : SharesSetUp start capacity answer ys
  pub accepted : answer ≡ success

-- what came before, and one call more
pub record Then (Before : List Row → Type 0) (Call : List Row → Type 0) : Type 0 where
  pub rows : List Row
  pub before : Before rows
  pub call : Call rows

-- a set-up and then any calls, each with the same capacity and over all rows; the list of them has the latest first
abbrev pub Run : ℕ → List Row → List Event → List Row → Type 0
Run capacity start [] ys = SetUp capacity start ys
Run capacity start (e ∷ es) zs = Then (λ (ys : List Row). Run capacity start es ys) (λ (ys : List Row). Step capacity ys e zs)
