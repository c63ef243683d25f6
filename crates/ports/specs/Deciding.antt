-- What each sharing call decides from how the rows stand and from the port's own row: its answer, and the row to write (STATEMENT,
-- "Calls"). That this is what the lent rows say is shown in proofs/.
-- Assumes nothing.
use Rattle.std.specs.Prelude.{Bool, cond, not, List, [], ◌∷◌, ◌++◌, ℕ, ◌+◌, ◌-◌, eqb, Option, Some, None, Result, Ok, Err}
use Rattle.verdicts.specs.declared.Verdict.{Verdict}
use Rattle.verdicts.specs.Refusals.{Refusal, refusal, first_of, verdict, success}
use Rattle.steps.specs.Ranges.{within}
use Rattle.objects.specs.declared.Object.{Object}
use Rattle.lists.specs.declared.Words.{Words}
use Rattle.lists.specs.declared.Listing.{Listing}
use Rattle.lists.specs.Writing.{write_refused}
use Rattle.rules.specs.Profiles.{half_watts}
use Rattle.rules.specs.Building.{built_of}
use Rattle.requests.specs.Taking.{position_of}
use Rattle.requests.specs.Answering.{named_by}
use Rattle.ports.specs.declared.Row.{Row}
use Rattle.ports.specs.declared.Standing.{Standing}
use Rattle.ports.specs.declared.Change.{Change}
use Rattle.ports.specs.declared.RemainingPower.{RemainingPower}
use Rattle.ports.specs.Rows.{no_row, emptied, present_of, offering, holding}
use Rattle.ports.specs.RuleLists.{rule_profile}
use Rattle.ports.specs.Requests.{new_held}
use Rattle.ports.specs.Refusing.{cannot_attach, not_attached, own_refusals, no_power_now}
use Rattle.ports.specs.Standing.{end_refusals, port_end_refusals}
use Rattle.ports.specs.Lending.{no_power_left}

-- "What the others leave for a port is the capacity less what all other rows hold": less all held, and the row's own again
abbrev pub left_beside : ℕ → Standing → Row → ℕ
left_beside capacity s y = (capacity - s.held) + y.held.0

-- "the smaller of M and what the others leave"
abbrev pub present_beside : ℕ → Standing → Row → ℕ
present_beside capacity s y = present_of y (left_beside capacity s y)

-- the row with this cable, offered that P
abbrev pub offered_beside : ℕ → Standing → Row → ℕ → Row
offered_beside capacity s y cable = offering y (present_beside capacity s y) cable

-- "on a refusal none is" written: the place past the last row is no row.
abbrev pub no_change : Standing → ℕ → ℕ → Change
no_change s n p = record { answer = verdict n p; at = s.count; row = no_row }

-- a row changed
abbrev pub changing : ℕ → Row → Change
changing port y = record { answer = success; at = port - 1; row = y }

-- the change that a result tells
abbrev pub change_told : Standing → ℕ → Result Row Verdict → Change
change_told s port (Ok y) = changing port y
change_told s port (Err v) = no_change s v.number v.place

-- the object that a request names in a list
abbrev pub object_in : Words → ℕ → Option Object
object_in l w = cond (within 1 l.count (position_of w)) (named_by l w) None

-- where the list has no such place: 10 if it is empty, else 20
abbrev pub named_or_none : Words → Option Object → Result Object Verdict
named_or_none l (Some o) = Ok o
named_or_none l None = Err (cond (eqb l.count 0) (verdict 10 0) (verdict 20 0))

abbrev pub named_in : Words → ℕ → Result Object Verdict
named_in l w = named_or_none l (object_in l w)

abbrev pub attach_end_refusals : ℕ → Standing → Row → ℕ → ℕ → List Refusal
attach_end_refusals capacity s y port cable = port_end_refusals capacity s port ++ cannot_attach y port cable

abbrev pub use_end_refusals : ℕ → Standing → Row → ℕ → List Refusal
use_end_refusals capacity s y port = port_end_refusals capacity s port ++ not_attached y port

abbrev pub request_end_refusals : ℕ → Standing → Row → ℕ → ℕ → List Refusal
request_end_refusals capacity s y port word =
    use_end_refusals capacity s y port ++ (own_refusals y word ++ no_power_now (left_beside capacity s y) y port word)

-- attach: "P the smaller of M and what the others leave"; advertise: "P of the attached port becomes the smaller of M and what the others
-- leave"
unfoldable pub attach_change : ℕ → Standing → Row → ℕ → ℕ → Change
attach_change capacity s y port cable =
    first_of (no_change s) (attach_end_refusals capacity s y port cable) (changing port (offering y (present_beside capacity s y) cable))

unfoldable pub advertise_change : ℕ → Standing → Row → ℕ → Change
advertise_change capacity s y port =
    first_of (no_change s) (use_end_refusals capacity s y port) (changing port (offering y (present_beside capacity s y) y.cable.0))

abbrev pub refused : Change → Bool
refused c = not (eqb c.answer.number 0)

-- both answer with "its rule list": that of the row that is written
unfoldable pub offer_of : Change → Listing
offer_of c = first_of write_refused (refusal (refused c) c.answer.number c.answer.place ∷ []) (built_of (rule_profile c.row))

-- "held becomes the power of the request"
unfoldable pub request_change : ℕ → Standing → Row → ℕ → ℕ → Change
request_change capacity s y port word =
    first_of (no_change s) (request_end_refusals capacity s y port word) (changing port (holding y (new_held y word)))

-- "empties the attached port"
unfoldable pub detach_change : ℕ → Standing → Row → ℕ → Change
detach_change capacity s y port = first_of (no_change s) (use_end_refusals capacity s y port) (changing port (emptied y))

-- "the capacity less what all rows hold"
unfoldable pub power_left : ℕ → Standing → RemainingPower
power_left capacity s =
    first_of no_power_left (end_refusals capacity s) (record { verdict = success; power = half_watts (capacity - s.held) })
