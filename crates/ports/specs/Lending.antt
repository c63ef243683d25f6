-- The sharing calls over the lent rows: the answer of each, and every row at exit, from the rows at entry (STATEMENT, "Calls").
-- Assumes nothing.
use Rattle.std.specs.Prelude.{List, map, ℕ, ◌-◌, set, Result, Ok, Err}
use Rattle.steps.specs.declared.HalfWatts.{HalfWatts}
use Rattle.verdicts.specs.declared.Verdict.{Verdict}
use Rattle.verdicts.specs.Refusals.{Refusal, first_of, verdict, verdict_of, success}
use Rattle.lists.specs.declared.Listing.{Listing}
use Rattle.lists.specs.Writing.{write_refused}
use Rattle.rules.specs.Profiles.{half_watts}
use Rattle.ports.specs.declared.Row.{Row}
use Rattle.ports.specs.declared.RemainingPower.{RemainingPower}
use Rattle.ports.specs.Rows.{port_row, emptied, all_held, offered, holding}
use Rattle.ports.specs.RuleLists.{rule_list}
use Rattle.ports.specs.Requests.{new_held}
use Rattle.ports.specs.Refusing.{set_up_refusals, attach_refusals, use_refusals, request_refusals, remaining_refusals}

-- "on a refusal none is" written
abbrev pub unless_refused : List Row → List Refusal → List Row → List Row
unless_refused ys refusals after = first_of (λ n p. ys) refusals after

-- ---- set up: "keeps M and PPS wanted of each row as lent, and empties every port"

unfoldable pub set_up_answer : ℕ → List Row → Verdict
set_up_answer capacity ys = verdict_of (set_up_refusals capacity ys)

unfoldable pub set_up_rows : ℕ → List Row → List Row
set_up_rows capacity ys = unless_refused ys (set_up_refusals capacity ys) (map emptied ys)

-- ---- attach, with a cable

unfoldable pub attach_answer : ℕ → List Row → ℕ → ℕ → Listing
attach_answer capacity ys port cable =
    first_of write_refused (attach_refusals capacity ys port cable)
    (record { verdict = success; list = rule_list (offered capacity ys port cable) })

unfoldable pub attach_rows : ℕ → List Row → ℕ → ℕ → List Row
attach_rows capacity ys port cable =
    unless_refused ys (attach_refusals capacity ys port cable) (set ys (port - 1) (offered capacity ys port cable))

-- ---- advertise

-- the row with the cable that it has
abbrev pub offered_again : ℕ → List Row → ℕ → Row
offered_again capacity ys port = offered capacity ys port (port_row ys port).cable.0

unfoldable pub advertise_answer : ℕ → List Row → ℕ → Listing
advertise_answer capacity ys port =
    first_of write_refused (use_refusals capacity ys port)
    (record { verdict = success; list = rule_list (offered_again capacity ys port) })

unfoldable pub advertise_rows : ℕ → List Row → ℕ → List Row
advertise_rows capacity ys port =
    unless_refused ys (use_refusals capacity ys port) (set ys (port - 1) (offered_again capacity ys port))

-- ---- request

unfoldable pub request_answer : ℕ → List Row → ℕ → ℕ → Verdict
request_answer capacity ys port word = verdict_of (request_refusals capacity ys port word)

unfoldable pub request_rows : ℕ → List Row → ℕ → ℕ → List Row
request_rows capacity ys port word =
    unless_refused ys (request_refusals capacity ys port word)
    (set ys (port - 1) (holding (port_row ys port) (new_held (port_row ys port) word)))

-- ---- detach: "empties the attached port"

unfoldable pub detach_answer : ℕ → List Row → ℕ → Verdict
detach_answer capacity ys port = verdict_of (use_refusals capacity ys port)

unfoldable pub detach_rows : ℕ → List Row → ℕ → List Row
detach_rows capacity ys port =
    unless_refused ys (use_refusals capacity ys port) (set ys (port - 1) (emptied (port_row ys port)))

-- ---- remaining: "the capacity less what all rows hold". No row is written.

abbrev pub no_power_left : ℕ → ℕ → RemainingPower
no_power_left n p = record { verdict = verdict n p; power = half_watts 0 }

-- the power that a result tells
abbrev pub power_told : Result HalfWatts Verdict → RemainingPower
power_told (Ok h) = record { verdict = success; power = h }
power_told (Err v) = no_power_left v.number v.place

unfoldable pub remaining_answer : ℕ → List Row → RemainingPower
remaining_answer capacity ys =
    first_of no_power_left (remaining_refusals capacity ys) (record { verdict = success; power = half_watts (capacity - all_held ys) })
