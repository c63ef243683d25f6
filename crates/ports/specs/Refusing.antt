-- The refusals of the sharing calls, in their order (STATEMENT, "Order").
-- Assumes nothing.
use Rattle.std.specs.Prelude.{Bool, not, List, [], ◌∷◌, ◌++◌, ℕ, ◌+◌, ◌*◌, ltb, eqb, length}
use Rattle.verdicts.specs.Refusals.{Refusal, refusal, each_place}
use Rattle.steps.specs.Ranges.{within}
use Rattle.rules.specs.Profiles.{bad_cable}
use Rattle.requests.specs.Answering.{answer_refusals}
use Rattle.ports.specs.declared.Row.{Row}
use Rattle.ports.specs.Rows.{row_of, port_row, all_held, left_for}
use Rattle.ports.specs.Soundness.{sound_row}
use Rattle.ports.specs.RuleLists.{rule_list}
use Rattle.ports.specs.Requests.{new_held}

-- 30: "number of rows outside 1 to 8"; 32: "capacity outside 15 times the number of rows to 1600"
abbrev pub table_refusals : ℕ → ℕ → List Refusal
table_refusals capacity count = refusal (not (within 1 8 count)) 30 0 ∷ refusal (not (within (15 * count) 1600 capacity)) 32 0 ∷ []

-- 31: "at set-up, M outside 15 to 200"; 4: "for PPS wanted at set-up". The place is the row.
abbrev pub fresh_row : Row → ℕ → List Refusal
fresh_row y place = refusal (not (within 15 200 y.max.0)) 31 place ∷ refusal (ltb 1 y.pps) 4 place ∷ []

abbrev pub fresh_rows : List Row → ℕ → List Refusal
fresh_rows ys k = fresh_row (row_of ys k) (k + 1)

abbrev pub set_up_refusals : ℕ → List Row → List Refusal
set_up_refusals capacity ys = table_refusals capacity (length ys) ++ each_place (fresh_rows ys) (length ys)

-- 37: "rows that are not sound", at "the first row at fault; 0 when each row is right by itself and only the sum is not"
abbrev pub fault_row : Row → ℕ → List Refusal
fault_row y place = refusal (not (sound_row y)) 37 place ∷ []

abbrev pub fault_rows : List Row → ℕ → List Refusal
fault_rows ys k = fault_row (row_of ys k) (k + 1)

-- of what all rows hold together
abbrev pub sum_fault : ℕ → ℕ → List Refusal
sum_fault capacity held = refusal (ltb capacity held) 37 0 ∷ []

abbrev pub sound_refusals : ℕ → List Row → List Refusal
sound_refusals capacity ys = each_place (fault_rows ys) (length ys) ++ sum_fault capacity (all_held ys)

abbrev pub remaining_refusals : ℕ → List Row → List Refusal
remaining_refusals capacity ys = table_refusals capacity (length ys) ++ sound_refusals capacity ys

-- 33: "port outside 1 to the number of rows"
abbrev pub no_such_port : ℕ → ℕ → List Refusal
no_such_port count port = refusal (not (within 1 count port)) 33 0 ∷ []

abbrev pub port_refusals : ℕ → List Row → ℕ → List Refusal
port_refusals capacity ys port = remaining_refusals capacity ys ++ no_such_port (length ys) port

-- "A port with cable 0 is empty; any other is attached."
abbrev pub in_use : Row → Bool
in_use y = not (eqb y.cable.0 0)

-- 3: "cable outside 100 to 500"; 34: "attach to a port that is attached". The place of 34 is the row.
abbrev pub cannot_attach : Row → ℕ → ℕ → List Refusal
cannot_attach y port cable = refusal (bad_cable cable) 3 0 ∷ refusal (in_use y) 34 port ∷ []

abbrev pub attach_refusals : ℕ → List Row → ℕ → ℕ → List Refusal
attach_refusals capacity ys port cable = port_refusals capacity ys port ++ cannot_attach (port_row ys port) port cable

-- 35: "the port is not attached". The place is the row. Advertise and detach have these.
abbrev pub not_attached : Row → ℕ → List Refusal
not_attached y port = refusal (not (in_use y)) 35 port ∷ []

abbrev pub use_refusals : ℕ → List Row → ℕ → List Refusal
use_refusals capacity ys port = port_refusals capacity ys port ++ not_attached (port_row ys port) port

-- "A request is judged on the rule list of its row as it stands": the request's own refusals are those of that list.
abbrev pub own_refusals : Row → ℕ → List Refusal
own_refusals y word = answer_refusals (rule_list y) word

-- 36: "the others leave too little for this request", "exactly when its power is more than the others leave". The place is the row.
abbrev pub no_power_now : ℕ → Row → ℕ → ℕ → List Refusal
no_power_now left y port word = refusal (ltb left (new_held y word)) 36 port ∷ []

abbrev pub request_refusals : ℕ → List Row → ℕ → ℕ → List Refusal
request_refusals capacity ys port word =
    use_refusals capacity ys port
    ++ (own_refusals (port_row ys port) word ++ no_power_now (left_for capacity ys port) (port_row ys port) port word)
