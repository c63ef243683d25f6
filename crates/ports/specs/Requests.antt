-- The power of a request (STATEMENT, "Calls").
-- Assumes nothing.
use Rattle.std.specs.Prelude.{ℕ, ◌*◌, max, min, Option, Some, None}
use Rattle.steps.specs.Units.{mv50}
use Rattle.steps.specs.Rounding.{up_of}
use Rattle.objects.specs.declared.Object.{Object}
use Rattle.objects.specs.declared.Object.TheVariants.{Fixed, Battery, Variable, Pps, Avs}
use Rattle.lists.specs.declared.Words.{Words}
use Rattle.requests.specs.Taking.{request_of}
use Rattle.requests.specs.Limits.{volts_of, operating_of}
use Rattle.requests.specs.Answering.{named_by}
use Rattle.ports.specs.declared.Row.{Row}
use Rattle.ports.specs.RuleLists.{rule_list}

-- "that of the fixed object, or for PPS and AVS the one asked for", in mV; a rule list has no battery or variable object, and their
-- requests name no voltage
abbrev pub voltage_for : Object → ℕ → ℕ
voltage_for (Fixed f p v a) w = mv50 v
voltage_for (Battery x m p) w = volts_of (request_of (Battery x m p) w)
voltage_for (Variable x m a) w = volts_of (request_of (Variable x m a) w)
voltage_for (Pps l x m a) w = volts_of (request_of (Pps l x m a) w)
voltage_for (Avs p l h) w = volts_of (request_of (Avs p l h) w)

-- ".. taken up to the next half watt where it is between two": mV times mA is µW, and a half watt is 500000 of these
abbrev pub half_watts_for : Object → ℕ → ℕ
half_watts_for o w = up_of (voltage_for o w * operating_of (request_of o w)) 500000

-- "for PPS at most P"
abbrev pub cut_for : Object → ℕ → ℕ → ℕ
cut_for (Fixed f p v a) present power = power
cut_for (Battery x m p) present power = power
cut_for (Variable x m a) present power = power
cut_for (Pps l x m a) present power = min present power
cut_for (Avs p l h) present power = power

-- the power of a request to what a word stands for
abbrev pub power_in : Option Object → ℕ → ℕ → ℕ
power_in (Some o) present w = cut_for o present (half_watts_for o w)
power_in None present w = 0

-- the power of a request on a list that was offered at P
unfoldable pub power_of : Words → ℕ → ℕ → ℕ
power_of l present w = power_in (named_by l w) present w

-- "and never less than 15"
unfoldable pub held_for : Words → ℕ → ℕ → ℕ
held_for l present w = max 15 (power_of l present w)

-- on the rule list of the row as it stands
abbrev pub new_held : Row → ℕ → ℕ
new_held y w = held_for (rule_list y) y.present.0 w
