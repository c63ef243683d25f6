-- What a request word says (STATEMENT, "Answering a request").
-- Assumes nothing.
use Rattle.std.specs.Prelude.{Bool, not, ℕ}
use Rattle.steps.specs.declared.Mv20.{Mv20}
use Rattle.steps.specs.declared.Mv25.{Mv25}
use Rattle.steps.specs.declared.Ma50.{Ma50}
use Rattle.objects.specs.Bits.{bits}
use Rattle.objects.specs.Reserved.{clear}
use Rattle.objects.specs.declared.Object.{Object}
use Rattle.objects.specs.declared.Object.TheVariants.{Fixed, Battery, Variable, Pps, Avs}
use Rattle.requests.specs.declared.Request.{Request}
use Rattle.requests.specs.declared.Request.TheVariants as asked
use Rattle.requests.specs.declared.Asked.{Asked}

-- the rows "position" and "capability mismatch"
abbrev pub position_of : ℕ → ℕ
position_of w = bits w 31 28

abbrev pub mismatch_of : ℕ → Bool
mismatch_of w = not (clear w 26 26)

-- fixed, battery, variable: the rows "operating figure" and "maximum figure". "The two figures are in the object's own step"
abbrev pub operating_in : ℕ → ℕ
operating_in w = bits w 19 10

abbrev pub maximum_in : ℕ → ℕ
maximum_in w = bits w 9 0

-- PPS and AVS: bits 20..9 are "voltage, 20 mV" or "voltage, 25 mV", bits 6..0 "current, 50 mA"
abbrev pub volts_in : ℕ → ℕ
volts_in w = bits w 20 9

abbrev pub pps_volts : ℕ → Mv20
pps_volts w = record { 0 = volts_in w }

abbrev pub avs_volts : ℕ → Mv25
avs_volts w = record { 0 = volts_in w }

abbrev pub current_in : ℕ → Ma50
current_in w = record { 0 = bits w 6 0 }

-- the request, by the kind of the object that it names
abbrev pub request_of : Object → ℕ → Request
request_of (Fixed f p v a) w = asked.Fixed (record { 0 = operating_in w }) (record { 0 = maximum_in w })
request_of (Battery x m p) w = asked.Battery (record { 0 = operating_in w }) (record { 0 = maximum_in w })
request_of (Variable x m a) w = asked.Variable (record { 0 = operating_in w }) (record { 0 = maximum_in w })
request_of (Pps l x m a) w = asked.Pps (pps_volts w) (current_in w)
request_of (Avs p l h) w = asked.Avs (avs_volts w) (current_in w)

unfoldable pub taken_apart : Object → ℕ → Asked
taken_apart o w = record { position = position_of w; mismatch = mismatch_of w; request = request_of o w }
