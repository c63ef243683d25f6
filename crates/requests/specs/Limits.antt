-- What a request may ask of an object (STATEMENT, "Answering a request"), in millivolts, milliamperes and milliwatts.
-- Assumes nothing.
use Rattle.std.specs.Prelude.{Bool, true, not, ◌&&◌, cond, ℕ, ◌%◌, max, leb, ltb, eqb}
use Rattle.steps.specs.Ranges.{within}
use Rattle.steps.specs.Units.{mv20, mv25, mv100, ma10, ma50, mw250}
use Rattle.steps.specs.declared.Ma10.{Ma10}
use Rattle.objects.specs.declared.Object.{Object}
use Rattle.objects.specs.declared.Object.TheVariants.{Fixed, Battery, Variable, Pps, Avs}
use Rattle.requests.specs.declared.Request.{Request}
use Rattle.requests.specs.declared.Request.TheVariants as asked

-- ---- what is asked for

-- the voltage in mV; fixed, battery and variable requests name none
abbrev pub volts_of : Request → ℕ
volts_of (asked.Fixed o m) = 0
volts_of (asked.Battery o m) = 0
volts_of (asked.Variable o m) = 0
volts_of (asked.Pps v a) = mv20 v
volts_of (asked.Avs v a) = mv25 v

-- the operating figure in mA, for battery in mW
abbrev pub operating_of : Request → ℕ
operating_of (asked.Fixed o m) = ma10 o
operating_of (asked.Battery o m) = mw250 o
operating_of (asked.Variable o m) = ma10 o
operating_of (asked.Pps v a) = ma50 a
operating_of (asked.Avs v a) = ma50 a

-- the maximum figure likewise; PPS and AVS requests have none
abbrev pub maximum_of : Request → ℕ
maximum_of (asked.Fixed o m) = ma10 m
maximum_of (asked.Battery o m) = mw250 m
maximum_of (asked.Variable o m) = ma10 m
maximum_of (asked.Pps v a) = 0
maximum_of (asked.Avs v a) = 0

-- ---- what is offered

-- "An AVS object whose second current is zero ends at 15 V" (STATEMENT, "Object words").
unfoldable pub avs_top : Ma10 → ℕ
avs_top high = cond (eqb high.0 0) 15000 20000

-- "For AVS it depends on the voltage": the first current below 15.0 V, the second above, and "the larger of the two currents" at 15.0 V
-- itself
unfoldable pub avs_limit : ℕ → ℕ → ℕ → ℕ
avs_limit mv first second = cond (ltb mv 15000) first (cond (ltb 15000 mv) second (max first second))

-- the advertised figure at a voltage, in mA, for battery in mW
abbrev pub advertised_at : Object → ℕ → ℕ
advertised_at (Fixed f p v a) mv = ma10 a
advertised_at (Battery x m p) mv = mw250 p
advertised_at (Variable x m a) mv = ma10 a
advertised_at (Pps l x m a) mv = ma50 a
advertised_at (Avs p l h) mv = avs_limit mv (ma10 l) (ma10 h)

-- "of a PPS object from its minimum to its maximum, of an AVS object from 9 V to 15 V where the second current is zero and else from 9 V
-- to 20 V"
abbrev pub in_range : Object → ℕ → Bool
in_range (Fixed f p v a) mv = true
in_range (Battery x m p) mv = true
in_range (Variable x m a) mv = true
in_range (Pps l x m a) mv = within (mv100 m) (mv100 x) mv
in_range (Avs p l h) mv = within 9000 (avs_top h) mv

-- AVS alone asks for "a whole number of 100 mV"
abbrev pub whole_step : Object → ℕ → Bool
whole_step (Fixed f p v a) mv = true
whole_step (Battery x m p) mv = true
whole_step (Variable x m a) mv = true
whole_step (Pps l x m a) mv = true
whole_step (Avs p l h) mv = eqb (mv % 100) 0

-- ---- the refusals of a request to an object

-- 23: "the voltage of an AVS request is a whole number of 100 mV"
abbrev pub voltage_not_whole : Object → Request → Bool
voltage_not_whole o r = not (whole_step o (volts_of r))

-- 22: "voltage outside the object's range"
abbrev pub voltage_outside : Object → Request → Bool
voltage_outside o r = not (in_range o (volts_of r))

-- 24: "the operating figure is at most what is advertised"
abbrev pub operating_too_large : Object → Request → Bool
operating_too_large o r = not (leb (operating_of r) (advertised_at o (volts_of r)))

-- 25: "the maximum figure is at most what is advertised too, or bit 26 is set"
abbrev pub maximum_too_large : Object → Bool → Request → Bool
maximum_too_large o mismatch r = not (leb (maximum_of r) (advertised_at o (volts_of r))) && not mismatch
