-- One struct for the decoded requests of all kinds (STATEMENT, "Decoded requests": "C hands in a decoded request as one struct with a kind
-- number, that of the object. Fields that the kind does not have are not looked at, and are zero in what is given back."), and the answer to one
-- ("Answering from a summary").
-- Assumes nothing.
use Rattle.std.specs.Prelude.{Bool, not, ◌||◌, cond, List, ◌∷◌, ℕ, zero, suc, eqb, Option, Some, None, Result, Ok, Err}
use Rattle.verdicts.specs.declared.Verdict.{Verdict}
use Rattle.verdicts.specs.Refusals.{Refusal, refusal, success, verdict_of}
use Rattle.steps.specs.declared.Mv20.{Mv20}
use Rattle.steps.specs.declared.Mv25.{Mv25}
use Rattle.steps.specs.declared.Ma10.{Ma10}
use Rattle.steps.specs.declared.Ma50.{Ma50}
use Rattle.lists.specs.declared.Words.{Words}
use Rattle.summaries.specs.declared.Summary.{Summary}
use Rattle.summaries.specs.declared.QuickRequest.{QuickRequest}
use Rattle.summaries.specs.declared.QuickRequest.TheVariants.{Fixed, Variable, Pps, Avs}
use Rattle.summaries.specs.declared.QuickAsked.{QuickAsked}
use Rattle.summaries.specs.declared.TakenRequest.{TakenRequest}
use Rattle.summaries.specs.declared.TakenRequest.TheVariants.{Battery, Quick}
use Rattle.summaries.specs.Taking.{taken_of}
use Rattle.summaries.specs.Answering.{summary_refusals}
use Rattle.flat.specs.declared.FlatRequest.{FlatRequest}
use Rattle.flat.specs.declared.FlatTaken.{FlatTaken}
use Rattle.flat.specs.Flat.{no_ma10, no_ma50}

-- ---- out: by the kind of the object

abbrev pub no_mv20 : Mv20
no_mv20 = record { 0 = 0 }

abbrev pub no_mv25 : Mv25
no_mv25 = record { 0 = 0 }

-- "Bit 26 is a number there: 1 or 0 in what is given back"
abbrev pub bit_of : Bool → ℕ
bit_of mismatch = cond mismatch 1 0

-- the kind, the position and bit 26, with two currents, with a voltage in 20 mV and a current, or with one in 25 mV and a current
abbrev pub flat_currents : ℕ → ℕ → ℕ → Ma10 → Ma10 → FlatRequest
flat_currents k p b o m =
    record { kind = k; position = p; mismatch = b; operating = o; maximum = m; volts20 = no_mv20; volts25 = no_mv25; current50 = no_ma50 }

abbrev pub flat_in_20_mV : ℕ → ℕ → ℕ → Mv20 → Ma50 → FlatRequest
flat_in_20_mV k p b v a =
    record { kind = k; position = p; mismatch = b; operating = no_ma10; maximum = no_ma10; volts20 = v; volts25 = no_mv25; current50 = a }

abbrev pub flat_in_25_mV : ℕ → ℕ → ℕ → Mv25 → Ma50 → FlatRequest
flat_in_25_mV k p b v a =
    record { kind = k; position = p; mismatch = b; operating = no_ma10; maximum = no_ma10; volts20 = no_mv20; volts25 = v; current50 = a }

abbrev pub no_figures : ℕ → ℕ → ℕ → FlatRequest
no_figures k p b = flat_currents k p b no_ma10 no_ma10

abbrev pub flat_request_by : ℕ → ℕ → QuickRequest → FlatRequest
flat_request_by p b (Fixed o m) = flat_currents 0 p b o m
flat_request_by p b (Variable o m) = flat_currents 2 p b o m
flat_request_by p b (Pps v a) = flat_in_20_mV 3 p b v a
flat_request_by p b (Avs v a) = flat_in_25_mV 4 p b v a

unfoldable pub flat_request_of : QuickAsked → FlatRequest
flat_request_of a = flat_request_by a.position (bit_of a.mismatch) a.request

-- "For a battery object nothing is refused: the kind, the position and bit 26 are given back, and all else is zero."
abbrev pub flat_battery_of : ℕ → Bool → FlatRequest
flat_battery_of p mismatch = no_figures 1 p (bit_of mismatch)

-- "On a refusal everything else in the answer is zero"
abbrev pub no_request : FlatRequest
no_request = no_figures 0 0 0

abbrev pub taken_as : FlatRequest → FlatTaken
taken_as x = record { verdict = success; request = x }

abbrev pub flat_taken_told : Result FlatRequest Verdict → FlatTaken
flat_taken_told (Ok x) = taken_as x
flat_taken_told (Err v) = record { verdict = v; request = no_request }

abbrev pub flat_taken_by : Result TakenRequest Verdict → FlatTaken
flat_taken_by (Err v) = record { verdict = v; request = no_request }
flat_taken_by (Ok (Battery p mismatch)) = taken_as (flat_battery_of p mismatch)
flat_taken_by (Ok (Quick a)) = taken_as (flat_request_of a)

unfoldable pub flat_taken_of : Words → ℕ → FlatTaken
flat_taken_of l w = flat_taken_by (taken_of l w)

-- ---- in: by the kind number

-- "any other than 0 counts as set"
abbrev pub asked_with : FlatRequest → QuickRequest → QuickAsked
asked_with x r = record { position = x.position; mismatch = not (eqb x.mismatch 0); request = r }

abbrev pub raised_request_by : ℕ → FlatRequest → Option QuickAsked
raised_request_by zero x = Some (asked_with x (Fixed x.operating x.maximum))
raised_request_by (suc zero) x = None
raised_request_by (suc (suc zero)) x = Some (asked_with x (Variable x.operating x.maximum))
raised_request_by (suc (suc (suc zero))) x = Some (asked_with x (Pps x.volts20 x.current50))
raised_request_by (suc (suc (suc (suc zero)))) x = Some (asked_with x (Avs x.volts25 x.current50))
raised_request_by (suc (suc (suc (suc (suc k))))) x = None

unfoldable pub raised_request_of : FlatRequest → Option QuickAsked
raised_request_of x = raised_request_by x.kind x

-- the decoded request of a flat one that has one
abbrev pub asked_of : Option QuickAsked → FlatRequest → QuickAsked
asked_of (Some a) x = a
asked_of None x = asked_with x (Fixed x.operating x.maximum)

-- "whose kind number is not that of a fixed, a variable, a PPS or an AVS object"
abbrev pub has_none : ℕ → Bool
has_none k = not (eqb k 0 || eqb k 2 || eqb k 3 || eqb k 4)

-- "in C 12 before them"
abbrev pub flat_answer_refusals : Summary → FlatRequest → List Refusal
flat_answer_refusals s x = refusal (has_none x.kind) 12 0 ∷ summary_refusals s (asked_of (raised_request_of x) x)

unfoldable pub flat_answered_of : Summary → FlatRequest → Verdict
flat_answered_of s x = verdict_of (flat_answer_refusals s x)

-- ---- no contract cites these

-- a flat request with the fields of its kind alone: the others are zero
abbrev pub own_request_by : ℕ → FlatRequest → FlatRequest
own_request_by zero x = flat_currents 0 x.position x.mismatch x.operating x.maximum
own_request_by (suc zero) x = flat_currents 1 x.position x.mismatch no_ma10 no_ma10
own_request_by (suc (suc zero)) x = flat_currents 2 x.position x.mismatch x.operating x.maximum
own_request_by (suc (suc (suc zero))) x = flat_in_20_mV 3 x.position x.mismatch x.volts20 x.current50
own_request_by (suc (suc (suc (suc zero)))) x = flat_in_25_mV 4 x.position x.mismatch x.volts25 x.current50
own_request_by (suc (suc (suc (suc (suc k))))) x = x

abbrev pub own_request : FlatRequest → FlatRequest
own_request x = own_request_by x.kind x
