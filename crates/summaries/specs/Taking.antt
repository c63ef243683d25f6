-- Decoding a request for the kind of the object at its position (STATEMENT, "Decoded requests"; numbers and order from "Refusal numbers").
-- Assumes nothing.
use Rattle.std.specs.Prelude.{Bool, List, [], ◌∷◌, ℕ, eqb, Result, Ok, Err}
use Rattle.verdicts.specs.declared.Verdict.{Verdict}
use Rattle.verdicts.specs.Refusals.{Refusal, refusal, first_of, err, success}
use Rattle.objects.specs.Decode.{decoded_number}
use Rattle.lists.specs.declared.Words.{Words}
use Rattle.lists.specs.Shape.{bad_count}
use Rattle.lists.specs.Reading.{object_of}
use Rattle.requests.specs.declared.Request.{Request}
use Rattle.requests.specs.declared.Request.TheVariants as asked
use Rattle.requests.specs.declared.Asked.{Asked}
use Rattle.requests.specs.Taking.{position_of, taken_apart}
use Rattle.requests.specs.Answering.{bad_position, named_by}
use Rattle.summaries.specs.declared.QuickRequest.{QuickRequest}
use Rattle.summaries.specs.declared.QuickRequest.TheVariants as quick
use Rattle.summaries.specs.declared.QuickAsked.{QuickAsked}
use Rattle.summaries.specs.declared.TakenRequest.{TakenRequest}
use Rattle.summaries.specs.declared.TakenRequest.TheVariants.{Battery, Quick}
use Rattle.summaries.specs.declared.BatteryRequest.{BatteryRequest}

-- "It has the position, bit 26, and the two figures of a fixed or a variable request, or the voltage and the current of a PPS or an AVS
-- request, each in its step". "There is none for a battery object"
abbrev pub quick_with : ℕ → Bool → QuickRequest → TakenRequest
quick_with p m r = Quick (record { position = p; mismatch = m; request = r })

abbrev pub quick_by : ℕ → Bool → Request → TakenRequest
quick_by p m (asked.Fixed o x) = quick_with p m (quick.Fixed o x)
quick_by p m (asked.Battery o x) = Battery p m
quick_by p m (asked.Variable o x) = quick_with p m (quick.Variable o x)
quick_by p m (asked.Pps v a) = quick_with p m (quick.Pps v a)
quick_by p m (asked.Avs v a) = quick_with p m (quick.Avs v a)

unfoldable pub quick_of : Asked → TakenRequest
quick_of a = quick_by a.position a.mismatch a.request

-- the request alone
abbrev pub quick_request_of : Request → Result QuickRequest BatteryRequest
quick_request_of (asked.Fixed o x) = Ok (quick.Fixed o x)
quick_request_of (asked.Battery o x) = Err (record {})
quick_request_of (asked.Variable o x) = Ok (quick.Variable o x)
quick_request_of (asked.Pps v a) = Ok (quick.Pps v a)
quick_request_of (asked.Avs v a) = Ok (quick.Avs v a)

-- a refusal in place of a decoded request
abbrev pub taken_refused : ℕ → ℕ → Result TakenRequest Verdict
taken_refused n p = err n p

-- "10, 20, 12", the last at "the object or word at fault"
abbrev pub decoding_refusals : Words → ℕ → List Refusal
decoding_refusals l w =
    refusal (bad_count l.count) 10 0
    ∷ refusal (bad_position l.count (position_of w)) 20 0
    ∷ refusal (eqb (decoded_number (named_by l w)) 12) 12 (position_of w)
    ∷ []

unfoldable pub taken_of : Words → ℕ → Result TakenRequest Verdict
taken_of l w = first_of taken_refused (decoding_refusals l w) (Ok (quick_of (taken_apart (object_of (named_by l w)) w)))

-- ---- no contract cites these

-- What each answer says: its number and place. On a refusal nothing else is given.
abbrev pub taken_verdict : Result TakenRequest Verdict → Verdict
taken_verdict (Err v) = v
taken_verdict (Ok t) = success

-- a decoded request as `requests` has it taken apart, where there is a battery too
abbrev pub request_as : QuickRequest → Request
request_as (quick.Fixed o x) = asked.Fixed o x
request_as (quick.Variable o x) = asked.Variable o x
request_as (quick.Pps v a) = asked.Pps v a
request_as (quick.Avs v a) = asked.Avs v a

abbrev pub asked_as : QuickAsked → Asked
asked_as a = record { position = a.position; mismatch = a.mismatch; request = request_as a.request }
