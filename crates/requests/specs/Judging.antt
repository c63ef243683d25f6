-- A request judged by the object that it names (STATEMENT, "Answering a request"; numbers and order from "Refusal numbers").
-- Assumes nothing.
use Rattle.std.specs.Prelude.{Bool, not, ◌&&◌, List, [], ◌∷◌, ℕ, ltb}
use Rattle.verdicts.specs.declared.Verdict.{Verdict}
use Rattle.verdicts.specs.Refusals.{Refusal, refusal, verdict_of}
use Rattle.objects.specs.declared.Object.{Object}
use Rattle.requests.specs.Taking.{mismatch_of, operating_in, maximum_in, request_of}
use Rattle.requests.specs.Limits.{voltage_not_whole, voltage_outside, operating_too_large, maximum_too_large}

-- "23, 22, 24, 25". The place is 0 for all of these.
abbrev pub refusals_of : Object → ℕ → List Refusal
refusals_of o w =
    refusal (voltage_not_whole o (request_of o w)) 23 0
    ∷ refusal (voltage_outside o (request_of o w)) 22 0
    ∷ refusal (operating_too_large o (request_of o w)) 24 0
    ∷ refusal (maximum_too_large o (mismatch_of w) (request_of o w)) 25 0
    ∷ []

unfoldable pub judged_of : Object → ℕ → Verdict
judged_of o w = verdict_of (refusals_of o w)

-- ---- a part of `judged_of`, named for the function that works it out

-- "24, 25", where each figure is larger than the advertised one or not; the maximum figure may be, where bit 26 is set
abbrev pub figure_rows : Bool → Bool → ℕ → List Refusal
figure_rows operatingLarger maximumLarger w = refusal operatingLarger 24 0 ∷ refusal (maximumLarger && not (mismatch_of w)) 25 0 ∷ []

-- two figures against the advertised one, all in one step
abbrev pub figure_refusals : ℕ → ℕ → List Refusal
figure_refusals advertised w = figure_rows (ltb advertised (operating_in w)) (ltb advertised (maximum_in w)) w
