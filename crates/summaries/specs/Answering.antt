-- The answer to a decoded request from a summary (STATEMENT, "Answering from a summary"; numbers and order from "Refusal numbers"), in
-- millivolts and milliamperes.
-- Assumes nothing.
use Rattle.std.specs.Prelude.{Bool, true, not, ◌&&◌, List, [], ◌∷◌, ℕ, ◌-◌, ◌%◌, leb, ltb, eqb, get_or}
use Rattle.verdicts.specs.declared.Verdict.{Verdict}
use Rattle.verdicts.specs.Refusals.{Refusal, refusal, verdict_of}
use Rattle.steps.specs.Ranges.{within}
use Rattle.steps.specs.Units.{mv20, mv25, ma10, ma50}
use Rattle.requests.specs.Limits.{avs_limit}
use Rattle.requests.specs.Answering.{bad_position}
use Rattle.summaries.specs.declared.Summary.{Summary}
use Rattle.summaries.specs.declared.QuickRequest.{QuickRequest}
use Rattle.summaries.specs.declared.QuickRequest.TheVariants.{Fixed, Variable, Pps, Avs}
use Rattle.summaries.specs.declared.QuickAsked.{QuickAsked}
use Rattle.summaries.specs.declared.answering.Limits.{Limits}
use Rattle.summaries.specs.Summaries.{row, lowest_in, highest_in, below_in, above_in}

-- ---- what is asked for

-- the operating figure in mA
abbrev pub operating_by : QuickRequest → ℕ
operating_by (Fixed o m) = ma10 o
operating_by (Variable o m) = ma10 o
operating_by (Pps v a) = ma50 a
operating_by (Avs v a) = ma50 a

-- "the maximum figure of a fixed or a variable request"; the others have none
abbrev pub maximum_by : QuickRequest → ℕ
maximum_by (Fixed o m) = ma10 m
maximum_by (Variable o m) = ma10 m
maximum_by (Pps v a) = 0
maximum_by (Avs v a) = 0

-- ---- what a row allows

-- "The limit is a current of the row, by the voltage that is asked for": `avs_limit` is that table. "A fixed and a variable request ask for
-- no voltage: their limit is that below 15.0 V"
abbrev pub limit_for : List ℕ → QuickRequest → ℕ
limit_for ls (Fixed o m) = below_in ls
limit_for ls (Variable o m) = below_in ls
limit_for ls (Pps v a) = avs_limit (mv20 v) (below_in ls) (above_in ls)
limit_for ls (Avs v a) = avs_limit (mv25 v) (below_in ls) (above_in ls)

-- "the voltage of a PPS or an AVS request lies from the lowest to the highest of its row, ends included"
abbrev pub in_row : List ℕ → QuickRequest → Bool
in_row ls (Fixed o m) = true
in_row ls (Variable o m) = true
in_row ls (Pps v a) = within (lowest_in ls) (highest_in ls) (mv20 v)
in_row ls (Avs v a) = within (lowest_in ls) (highest_in ls) (mv25 v)

-- "the voltage of an AVS request is a whole number of 100 mV"
abbrev pub whole_in : QuickRequest → Bool
whole_in (Fixed o m) = true
whole_in (Variable o m) = true
whole_in (Pps v a) = true
whole_in (Avs v a) = eqb (mv25 v % 100) 0

-- ---- the refusals

-- "23, 22, 24, 25"
abbrev pub row_refusals : List ℕ → Bool → QuickRequest → List Refusal
row_refusals ls mismatch r =
    refusal (not (whole_in r)) 23 0
    ∷ refusal (not (in_row ls r)) 22 0
    ∷ refusal (not (leb (operating_by r) (limit_for ls r))) 24 0
    ∷ refusal (not (leb (maximum_by r) (limit_for ls r)) && not mismatch) 25 0
    ∷ []

unfoldable pub judged_by : List ℕ → Bool → QuickRequest → Verdict
judged_by ls mismatch r = verdict_of (row_refusals ls mismatch r)

-- "The row of the position is taken as it stands"
abbrev pub row_of : Summary → ℕ → List ℕ
row_of s position = get_or s.rows (position - 1) []

-- "10, 20, 23, 22, 24, 25"
abbrev pub summary_refusals : Summary → QuickAsked → List Refusal
summary_refusals s a =
    refusal (ltb 7 s.count) 10 0
    ∷ refusal (bad_position s.count a.position) 20 0
    ∷ row_refusals (row_of s a.position) a.mismatch a.request

unfoldable pub answered_by : Summary → QuickAsked → Verdict
answered_by s a = verdict_of (summary_refusals s a)

-- ---- a row as the code has it: its four limits by name

abbrev pub limits_in_row : List ℕ → Limits
limits_in_row ls = record {
  lowest = record { 0 = lowest_in ls };
  highest = record { 0 = highest_in ls };
  below_15_v = record { 0 = below_in ls };
  above_15_v = record { 0 = above_in ls };
}

abbrev pub row_with : Limits → List ℕ
row_with l = row l.lowest.0 l.highest.0 l.below_15_v.0 l.above_15_v.0

-- ---- a part of `judged_by`, named for the function that works it out: a voltage in mV and a current in mA, "22, 24"

abbrev pub range_refusals : List ℕ → ℕ → ℕ → List Refusal
range_refusals ls mv ma =
    refusal (not (within (lowest_in ls) (highest_in ls) mv)) 22 0
    ∷ refusal (not (leb ma (avs_limit mv (below_in ls) (above_in ls)))) 24 0
    ∷ []

unfoldable pub range_by : List ℕ → ℕ → ℕ → Verdict
range_by ls mv ma = verdict_of (range_refusals ls mv ma)
