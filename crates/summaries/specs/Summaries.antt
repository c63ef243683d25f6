-- The summary of a list (STATEMENT, "Summaries"): "the count of the list and seven rows by four limits, a row for each place".
-- Assumes nothing.
use Rattle.std.specs.Prelude.{List, [], ◌∷◌, ℕ, get_or, replicate, Option, Some, None}
use Rattle.verdicts.specs.Refusals.{first_of, verdict, success}
use Rattle.steps.specs.Units.{mv50, mv100, ma10, ma50}
use Rattle.objects.specs.declared.Object.{Object}
use Rattle.objects.specs.declared.Object.TheVariants.{Fixed, Battery, Variable, Pps, Avs}
use Rattle.objects.specs.Decode.{decode_of}
use Rattle.lists.specs.declared.Words.{Words}
use Rattle.lists.specs.Shape.{shape_refusals}
use Rattle.lists.specs.Seven.{seven_to}
use Rattle.requests.specs.Limits.{avs_top}
use Rattle.summaries.specs.declared.Summary.{Summary}
use Rattle.summaries.specs.declared.Summarized.{Summarized}

-- "The four limits of a row are, in this order, the lowest and the highest voltage in millivolts, and the greatest current in
-- milliamperes below 15.0 V and above 15.0 V"
abbrev pub row : ℕ → ℕ → ℕ → ℕ → List ℕ
row lowest highest below above = lowest ∷ highest ∷ below ∷ above ∷ []

abbrev pub lowest_in : List ℕ → ℕ
lowest_in ls = get_or ls 0 0

abbrev pub highest_in : List ℕ → ℕ
highest_in ls = get_or ls 1 0

abbrev pub below_in : List ℕ → ℕ
below_in ls = get_or ls 2 0

abbrev pub above_in : List ℕ → ℕ
above_in ls = get_or ls 3 0

-- the table, object by object. `avs_top` is "15000 where the second current is zero, else 20000".
unfoldable pub limits_of : Object → List ℕ
limits_of (Fixed f p v a) = row (mv50 v) (mv50 v) (ma10 a) (ma10 a)
limits_of (Battery x m p) = row (mv50 m) (mv50 x) 0 0
limits_of (Variable x m a) = row (mv50 m) (mv50 x) (ma10 a) (ma10 a)
limits_of (Pps l x m a) = row (mv100 m) (mv100 x) (ma50 a) (ma50 a)
limits_of (Avs p l h) = row 9000 (avs_top h) (ma10 l) (ma10 h)

-- "Rows past the count are zero."
abbrev pub no_limits : List ℕ
no_limits = row 0 0 0 0

-- the limits of a word; a list whose shape passes has an object in every word
abbrev pub limits_in : Option Object → List ℕ
limits_in (Some o) = limits_of o
limits_in None = no_limits

abbrev pub limits_at : List ℕ → ℕ → List ℕ
limits_at ws k = limits_in (decode_of (get_or ws k 0))

-- the rows of the first n words
abbrev pub rows_to : List ℕ → ℕ → List (List ℕ)
rows_to ws n = seven_to (limits_at ws) no_limits n

abbrev pub summary_with : ℕ → List (List ℕ) → Summary
summary_with n rs = record { count = n; rows = rs }

abbrev pub summary_to : List ℕ → ℕ → Summary
summary_to ws n = summary_with n (rows_to ws n)

abbrev pub summary_of : Words → Summary
summary_of l = summary_to l.words l.count

-- "the summary is then all zero, its count too"
abbrev pub no_summary : Summary
no_summary = summary_with 0 (replicate 7 no_limits)

abbrev pub summary_refused : ℕ → ℕ → Summarized
summary_refused n p = record { verdict = verdict n p; summary = no_summary }

-- "Making a summary refuses exactly what the shape check refuses, with the same number and place"
unfoldable pub summarized_of : Words → Summarized
summarized_of l = first_of summary_refused (shape_refusals l) (record { verdict = success; summary = summary_of l })
