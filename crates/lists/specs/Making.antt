-- The words made of objects (STATEMENT, "Lists in hand"), before their shape is looked at: a part of `written_from`. And words that are
-- given, by their shape: a part of `listed_of`.
-- Assumes nothing.
use Rattle.std.specs.Prelude.{Result, Ok, List, ℕ, ◌∷◌, Option}
use Rattle.verdicts.specs.declared.Verdict.{Verdict}
use Rattle.verdicts.specs.Refusals.{Refusal, refusal, each_place, first_of, success, err}
use Rattle.objects.specs.declared.Side.{Side}
use Rattle.lists.specs.declared.Words.{Words}
use Rattle.lists.specs.declared.Objects.{Objects}
use Rattle.lists.specs.declared.Listing.{Listing}
use Rattle.lists.specs.Shape.{bad_count, refusals_for}
use Rattle.lists.specs.Writing.{wide_rows, words_from, write_refused, encoded_at}

-- "10; 7 at the first such object"
abbrev pub making_rows : (ℕ → Option ℕ) → ℕ → List Refusal
making_rows made n = refusal (bad_count n) 10 0 ∷ each_place (wide_rows made) n

unfoldable pub made_from : (ℕ → Option ℕ) → ℕ → Listing
made_from made n = first_of write_refused (making_rows made n) (record { verdict = success; list = words_from made n })

-- the same as a result, for `?`
unfoldable pub words_made : (ℕ → Option ℕ) → ℕ → Result Words Verdict
words_made made n = first_of err (making_rows made n) (Ok (words_from made n))

abbrev pub made_of : Objects → Result Words Verdict
made_of o = words_made (encoded_at o.places) o.count

unfoldable pub listed_as : Side → Words → Result Words Verdict
listed_as side l = first_of err (refusals_for side l) (Ok l)
