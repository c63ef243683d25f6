-- The answer to a request (STATEMENT, "Answering a request"; numbers and order from "Refusal numbers").
-- Assumes nothing.
use Rattle.objects.specs.declared.Object.{Object}
use Rattle.std.specs.Prelude.{Bool, ◌||◌, List, [], ◌∷◌, ◌++◌, ℕ, ◌-◌, ltb, get_or, Option, Some, None}
use Rattle.verdicts.specs.declared.Verdict.{Verdict}
use Rattle.verdicts.specs.Refusals.{Refusal, refusal, verdict_of}
use Rattle.objects.specs.Decode.{decode_of}
use Rattle.lists.specs.declared.Words.{Words}
use Rattle.lists.specs.Shape.{shape_refusals}
use Rattle.requests.specs.Taking.{position_of}
use Rattle.requests.specs.Judging.{refusals_of}

-- 20: "position outside 1 to the count"
abbrev pub bad_position : ℕ → ℕ → Bool
bad_position count position = ltb position 1 || ltb count position

-- the word that a request names by its position
abbrev pub named_by : Words → ℕ → Option Object
named_by l w = decode_of (get_or l.words (position_of w - 1) 0)

-- the refusals of the object that is named; a word of no allowed kind has none, and the shape of its list does not pass
abbrev pub named_refusals : Option Object → ℕ → List Refusal
named_refusals (Some o) w = refusals_of o w
named_refusals None w = []

abbrev pub object_refusals : Words → ℕ → List Refusal
object_refusals l w = named_refusals (named_by l w) w

-- "as shape; then 20, 23, 22, 24, 25". The place of 20 is 0 too.
abbrev pub answer_refusals : Words → ℕ → List Refusal
answer_refusals l w = shape_refusals l ++ (refusal (bad_position l.count (position_of w)) 20 0 ∷ object_refusals l w)

unfoldable pub answer_of : Words → ℕ → Verdict
answer_of l w = verdict_of (answer_refusals l w)
