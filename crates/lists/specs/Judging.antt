-- How the word by word part of the shape check goes (STATEMENT, "Shape of a list"): parts of `shape_of`, named for the functions that
-- work them out.
-- Assumes nothing.
use Rattle.std.specs.Prelude.{◌≡◌, ℕ, Bool, Result, Ok, Some}
use Rattle.verdicts.specs.declared.Verdict.{Verdict}
use Rattle.verdicts.specs.Refusals.{first_of, err}
use Rattle.objects.specs.declared.Side.{Side}
use Rattle.objects.specs.declared.Object.{Object}
use Rattle.objects.specs.declared.Object.TheVariants.{Fixed, Battery, Variable, Pps, Avs}
use Rattle.objects.specs.Decode.{decode_for}
use Rattle.lists.specs.declared.object_rules.Standing.{Standing}
use Rattle.lists.specs.declared.object_rules.Standing.TheVariants as standing
use Rattle.lists.specs.ObjectRules.{may_follow}
use Rattle.lists.specs.Shape.{word_refusals}
use Rattle.lists.specs.Reading.{object_of}

-- the kind, and the voltage of `key_of` in the kind's own step
abbrev pub standing_of : Object → Standing
standing_of (Fixed f p v a) = standing.Fixed v
standing_of (Battery x m p) = standing.Battery m
standing_of (Variable x m a) = standing.Variable m
standing_of (Avs p l h) = standing.Avs
standing_of (Pps l x m a) = standing.Pps x

-- an answer by two standings alone is right for all objects that stand so
abbrev pub Follows : Standing → Standing → Bool → Type 0
Follows s t r = (before o : Object) → standing_of before ≡ s → standing_of o ≡ t → r ≡ may_follow before o

-- a word's first refusal, or how its object stands
unfoldable pub judged_of : Side → Bool → ℕ → Object → ℕ → Result Standing Verdict
judged_of side first place before w =
    first_of err (word_refusals side first place (Some before) w) (Ok (standing_of (object_of (decode_for side w))))

abbrev pub Judges : Side → Bool → ℕ → Standing → ℕ → Result Standing Verdict → Type 0
Judges side first place s w r = (before : Object) → standing_of before ≡ s → r ≡ judged_of side first place before w
