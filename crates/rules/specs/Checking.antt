-- The rule check of a list against a profile (STATEMENT, "The rule check").
-- Assumes nothing.
use Rattle.std.specs.Prelude.{Bool, false, not, List, [], ◌∷◌, ◌++◌, ℕ, ◌+◌, get_or}
use Rattle.verdicts.specs.declared.Verdict.{Verdict}
use Rattle.verdicts.specs.Refusals.{Refusal, refusal, each_place, verdict_of}
use Rattle.objects.specs.declared.Object.{Object}
use Rattle.objects.specs.Asking.{of_object, of_fixed, of_pps}
use Rattle.objects.specs.Decode.{decode_of}
use Rattle.lists.specs.declared.Words.{Words}
use Rattle.lists.specs.Shape.{shape_refusals}
use Rattle.rules.specs.declared.Profile.{Profile}
use Rattle.rules.specs.Profiles.{profile_refusals}
use Rattle.rules.specs.Tables.{Slot, Nothing, Fixed, Avs, Prog, slots}
use Rattle.rules.specs.Currents.{fixed_allowed, prog_allowed}
use Rattle.rules.specs.Sets.{wrong_set}

-- 19: "a current that is not allowed". Of AVS "nothing beyond its agreement with the fixed objects (17)" is asked
unfoldable pub current_refused : Profile → Slot → Object → Bool
current_refused p Nothing o = false
current_refused p (Fixed volts) o = of_fixed (λ v a. not (fixed_allowed p volts a.0)) o
current_refused p (Avs past15V) o = false
current_refused p (Prog volts top) o = of_pps (λ x m a. not (prog_allowed p volts a.0)) o

-- at "the first word whose current is not allowed". The set comes first, so each word stands at its slot
abbrev pub current_rows : Profile → List ℕ → ℕ → List Refusal
current_rows p ws k =
    refusal (of_object (current_refused p (get_or (slots p.max.0) k Nothing)) (decode_of (get_or ws k 0))) 19 (k + 1) ∷ []

-- "1, 2, 3, 4, 5; then as shape; then 18; then 19 at the first such word"
abbrev pub check_refusals : Profile → Words → List Refusal
check_refusals p l =
    profile_refusals p
    ++ (shape_refusals l ++ (refusal (wrong_set p l) 18 0 ∷ each_place (current_rows p l.words) l.count))

unfoldable pub checked_of : Profile → Words → Verdict
checked_of p l = verdict_of (check_refusals p l)
