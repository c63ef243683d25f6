-- Demand 1, refusals, for the calls over flat objects and the calls on lists under C names: number n with its place is given exactly when
-- refusal n applies there and none before it does. On a refusal all else in the answer is zero. Each claim is proved by the theorem of its
-- name in small letters in proofs/FlatRefusals.antt; the order is in docs/STATEMENT.md, "Refusal numbers".
-- Assumes nothing.
use Rattle.std.specs.Prelude.{◌≡◌, ℕ}
use Rattle.verdicts.specs.declared.Verdict.{Verdict}
use Rattle.verdicts.specs.Refusals.{success}
use Rattle.objects.specs.declared.Side.{Side}
use Rattle.objects.specs.declared.Side.TheVariants.{Source}
use Rattle.lists.specs.declared.Words.{Words}
use Rattle.lists.specs.declared.Listing.{Listing}
use Rattle.lists.specs.Shape.{refusals_for, shape_refusals}
use Rattle.lists.specs.Writing.{no_words}
use Rattle.rules.specs.declared.Profile.{Profile}
use Rattle.rules.specs.declared.Profiled.{Profiled}
use Rattle.rules.specs.Profiles.{half_watts, no_profile, default_refusals, build_refusals}
use Rattle.rules.specs.Checking.{check_refusals}
use Rattle.requests.specs.Answering.{answer_refusals}
use Rattle.flat.specs.declared.FlatObjects.{FlatObjects}
use Rattle.flat.specs.declared.FlatReading.{FlatReading}
use Rattle.flat.specs.Writing.{flat_write_refusals}
use Rattle.flat.specs.Kept.{no_flat}
use Rattle.demands.specs.Refusals.{Answers}
use Rattle.demands.specs.FlatContracts.{FlatReadForAnswers, FlatWriteForAnswers, FlatReadAnswers, FlatWriteAnswers}
use Rattle.demands.specs.FlatContracts.{ArinDefaultAnswers, ArinBuildAnswers, ArinCheckAnswers, ArinShapeAnswers, ArinReadAnswers, ArinWriteAnswers, ArinAnswerAnswers}

-- ---- flat

-- of either side: reading refuses as the shape check does, and gives an empty list with it
abbrev pub FlatReadForRefusals : Type 0
FlatReadForRefusals =
    (side : Side) (l : Words) (r : FlatReading) → FlatReadForAnswers side l r
    → Answers r.verdict (refusals_for side l) × ((r.verdict ≡ success → ⊥) → r.list ≡ no_flat)

abbrev pub FlatReadRefusals : Type 0
FlatReadRefusals =
    (l : Words) (r : FlatReading) → FlatReadAnswers l r
    → Answers r.verdict (shape_refusals l) × ((r.verdict ≡ success → ⊥) → r.list ≡ no_flat)

-- of either side: 10, then 7, then what the shape of the words made refuses
abbrev pub FlatWriteForRefusals : Type 0
FlatWriteForRefusals =
    (side : Side) (f : FlatObjects) (r : Listing) → FlatWriteForAnswers side f r
    → Answers r.verdict (flat_write_refusals side f) × ((r.verdict ≡ success → ⊥) → r.list ≡ no_words)

abbrev pub FlatWriteRefusals : Type 0
FlatWriteRefusals =
    (f : FlatObjects) (r : Listing) → FlatWriteAnswers f r
    → Answers r.verdict (flat_write_refusals Source f) × ((r.verdict ≡ success → ⊥) → r.list ≡ no_words)

-- ---- board, lists and requests

abbrev pub ArinDefaultRefusals : Type 0
ArinDefaultRefusals =
    (m : ℕ) (r : Profiled) → ArinDefaultAnswers m r
    → Answers r.verdict (default_refusals (half_watts m)) × ((r.verdict ≡ success → ⊥) → r.profile ≡ no_profile)

abbrev pub ArinBuildRefusals : Type 0
ArinBuildRefusals =
    (p : Profile) (r : Listing) → ArinBuildAnswers p r
    → Answers r.verdict (build_refusals p) × ((r.verdict ≡ success → ⊥) → r.list ≡ no_words)

abbrev pub ArinCheckRefusals : Type 0
ArinCheckRefusals = (p : Profile) (l : Words) (r : Verdict) → ArinCheckAnswers p l r → Answers r (check_refusals p l)

abbrev pub ArinShapeRefusals : Type 0
ArinShapeRefusals = (l : Words) (r : Verdict) → ArinShapeAnswers l r → Answers r (shape_refusals l)

abbrev pub ArinReadRefusals : Type 0
ArinReadRefusals =
    (l : Words) (r : FlatReading) → ArinReadAnswers l r
    → Answers r.verdict (shape_refusals l) × ((r.verdict ≡ success → ⊥) → r.list ≡ no_flat)

abbrev pub ArinWriteRefusals : Type 0
ArinWriteRefusals =
    (f : FlatObjects) (r : Listing) → ArinWriteAnswers f r
    → Answers r.verdict (flat_write_refusals Source f) × ((r.verdict ≡ success → ⊥) → r.list ≡ no_words)

abbrev pub ArinAnswerRefusals : Type 0
ArinAnswerRefusals = (l : Words) (w : ℕ) (r : Verdict) → ArinAnswerAnswers l w r → Answers r (answer_refusals l w)
