-- Demand 1, refusals: a call gives number n with its place exactly when refusal n applies there and none before it in the order does, and it
-- succeeds exactly when none applies. On a refusal all else in the answer is zero. Each claim is proved by the theorem of its name in small
-- letters (`shape_refusals_lem` is `ShapeRefusals`) in proofs/Refusals.antt.
-- The table of each call, in the order of docs/STATEMENT.md, "Refusal numbers", is in specs/ of `lists`, `rules` and `requests`; a row
-- `refusal b n p` has whether it applies, its number and its place. A place counts from 1, and is 0 where a refusal has none.
-- Calls whose answer is an enum are in EnumRefusals, those of C in FlatRefusals, those over rows in SharingRefusals.
-- Assumes nothing.
use Rattle.std.specs.Prelude.{◌≡◌, List, ◌↔◌, ℕ}
use Rattle.verdicts.specs.declared.Verdict.{Verdict}
use Rattle.verdicts.specs.Refusals.{Refusal, verdict, success, NoneApply, First}
use Rattle.steps.specs.declared.HalfWatts.{HalfWatts}
use Rattle.objects.specs.declared.Side.{Side}
use Rattle.objects.specs.declared.Object.{Object}
use Rattle.lists.specs.declared.Words.{Words}
use Rattle.lists.specs.declared.Shaped.{Shaped}
use Rattle.lists.specs.declared.Objects.{Objects}
use Rattle.lists.specs.declared.Reading.{Reading}
use Rattle.lists.specs.declared.Listing.{Listing}
use Rattle.lists.specs.Shape.{refusals_for, shape_refusals}
use Rattle.lists.specs.Reading.{no_objects}
use Rattle.lists.specs.Writing.{no_words, write_refusals}
use Rattle.rules.specs.declared.Profile.{Profile}
use Rattle.rules.specs.declared.Profiled.{Profiled}
use Rattle.rules.specs.Profiles.{no_profile, default_refusals, build_refusals}
use Rattle.rules.specs.Checking.{check_refusals}
use Rattle.requests.specs.Judging.{refusals_of}
use Rattle.requests.specs.Answering.{answer_refusals}
use Rattle.demands.specs.CallContracts.{ShapeForAnswers, ShapeAnswers, ReadableAnswers, FinishedAnswers, ReadAnswers, WriteAnswers, DefaultAnswers, BuildAnswers, CheckAnswers, AnswerAnswers, JudgeAnswers}

-- a verdict answers a table: success exactly when no row applies, and a row's number and place exactly when it is the first that applies
abbrev pub Answers : Verdict → List Refusal → Type 0
Answers v rs = (v ≡ success ↔ NoneApply rs) × ((n p : ℕ) → (n ≡ 0 → ⊥) → v ≡ verdict n p ↔ First rs n p)

-- ---- lists

abbrev pub ShapeForRefusals : Type 0
ShapeForRefusals = (side : Side) (l : Words) (r : Verdict) → ShapeForAnswers side l r → Answers r (refusals_for side l)

abbrev pub ShapeRefusals : Type 0
ShapeRefusals = (l : Words) (r : Verdict) → ShapeAnswers l r → Answers r (shape_refusals l)

-- how many words there are to read: none on a refusal
abbrev pub ReadableRefusals : Type 0
ReadableRefusals =
    (side : Side) (l : Words) (r : Shaped) → ReadableAnswers side l r
    → Answers r.verdict (refusals_for side l) × ((r.verdict ≡ success → ⊥) → r.count ≡ 0)

-- what was refused before stays, and else the shape of the words decides
abbrev pub FinishedRefusals : Type 0
FinishedRefusals =
    (side : Side) (m r : Listing) → FinishedAnswers side m r
    → (m.verdict.number ≡ 0 → Answers r.verdict (refusals_for side m.list) × ((r.verdict ≡ success → ⊥) → r.list ≡ no_words))
    × ((m.verdict.number ≡ 0 → ⊥) → r ≡ m)

-- reading refuses as the shape check does, and gives an empty list with it
abbrev pub ReadRefusals : Type 0
ReadRefusals =
    (l : Words) (r : Reading) → ReadAnswers l r
    → Answers r.verdict (shape_refusals l) × ((r.verdict ≡ success → ⊥) → r.list ≡ no_objects)

abbrev pub WriteRefusals : Type 0
WriteRefusals =
    (o : Objects) (r : Listing) → WriteAnswers o r
    → Answers r.verdict (write_refusals o) × ((r.verdict ≡ success → ⊥) → r.list ≡ no_words)

-- ---- rules

abbrev pub DefaultRefusals : Type 0
DefaultRefusals =
    (m : HalfWatts) (r : Profiled) → DefaultAnswers m r
    → Answers r.verdict (default_refusals m) × ((r.verdict ≡ success → ⊥) → r.profile ≡ no_profile)

abbrev pub BuildRefusals : Type 0
BuildRefusals =
    (p : Profile) (r : Listing) → BuildAnswers p r
    → Answers r.verdict (build_refusals p) × ((r.verdict ≡ success → ⊥) → r.list ≡ no_words)

abbrev pub CheckRefusals : Type 0
CheckRefusals = (p : Profile) (l : Words) (r : Verdict) → CheckAnswers p l r → Answers r (check_refusals p l)

-- ---- requests

abbrev pub AnswerRefusals : Type 0
AnswerRefusals = (l : Words) (w : ℕ) (r : Verdict) → AnswerAnswers l w r → Answers r (answer_refusals l w)

-- one object and no list: its rows alone
abbrev pub JudgeRefusals : Type 0
JudgeRefusals = (o : Object) (w : ℕ) (r : Verdict) → JudgeAnswers o w r → Answers r (refusals_of o w)
