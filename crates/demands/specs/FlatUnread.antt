-- Places past the count are not read, by the calls over flat objects and the calls under C names: two lists that agree up to their count get
-- the same answer (docs/STATEMENT.md, "Lists in hand"). For rows, of which more than eight are refused, see ManyRows. Each claim is proved by
-- the theorem of its name in small letters in proofs/FlatUnread.antt.
-- Assumes nothing.
use Rattle.std.specs.Prelude.{◌≡◌, ℕ}
use Rattle.objects.specs.declared.Side.{Side}
use Rattle.verdicts.specs.declared.Verdict.{Verdict}
use Rattle.lists.specs.declared.Words.{Words}
use Rattle.lists.specs.declared.Listing.{Listing}
use Rattle.lists.specs.Unread.{AgreeWords}
use Rattle.rules.specs.declared.Profile.{Profile}
use Rattle.flat.specs.declared.FlatObjects.{FlatObjects}
use Rattle.flat.specs.declared.FlatReading.{FlatReading}
use Rattle.flat.specs.Unread.{AgreeFlat}
use Rattle.demands.specs.FlatContracts.{FlatReadForAnswers, FlatWriteForAnswers, FlatReadAnswers, FlatWriteAnswers}
use Rattle.demands.specs.FlatContracts.{FlatReadForAnswers, FlatWriteForAnswers, ArinCheckAnswers, ArinShapeAnswers, ArinReadAnswers, ArinWriteAnswers, ArinAnswerAnswers}

-- ---- flat

abbrev pub FlatReadForDoesNotLook : Type 0
FlatReadForDoesNotLook =
    (side : Side) (l m : Words) → AgreeWords l m → (r s : FlatReading) → FlatReadForAnswers side l r → FlatReadForAnswers side m s → r ≡ s

abbrev pub FlatReadDoesNotLook : Type 0
FlatReadDoesNotLook = (l m : Words) → AgreeWords l m → (r s : FlatReading) → FlatReadAnswers l r → FlatReadAnswers m s → r ≡ s

abbrev pub FlatWriteForDoesNotLook : Type 0
FlatWriteForDoesNotLook =
    (side : Side) (f g : FlatObjects) → AgreeFlat f g → (r s : Listing) → FlatWriteForAnswers side f r → FlatWriteForAnswers side g s → r ≡ s

abbrev pub FlatWriteDoesNotLook : Type 0
FlatWriteDoesNotLook = (f g : FlatObjects) → AgreeFlat f g → (r s : Listing) → FlatWriteAnswers f r → FlatWriteAnswers g s → r ≡ s

-- ---- board, lists and requests

abbrev pub ArinShapeDoesNotLook : Type 0
ArinShapeDoesNotLook = (l m : Words) → AgreeWords l m → (r s : Verdict) → ArinShapeAnswers l r → ArinShapeAnswers m s → r ≡ s

abbrev pub ArinReadDoesNotLook : Type 0
ArinReadDoesNotLook = (l m : Words) → AgreeWords l m → (r s : FlatReading) → ArinReadAnswers l r → ArinReadAnswers m s → r ≡ s

abbrev pub ArinWriteDoesNotLook : Type 0
ArinWriteDoesNotLook = (f g : FlatObjects) → AgreeFlat f g → (r s : Listing) → ArinWriteAnswers f r → ArinWriteAnswers g s → r ≡ s

abbrev pub ArinCheckDoesNotLook : Type 0
ArinCheckDoesNotLook =
    (p : Profile) (l m : Words) → AgreeWords l m → (r s : Verdict) → ArinCheckAnswers p l r → ArinCheckAnswers p m s → r ≡ s

abbrev pub ArinAnswerDoesNotLook : Type 0
ArinAnswerDoesNotLook =
    (w : ℕ) (l m : Words) → AgreeWords l m → (r s : Verdict) → ArinAnswerAnswers l w r → ArinAnswerAnswers m w s → r ≡ s
