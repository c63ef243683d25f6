-- Places past the count are not read, by the calls over sink lists: two lists that agree up to their count get the same answer
-- (docs/STATEMENT.md, "Lists in hand"). Each claim is proved by the theorem of its name in small letters in proofs/SinkUnread.antt.
-- Assumes nothing.
use Rattle.std.specs.Prelude.{◌≡◌, ℕ}
use Rattle.verdicts.specs.declared.Verdict.{Verdict}
use Rattle.steps.specs.declared.HalfWatts.{HalfWatts}
use Rattle.lists.specs.declared.Words.{Words}
use Rattle.lists.specs.declared.Listing.{Listing}
use Rattle.lists.specs.Unread.{AgreeWords}
use Rattle.sinks.specs.declared.SinkObjects.{SinkObjects}
use Rattle.sinks.specs.declared.SinkReading.{SinkReading}
use Rattle.sinks.specs.Kept.{AgreeSinks}
use Rattle.flat.specs.declared.FlatObjects.{FlatObjects}
use Rattle.flat.specs.declared.FlatReading.{FlatReading}
use Rattle.flat.specs.Unread.{AgreeFlat}
use Rattle.demands.specs.SinkContracts.{SinkShapeAnswers, SinkReadAnswers, SinkWriteAnswers, SinkCheckAnswers, ArinSinkShapeAnswers, ArinSinkReadAnswers, ArinSinkWriteAnswers, ArinSinkCheckAnswers}

-- ---- sinks

abbrev pub SinkShapeDoesNotLook : Type 0
SinkShapeDoesNotLook = (l m : Words) → AgreeWords l m → (r s : Verdict) → SinkShapeAnswers l r → SinkShapeAnswers m s → r ≡ s

abbrev pub SinkReadDoesNotLook : Type 0
SinkReadDoesNotLook = (l m : Words) → AgreeWords l m → (r s : SinkReading) → SinkReadAnswers l r → SinkReadAnswers m s → r ≡ s

abbrev pub SinkWriteDoesNotLook : Type 0
SinkWriteDoesNotLook = (o q : SinkObjects) → AgreeSinks o q → (r s : Listing) → SinkWriteAnswers o r → SinkWriteAnswers q s → r ≡ s

abbrev pub SinkCheckDoesNotLook : Type 0
SinkCheckDoesNotLook =
    (rating : HalfWatts) (l m : Words) → AgreeWords l m → (r s : Verdict) → SinkCheckAnswers rating l r → SinkCheckAnswers rating m s → r ≡ s

-- ---- board

abbrev pub ArinSinkShapeDoesNotLook : Type 0
ArinSinkShapeDoesNotLook = (l m : Words) → AgreeWords l m → (r s : Verdict) → ArinSinkShapeAnswers l r → ArinSinkShapeAnswers m s → r ≡ s

abbrev pub ArinSinkReadDoesNotLook : Type 0
ArinSinkReadDoesNotLook = (l m : Words) → AgreeWords l m → (r s : FlatReading) → ArinSinkReadAnswers l r → ArinSinkReadAnswers m s → r ≡ s

abbrev pub ArinSinkWriteDoesNotLook : Type 0
ArinSinkWriteDoesNotLook = (f g : FlatObjects) → AgreeFlat f g → (r s : Listing) → ArinSinkWriteAnswers f r → ArinSinkWriteAnswers g s → r ≡ s

abbrev pub ArinSinkCheckDoesNotLook : Type 0
ArinSinkCheckDoesNotLook =
    (rating : ℕ) (l m : Words) → AgreeWords l m → (r s : Verdict) → ArinSinkCheckAnswers rating l r → ArinSinkCheckAnswers rating m s → r ≡ s
