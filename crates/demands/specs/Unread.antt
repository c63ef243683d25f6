-- Places past the count are not read: two lists that agree up to their count get the same answer, whatever stands past it. This holds for
-- every call that takes a list (docs/STATEMENT.md, "Lists in hand"). Each claim is proved by the theorem of its name in small letters
-- (`shape_does_not_look` is `ShapeDoesNotLook`) in proofs/Unread.antt.
-- `AgreeWords` and `AgreeObjects` (lists, specs/Unread): the same count, and the same up to it. There a list is looked up from 0 on: its first word is
-- `get_or l.words 0 0`, and those below the count are its words.
-- Assumes nothing.
use Rattle.std.specs.Prelude.{◌≡◌, ℕ}
use Rattle.verdicts.specs.declared.Verdict.{Verdict}
use Rattle.objects.specs.declared.Side.{Side}
use Rattle.lists.specs.declared.Words.{Words}
use Rattle.lists.specs.declared.Shaped.{Shaped}
use Rattle.lists.specs.declared.Objects.{Objects}
use Rattle.lists.specs.declared.Reading.{Reading}
use Rattle.lists.specs.declared.Listing.{Listing}
use Rattle.lists.specs.Unread.{AgreeWords, AgreeObjects}
use Rattle.rules.specs.declared.Profile.{Profile}
use Rattle.demands.specs.CallContracts.{ShapeForAnswers, ReadableAnswers, ShapeAnswers, ReadAnswers, WriteAnswers, CheckAnswers, AnswerAnswers}

abbrev pub ShapeForDoesNotLook : Type 0
ShapeForDoesNotLook = (side : Side) (l m : Words) → AgreeWords l m → (r s : Verdict) → ShapeForAnswers side l r → ShapeForAnswers side m s → r ≡ s

abbrev pub ShapeDoesNotLook : Type 0
ShapeDoesNotLook = (l m : Words) → AgreeWords l m → (r s : Verdict) → ShapeAnswers l r → ShapeAnswers m s → r ≡ s

abbrev pub ReadableDoesNotLook : Type 0
ReadableDoesNotLook = (side : Side) (l m : Words) → AgreeWords l m → (r s : Shaped) → ReadableAnswers side l r → ReadableAnswers side m s → r ≡ s

abbrev pub ReadDoesNotLook : Type 0
ReadDoesNotLook = (l m : Words) → AgreeWords l m → (r s : Reading) → ReadAnswers l r → ReadAnswers m s → r ≡ s

abbrev pub WriteDoesNotLook : Type 0
WriteDoesNotLook = (o q : Objects) → AgreeObjects o q → (r s : Listing) → WriteAnswers o r → WriteAnswers q s → r ≡ s

abbrev pub CheckDoesNotLook : Type 0
CheckDoesNotLook = (p : Profile) (l m : Words) → AgreeWords l m → (r s : Verdict) → CheckAnswers p l r → CheckAnswers p m s → r ≡ s

abbrev pub AnswerDoesNotLook : Type 0
AnswerDoesNotLook = (w : ℕ) (l m : Words) → AgreeWords l m → (r s : Verdict) → AnswerAnswers l w r → AnswerAnswers m w s → r ≡ s
