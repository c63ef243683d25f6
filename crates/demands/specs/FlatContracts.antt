-- The contract of each call over flat objects, the form in which C takes objects, and of each call on lists under its C name. As in
-- CallContracts each name is the clause of the source itself. Nothing is claimed here.
-- Assumes nothing.
use Rattle.std.specs.Prelude.{ℕ, Option}
use Rattle.verdicts.specs.declared.Verdict.{Verdict}
use Rattle.objects.specs.declared.Side.{Side}
use Rattle.objects.specs.declared.Object.{Object}
use Rattle.lists.specs.declared.Words.{Words}
use Rattle.lists.specs.declared.Listing.{Listing}
use Rattle.rules.specs.declared.Profile.{Profile}
use Rattle.rules.specs.declared.Profiled.{Profiled}
use Rattle.flat.specs.declared.FlatObject.{FlatObject}
use Rattle.flat.specs.declared.FlatObjects.{FlatObjects}
use Rattle.flat.specs.declared.FlatReading.{FlatReading}
use Rattle.flat.proofs.flatten.Reads as flatten
use Rattle.flat.proofs.raise.Reads as raise
use Rattle.flat.proofs.flat_read_for.Reads as flat_read_for
use Rattle.flat.proofs.flat_read.Reads as flat_read
use Rattle.flat.proofs.flat_write_for.Reads as flat_write_for
use Rattle.flat.proofs.flat_write.Reads as flat_write
use Rattle.board.proofs.arin_default_profile.Reads as arin_default_profile
use Rattle.board.proofs.arin_build.Reads as arin_build
use Rattle.board.proofs.arin_check.Reads as arin_check
use Rattle.board.proofs.arin_shape.Reads as arin_shape
use Rattle.board.proofs.arin_read.Reads as arin_read
use Rattle.board.proofs.arin_write.Reads as arin_write
use Rattle.board.proofs.arin_answer.Reads as arin_answer

-- ---- flat

abbrev pub FlattenAnswers : Object → FlatObject → Type 0
FlattenAnswers o r = flatten.Post tt (o, tt) r (o, tt)

abbrev pub RaiseAnswers : FlatObject → Option Object → Type 0
RaiseAnswers x r = raise.Post tt (x, tt) r (x, tt)

abbrev pub FlatReadForAnswers : Side → Words → FlatReading → Type 0
FlatReadForAnswers side l r = flat_read_for.Post tt (side, (l, tt)) r (side, (l, tt))

abbrev pub FlatReadAnswers : Words → FlatReading → Type 0
FlatReadAnswers l r = flat_read.Post tt (l, tt) r (l, tt)

abbrev pub FlatWriteForAnswers : Side → FlatObjects → Listing → Type 0
FlatWriteForAnswers side f r = flat_write_for.Post tt (side, (f, tt)) r (side, (f, tt))

abbrev pub FlatWriteAnswers : FlatObjects → Listing → Type 0
FlatWriteAnswers f r = flat_write.Post tt (f, tt) r (f, tt)

-- ---- board, lists and requests

abbrev pub ArinDefaultAnswers : ℕ → Profiled → Type 0
ArinDefaultAnswers m r = arin_default_profile.Post tt (m, tt) r (m, tt)

abbrev pub ArinBuildAnswers : Profile → Listing → Type 0
ArinBuildAnswers p r = arin_build.Post tt (p, tt) r (p, tt)

abbrev pub ArinCheckAnswers : Profile → Words → Verdict → Type 0
ArinCheckAnswers p l r = arin_check.Post tt (p, (l, tt)) r (p, (l, tt))

abbrev pub ArinShapeAnswers : Words → Verdict → Type 0
ArinShapeAnswers l r = arin_shape.Post tt (l, tt) r (l, tt)

abbrev pub ArinReadAnswers : Words → FlatReading → Type 0
ArinReadAnswers l r = arin_read.Post tt (l, tt) r (l, tt)

abbrev pub ArinWriteAnswers : FlatObjects → Listing → Type 0
ArinWriteAnswers f r = arin_write.Post tt (f, tt) r (f, tt)

abbrev pub ArinAnswerAnswers : Words → ℕ → Verdict → Type 0
ArinAnswerAnswers l w r = arin_answer.Post tt (l, (w, tt)) r (l, (w, tt))
