-- No second outcome, for the calls over flat objects and the calls on lists under C names: for every input the contract allows one answer only.
-- `NoSecondFlatOutcome` has a line for each of them, by its name or short for it. Each line is proved by the theorem of its name,
-- `flatten_settles` for `flatten`, and all together by `no_second_flat_outcome`, in proofs/FlatOutcomes.antt (docs/STATEMENT.md, "What the
-- contracts settle").
-- Assumes nothing.
use Rattle.objects.specs.declared.Side.{Side}
use Rattle.lists.specs.declared.Words.{Words}
use Rattle.rules.specs.declared.Profile.{Profile}
use Rattle.demands.specs.OneOutcome.{Settled}
use Rattle.demands.specs.FlatContracts.{FlatReadForAnswers, FlatWriteForAnswers, FlattenAnswers, RaiseAnswers, FlatReadAnswers, FlatWriteAnswers}
use Rattle.demands.specs.FlatContracts.{FlatReadForAnswers, FlatWriteForAnswers, ArinDefaultAnswers, ArinBuildAnswers, ArinCheckAnswers, ArinShapeAnswers, ArinReadAnswers, ArinWriteAnswers, ArinAnswerAnswers}

pub record NoSecondFlatOutcome : Type 0 where
  -- flat
  pub flatten : Settled FlattenAnswers
  pub raise : Settled RaiseAnswers
  pub flat_read_for : (side : Side) → Settled (FlatReadForAnswers side)
  pub flat_read : Settled FlatReadAnswers
  pub flat_write_for : (side : Side) → Settled (FlatWriteForAnswers side)
  pub flat_write : Settled FlatWriteAnswers
  -- board, lists and requests
  pub arin_default : Settled ArinDefaultAnswers
  pub arin_build : Settled ArinBuildAnswers
  pub arin_check : (p : Profile) → Settled (ArinCheckAnswers p)
  pub arin_shape : Settled ArinShapeAnswers
  pub arin_read : Settled ArinReadAnswers
  pub arin_write : Settled ArinWriteAnswers
  pub arin_answer : (l : Words) → Settled (ArinAnswerAnswers l)
