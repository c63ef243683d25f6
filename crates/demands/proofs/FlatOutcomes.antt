-- Proves the claims of specs/FlatOutcomes.antt.
-- Assumes nothing.
use mathlib.Core.Path.{sym, ◌∙◌}
use Rattle.objects.specs.declared.Side.{Side}
use Rattle.lists.specs.declared.Words.{Words}
use Rattle.rules.specs.declared.Profile.{Profile}
use Rattle.flat.proofs.Saying.{raised_one}
use Rattle.demands.specs.OneOutcome.{Settled}
use Rattle.demands.specs.FlatOutcomes.{NoSecondFlatOutcome}
use Rattle.demands.specs.FlatContracts.{FlatReadForAnswers, FlatWriteForAnswers, FlattenAnswers, RaiseAnswers, FlatReadAnswers, FlatWriteAnswers}
use Rattle.demands.specs.FlatContracts.{FlatReadForAnswers, FlatWriteForAnswers, ArinDefaultAnswers, ArinBuildAnswers, ArinCheckAnswers, ArinShapeAnswers, ArinReadAnswers, ArinWriteAnswers, ArinAnswerAnswers}

-- ---- flat

pub flatten_settles : Settled FlattenAnswers
flatten_settles o r s e f = e ∙ sym f

pub raise_settles : Settled RaiseAnswers
raise_settles x r s e f = raised_one r s (e ∙ sym f)

pub flat_read_for_settles : (side : Side) → Settled (FlatReadForAnswers side)
flat_read_for_settles side l r s e f = e ∙ sym f

pub flat_read_settles : Settled FlatReadAnswers
flat_read_settles l r s e f = e ∙ sym f

pub flat_write_for_settles : (side : Side) → Settled (FlatWriteForAnswers side)
flat_write_for_settles side o r s e f = e ∙ sym f

pub flat_write_settles : Settled FlatWriteAnswers
flat_write_settles o r s e f = e ∙ sym f

-- ---- board, lists and requests

pub arin_default_settles : Settled ArinDefaultAnswers
arin_default_settles m r s e f = e ∙ sym f

pub arin_build_settles : Settled ArinBuildAnswers
arin_build_settles p r s e f = e ∙ sym f

pub arin_check_settles : (p : Profile) → Settled (ArinCheckAnswers p)
arin_check_settles p l r s e f = e ∙ sym f

pub arin_shape_settles : Settled ArinShapeAnswers
arin_shape_settles l r s e f = e ∙ sym f

pub arin_read_settles : Settled ArinReadAnswers
arin_read_settles l r s e f = e ∙ sym f

pub arin_write_settles : Settled ArinWriteAnswers
arin_write_settles o r s e f = e ∙ sym f

pub arin_answer_settles : (l : Words) → Settled (ArinAnswerAnswers l)
arin_answer_settles l w r s e f = e ∙ sym f

-- ---- all of them

pub no_second_flat_outcome : NoSecondFlatOutcome
no_second_flat_outcome = record {
  flatten = flatten_settles;
  raise = raise_settles;
  flat_read_for = flat_read_for_settles;
  flat_read = flat_read_settles;
  flat_write_for = flat_write_for_settles;
  flat_write = flat_write_settles;
  arin_default = arin_default_settles;
  arin_build = arin_build_settles;
  arin_check = arin_check_settles;
  arin_shape = arin_shape_settles;
  arin_read = arin_read_settles;
  arin_write = arin_write_settles;
  arin_answer = arin_answer_settles;
}
