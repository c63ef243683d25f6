-- `lists::shape` meets its contract: the verdict that the judgement tells.
-- Assumes nothing.
use mathlib.Core.Path.{ap, sym, ◌∙◌}
use Rattle.verdicts.specs.Refusals.{told}
use Rattle.verdicts.proofs.Results.{told_by}
use Rattle.objects.specs.declared.Side.TheVariants.{Source}
use Rattle.lists.proofs.Shapes.{shape_verdict}
use Rattle.lists.proofs.shape_check.shape.Goals as goal

pub returns : goal.returns
returns c = c.from.ensures ∙ ap told c.judge_list.ensures ∙ told_by _ ∙ sym (shape_verdict Source c.args.list)
