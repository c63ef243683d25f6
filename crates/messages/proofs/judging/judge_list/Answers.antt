-- `messages::judging::judge_list` meets its contract: the shape check's, or that there is no list.
-- Assumes nothing.
use mathlib.Core.Path.{ap, sym, ◌∙◌}
use Rattle.verdicts.specs.Refusals.{first_of, passed_by, passed_of}
use Rattle.verdicts.proofs.First.{telling_numbered}
use Rattle.verdicts.proofs.Results.{passed_first}
use Rattle.objects.specs.declared.Side.TheVariants.{Source}
use Rattle.lists.specs.Shape.{shape_refusals}
use Rattle.lists.proofs.Shapes.{shape_verdict, shape_numbered}
use Rattle.messages.specs.Refusing.{list_in}
use Rattle.messages.proofs.Refusals.{no_list, a_list}
use Rattle.messages.proofs.judging.judge_list.Goals as goal

pub returns-then-header-ne-SOURCE_CAPABILITIES : goal.returns-then-header-ne-SOURCE_CAPABILITIES
unfolding first_of
returns-then-header-ne-SOURCE_CAPABILITIES c =
    let m = c.args.message in
    sym (ap passed_by (no_list m c.if-header-ne-SOURCE_CAPABILITIES.true))

pub returns : goal.returns
returns c =
    let m = c.args.message in
    let l = list_in m in
    c.passed.ensures
    ∙ ap passed_of (c.shape.ensures ∙ shape_verdict Source l)
    ∙ passed_first (shape_refusals l) (telling_numbered (shape_refusals l) (shape_numbered Source l))
    ∙ sym (ap passed_by (a_list m c.if-header-ne-SOURCE_CAPABILITIES.false))
