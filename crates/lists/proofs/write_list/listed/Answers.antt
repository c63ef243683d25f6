-- `lists::listed` meets its contract: the shape of the words decides.
-- Assumes nothing.
use Rattle.std.specs.Prelude.{Ok, Err}
use Rattle.std.proofs.lemmas.Result.{err_from_is_err_and}
use mathlib.Core.Path.{ap, sym, ◌∙◌}
use Rattle.verdicts.specs.Refusals.{passed_of, err}
use Rattle.verdicts.proofs.Results.{went_on, stopped_as, stopped_not_0}
use Rattle.lists.specs.Shape.{shape_for}
use Rattle.lists.specs.Making.{listed_as}
use Rattle.lists.proofs.Shapes.{as_shape_refused, as_shape_passes}
use Rattle.lists.proofs.write_list.listed.Goals as goal

pub returns-in_err-passed : goal.returns-in_err-passed
unfolding listed_as
returns-in_err-passed c =
    let a = c.args in
    let out = err_from_is_err_and c.from_residual.result c.from_residual.ensures.1 in
    let stopped = sym (c.passed.ensures ∙ ap passed_of c.shape_for.ensures) ∙ c.in_err-passed.was in
    out.1 ∙ ap Err (out.2 ∙ stopped_as _ stopped)
    ∙ sym (as_shape_refused err a.side a.list (Ok a.list) (stopped_not_0 (shape_for a.side a.list) stopped))

pub returns : goal.returns
unfolding listed_as
returns c =
    let a = c.args in
    sym (as_shape_passes err a.side a.list (Ok a.list) (went_on (shape_for a.side a.list) (sym (c.passed.ensures ∙ ap passed_of c.shape_for.ensures) ∙ c.in_ok-passed.was)))
