-- `lists::readable` meets its contract: the shape of the words decides.
-- Assumes nothing.
use mathlib.Core.Path.{ap, sym, ◌∙◌}
use Rattle.verdicts.specs.declared.Verdict.{Verdict}
use Rattle.verdicts.specs.Refusals.{passed_of}
use Rattle.verdicts.proofs.Results.{went_on, stopped_as, stopped_not_0}
use Rattle.lists.specs.declared.Shaped.{Shaped}
use Rattle.lists.specs.Shape.{shape_for}
use Rattle.lists.proofs.Shapes.{shaped_refused_lem, shaped_passes}
use Rattle.lists.proofs.shape_check.readable.Goals as goal

abbrev none_to_read : Verdict → Shaped
none_to_read v = record { verdict = v; count = 0 }

pub returns-in-Ok : goal.returns-in-Ok
returns-in-Ok c =
    let a = c.args in
    sym (shaped_passes a.side a.list
    (went_on (shape_for a.side a.list) (sym (c.passed.ensures ∙ ap passed_of c.shape_for.ensures) ∙ c.in-Ok.is)))

pub returns-in-Err : goal.returns-in-Err
returns-in-Err c =
    let a = c.args in
    let stopped = sym (c.passed.ensures ∙ ap passed_of c.shape_for.ensures) ∙ c.in-Err.is in
    ap none_to_read (stopped_as (shape_for a.side a.list) stopped)
    ∙ sym (shaped_refused_lem a.side a.list (stopped_not_0 (shape_for a.side a.list) stopped))
