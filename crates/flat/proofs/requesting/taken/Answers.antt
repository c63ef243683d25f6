-- `flat::requesting::taken` meets its contract: each of the answers by itself.
-- Assumes nothing.
use Rattle.std.specs.Prelude.{Ok}
use Rattle.std.proofs.lemmas.Result.{err_from_is_err_and}
use mathlib.Core.Path.{ap, sym, ◌∙◌}
use Rattle.flat.specs.Requesting.{taken_as, flat_taken_by, flat_taken_of}
use Rattle.flat.proofs.requesting.taken.Goals as goal

pub returns-in_err-position : goal.returns-in_err-position
unfolding flat_taken_of
returns-in_err-position c =
    let p = err_from_is_err_and c.from_residual.result c.from_residual.ensures.1 in
    rw (p.1, p.2) (ap flat_taken_by (sym c.in_err-position.was ∙ c.take_request.ensures))

pub returns-in-Battery : goal.returns-in-Battery
unfolding flat_taken_of
returns-in-Battery c =
    ap taken_as c.flatten_battery.ensures ∙ ap flat_taken_by (sym (c.in_ok-position.was ∙ ap Ok c.in-Battery.is) ∙ c.take_request.ensures)

pub returns-in-Quick : goal.returns-in-Quick
unfolding flat_taken_of
returns-in-Quick c = ap taken_as c.from.ensures ∙ ap flat_taken_by (sym (c.in_ok-position.was ∙ ap Ok c.in-Quick.is) ∙ c.take_request.ensures)
