-- What a request taken apart becomes: each kind keeps its fields, and of a battery there is no quick request.
-- Assumes nothing.
use mathlib.Core.Path.{sym, ◌∙◌}
use Rattle.summaries.specs.Taking.{quick_of}
use Rattle.summaries.proofs.Takings.{quick_ok, quick_err}
use Rattle.summaries.proofs.taking.TakenRequestFromAsked.from.Goals as goal

pub returns-in-Ok : goal.returns-in-Ok
unfolding quick_of
returns-in-Ok c =
    let x = c.args.asked in
    sym (quick_ok x.position x.mismatch x.request _ (sym c.try_from.ensures ∙ c.in-Ok.is))

pub returns-in-Err : goal.returns-in-Err
unfolding quick_of
returns-in-Err c =
    let x = c.args.asked in
    sym (quick_err x.position x.mismatch x.request _ (sym c.try_from.ensures ∙ c.in-Err.is))
