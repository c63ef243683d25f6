-- `sinks::rating::checked` meets its contract: the rating, the shape, and then the figures.
-- Assumes nothing.
use Rattle.std.specs.Prelude.{Result, Ok, Err}
use mathlib.Core.Path.{ap, sym, ◌∙◌}
use mathlib.Core.List.{List}
use native.Mathlib.Omega.{arith}
use Rattle.std.proofs.lemmas.Result.{err_from_is_err_and}
use Rattle.verdicts.specs.declared.Verdict.{Verdict}
use Rattle.verdicts.specs.Refusals.{Refusal, err, passed_by, passed_of}
use Rattle.verdicts.proofs.First.{hit}
use Rattle.verdicts.proofs.Results.{went_on, stopped_as, stopped_not_0}
use Rattle.objects.specs.declared.Side.TheVariants.{Sink}
use Rattle.lists.proofs.Shapes.{none_of, count_high}
use Rattle.sinks.specs.SinkLists.{sink_shape_of}
use Rattle.sinks.proofs.Figures.{of_those}
use Rattle.sinks.proofs.Checks.{misshapen_so, figures_so}
use Rattle.sinks.proofs.rating.checked.Goals as goal

abbrev stop : Verdict → Result (Unit {0}) Verdict
stop v = Err v

pub returns-then-bad_rating : goal.returns-then-bad_rating
returns-then-bad_rating c = ap stop c.placeless.ensures ∙ sym (hit err (Ok tt) 1 0 _ (sym c.bad_rating.ensures ∙ c.if-bad_rating.true))

pub returns-in_err-passed : goal.returns-in_err-passed
returns-in_err-passed c =
    let l = c.args.list in
    let stopped = sym (c.in_err-passed.ensures ∙ ap passed_of c.shape_for.ensures) in
    let p = err_from_is_err_and c.from_residual.result c.from_residual.ensures.1 in
    rw (p.1, p.2)
    (ap stop (stopped_as (sink_shape_of l) stopped)
    ∙ sym (misshapen_so err (Ok tt) c.args.rating.0 l (sym c.bad_rating.ensures ∙ c.if-bad_rating.false) (stopped_not_0 (sink_shape_of l) stopped)))

pub returns : goal.returns
returns c =
    let l = c.args.list in
    let z = went_on (sink_shape_of l) (sym (c.in_ok-passed.ensures ∙ ap passed_of c.shape_for.ensures)) in
    let few = count_high l.count (none_of Sink l z).0 in
    c.judge_figures.ensures
    ∙ ap (λ (rs : List Refusal). passed_by rs) (of_those c.args.rating.0 l.words l.count (omega arith))
    ∙ sym (figures_so err (Ok tt) c.args.rating.0 l (sym c.bad_rating.ensures ∙ c.if-bad_rating.false) z)
