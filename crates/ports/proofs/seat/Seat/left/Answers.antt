-- `ports::seat::Seat::left` meets its contract: the rows, then the port.
-- Assumes nothing.
use Rattle.std.proofs.Common.{rules, arith, Ok, Err}
use mathlib.Core.Path.{◌≡◌, sym, ap, ◌∙◌}
use mathlib.Core.Bool.{true, false, not}
use mathlib.Core.List.{[]}
use Rattle.verdicts.specs.Refusals.{err}
use Rattle.verdicts.proofs.First.{hit, miss, all_missed}
use Rattle.steps.specs.declared.HalfWatts.{HalfWatts}
use Rattle.steps.specs.Ranges.{within}
use Rattle.ports.specs.Refusing.{no_such_port}
use Rattle.ports.specs.Standing.{end_refusals}
use Rattle.ports.proofs.Passed.{handed_on, went_past, meant}
use Rattle.ports.proofs.seat.Seat.left.Goals as goal

pub returns-in_err-spare : goal.returns-in_err-spare
returns-in_err-spare c =
    let x = c.args.self in
    handed_on (end_refusals x.capacity.0 x.standing) (no_such_port x.standing.count x.port) _ _ c.from_residual.ensures.1 c.in_err-spare.ensures

pub returns-then-not-contains : goal.returns-then-not-contains
returns-then-not-contains c =
    let x = c.args.self in
    let outside : not (within 1 x.standing.count x.port) ≡ true = search rules in
    ap Err c.placeless.ensures
    ∙ sym (went_past (end_refusals x.capacity.0 x.standing) (no_such_port x.standing.count x.port) _ _ c.in_ok-spare.ensures
    ∙ hit err _ 33 0 _ outside)

pub returns : goal.returns
returns c =
    let x = c.args.self in
    let inside : not (within 1 x.standing.count x.port) ≡ false = search rules in
    sym (went_past (end_refusals x.capacity.0 x.standing) (no_such_port x.standing.count x.port) _ _ c.in_ok-spare.ensures
    ∙ miss err _ 33 0 _ inside
    ∙ all_missed err _ [] tt
    ∙ ap Ok (sym (omega (arith, ap (λ (h : HalfWatts). h.0) (meant (end_refusals x.capacity.0 x.standing) _ c.in_ok-spare.ensures)))))
