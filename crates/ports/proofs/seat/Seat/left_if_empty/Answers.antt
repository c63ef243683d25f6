-- `ports::seat::Seat::left_if_empty` meets its contract: the port, the cable, then whether it is in use.
-- Assumes nothing.
use Rattle.std.proofs.Common.{Ok, Err}
use mathlib.Core.Path.{sym, ap, ◌∙◌}
use mathlib.Core.Bool.{not}
use mathlib.Core.List.{[]}
use borrow.Author.Tests.{eq-eqb, ne_eqb}
use Rattle.verdicts.specs.Refusals.{err}
use Rattle.verdicts.proofs.First.{hit, miss, all_missed}
use Rattle.ports.specs.Refusing.{cannot_attach}
use Rattle.ports.specs.Standing.{port_end_refusals}
use Rattle.ports.proofs.Passed.{handed_on, went_past, meant}
use Rattle.ports.proofs.seat.Seat.left_if_empty.Goals as goal

pub returns-in_err-left : goal.returns-in_err-left
returns-in_err-left c =
    let x = c.args.self in
    handed_on (port_end_refusals x.capacity.0 x.standing x.port) (cannot_attach x.row x.port c.args.cable.0) _ _
    c.from_residual.ensures.1 c.in_err-left.ensures

pub returns-then-bad_cable : goal.returns-then-bad_cable
returns-then-bad_cable c =
    let x = c.args.self in
    ap Err c.placeless.ensures
    ∙ sym (went_past (port_end_refusals x.capacity.0 x.standing x.port) (cannot_attach x.row x.port c.args.cable.0) _ _ c.in_ok-left.ensures
    ∙ hit err _ 3 0 _ (sym c.bad_cable.ensures ∙ c.if-bad_cable.true))

pub returns-then-self-ne0 : goal.returns-then-self-ne0
returns-then-self-ne0 c =
    let x = c.args.self in
    ap Err c.at.ensures
    ∙ sym (went_past (port_end_refusals x.capacity.0 x.standing x.port) (cannot_attach x.row x.port c.args.cable.0) _ _ c.in_ok-left.ensures
    ∙ miss err _ 3 0 _ (sym c.bad_cable.ensures ∙ c.if-bad_cable.false)
    ∙ hit err _ 34 x.port _ (ap not (ne_eqb x.row.cable.0 0 c.if-self-ne0.true)))

pub returns : goal.returns
returns c =
    let x = c.args.self in
    ap Ok (meant (port_end_refusals x.capacity.0 x.standing x.port) _ c.in_ok-left.ensures)
    ∙ sym (went_past (port_end_refusals x.capacity.0 x.standing x.port) (cannot_attach x.row x.port c.args.cable.0) _ _ c.in_ok-left.ensures
    ∙ miss err _ 3 0 _ (sym c.bad_cable.ensures ∙ c.if-bad_cable.false)
    ∙ miss err _ 34 x.port _ (ap not (eq-eqb x.row.cable.0 0 c.if-self-ne0.false))
    ∙ all_missed err _ [] tt)
