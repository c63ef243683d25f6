-- `ports::seat::Seat::detached` meets its contract: the port in use, and its row emptied.
-- Assumes nothing.
use Rattle.std.proofs.Common.{Ok}
use mathlib.Core.Path.{sym, ap, ◌∙◌}
use mathlib.Core.List.{[]}
use Rattle.verdicts.specs.Refusals.{err}
use Rattle.verdicts.proofs.First.{all_missed}
use Rattle.ports.specs.Deciding.{use_end_refusals}
use Rattle.ports.proofs.Passed.{handed_on, went_past}
use Rattle.ports.proofs.seat.Seat.detached.Goals as goal

pub returns-in_err-left_in_use : goal.returns-in_err-left_in_use
returns-in_err-left_in_use c =
    let x = c.args.self in
    handed_on (use_end_refusals x.capacity.0 x.standing x.row x.port) [] _ _ c.from_residual.ensures.1 c.in_err-left_in_use.ensures

pub returns : goal.returns
returns c =
    let x = c.args.self in
    ap Ok c.emptied.ensures
    ∙ sym (went_past (use_end_refusals x.capacity.0 x.standing x.row x.port) [] _ _ c.in_ok-left_in_use.ensures ∙ all_missed err _ [] tt)
