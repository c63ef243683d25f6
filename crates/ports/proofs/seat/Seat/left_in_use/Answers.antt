-- `ports::seat::Seat::left_in_use` meets its contract: the port, then whether it is attached.
-- Assumes nothing.
use Rattle.ports.specs.Refusing.{not_attached}
use Rattle.ports.specs.Standing.{port_end_refusals}
use Rattle.ports.proofs.Passed.{handed_on}
use Rattle.ports.proofs.seat.Seat.left_in_use.Goals as goal

pub returns-in_err-left : goal.returns-in_err-left
returns-in_err-left c =
    let x = c.args.self in
    handed_on (port_end_refusals x.capacity.0 x.standing x.port) (not_attached x.row x.port) _ _ c.from_residual.ensures.1 c.in_err-left.ensures
