-- `ports::seat::Seat::advertised` meets its contract: the port in use, and its row offered anew.
-- Assumes nothing.
use Rattle.std.proofs.Common.{Ok}
use mathlib.Core.Path.{sym, ap, ◌∙◌}
use mathlib.Core.List.{[]}
use Prim.Native.Nat.{ℕ, min}
use Rattle.verdicts.specs.Refusals.{err}
use Rattle.verdicts.proofs.First.{all_missed}
use Rattle.ports.specs.Rows.{offering}
use Rattle.ports.specs.Deciding.{use_end_refusals}
use Rattle.ports.proofs.Passed.{handed_on, went_past, meant}
use Rattle.ports.proofs.seat.Seat.advertised.Goals as goal

pub returns-in_err-left : goal.returns-in_err-left
returns-in_err-left c =
    let x = c.args.self in
    handed_on (use_end_refusals x.capacity.0 x.standing x.row x.port) [] _ _ c.from_residual.ensures.1 c.in_err-left.ensures

pub returns : goal.returns
returns c =
    let x = c.args.self in
    let left = meant (use_end_refusals x.capacity.0 x.standing x.row x.port) _ c.in_ok-left.ensures in
    ap Ok (c.offered.ensures ∙ ap (λ (n : ℕ). offering x.row (min x.row.max.0 n) x.row.cable.0) left)
    ∙ sym (went_past (use_end_refusals x.capacity.0 x.standing x.row x.port) [] _ _ c.in_ok-left.ensures ∙ all_missed err _ [] tt)
