-- `board::sharing::arin_remaining` meets its contract: what is left by value is what is answered.
-- Assumes nothing.
use mathlib.Core.Path.{ap, ◌∙◌}
use Rattle.ports.specs.declared.Standing.{Standing}
use Rattle.ports.specs.Deciding.{power_left}
use Rattle.ports.proofs.Said.{remaining_said}
use Rattle.board.proofs.sharing.arin_remaining.Goals as goal

pub returns : goal.returns
returns c =
    c.remaining.ensures
    ∙ ap (λ (s : Standing). power_left c.args.capacity s) c.stand-standing.ensures
    ∙ remaining_said c.args.rows.now c.args.capacity
