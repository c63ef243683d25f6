-- The bytes of an unfinished record stand at the start of the block.
-- Assumes nothing.
use Rattle.std.proofs.Common.{arith}
use Rattle.caps.proofs.Reading.{unfinished}
use Rattle.caps.proofs.input.Input.keep_unfinished.Goals as goal

pub returns : goal.returns
returns g c = unfinished _ c.self.inside.block c.self.inside.held _ _ (omega arith) c.copy_within.ensures.after c.self.view_is
