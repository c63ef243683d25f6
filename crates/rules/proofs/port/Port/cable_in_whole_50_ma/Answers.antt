-- `rules::port::Port::cable_in_whole_50_ma` meets its contract: a fifth, rounded down.
-- Assumes nothing.
use mathlib.Core.Path.{sym}
use native.Mathlib.Omega.{arith}
use Rattle.steps.proofs.RoundingLaws.{down_is}
use Rattle.rules.proofs.port.Port.cable_in_whole_50_ma.Goals as goal

pub returns : goal.returns
returns c = sym (down_is _ 5 (omega arith))
