-- Less than a record is held between turns, and what is to be printed stays the same.
-- Assumes nothing.
use Rattle.std.proofs.Common.{◌<◌, length}
use Rattle.std.specs.Io.KnownBytes.{Keeps}
use Rattle.caps.specs.Printing.{made, unlisted, output_of}
use Rattle.caps.proofs.listing.list_all.Given as goal

abbrev pub invariant-loop : goal.invariant-loop
invariant-loop g l =
    record {
      few : length l.input.held < 8;
      same : Keeps (output_of (made l.fn.output) (unlisted l.fn.input)) (output_of (made l.output) (unlisted l.input));
    }
