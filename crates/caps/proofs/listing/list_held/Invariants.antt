-- The lines of the records that are passed are added.
-- Assumes nothing.
use Rattle.printed.specs.Printed.{record_lines}
use Rattle.caps.specs.Printing.{Adds}
use Rattle.caps.proofs.listing.list_held.Given as goal

abbrev pub invariant-loop-bytes : goal.invariant-loop-bytes
invariant-loop-bytes g l = Adds l.initial.output l.output (record_lines l.fn.input.held l.bytes-index)
