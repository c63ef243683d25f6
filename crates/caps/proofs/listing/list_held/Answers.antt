-- Each turn adds the line of its record.
-- Assumes nothing.
use Rattle.std.proofs.Common.{◌≡◌, arith, subst, List, length, ℕ, ◌/◌}
use Rattle.printed.specs.Printed.{record_lines}
use Rattle.caps.specs.Printing.{Adds}
use Rattle.caps.proofs.Adding.{next_record}
use Rattle.caps.proofs.Printing.{record_of_chunk}
use Rattle.caps.proofs.listing.list_held.Goals as goal

pub loop-bytes-preserved : goal.loop-bytes-preserved
loop-bytes-preserved g c =
    let held : List ℕ = c.args.input.now.held in
    let i : ℕ = c.loop-bytes.bytes-index in
    let line = record_of_chunk (length held / 8) held i _ (omega arith) c.records.ensures.whole in
    next_record _ _ _ _ held i _ c.loop-bytes.invariant c.in_ok-make_room.ensures.same c.put_record.ensures line

pub returns-clause-lines : goal.returns-clause-lines
returns-clause-lines g c =
    let all : c.loop-bytes.bytes-index ≡ length c.args.input.now.held / 8 = omega arith in
    subst (λ (n : ℕ). Adds c.args.output.now c.loop-bytes.output (record_lines c.args.input.now.held n)) all c.loop-bytes.invariant
