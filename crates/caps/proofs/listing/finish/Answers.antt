-- The end line is put, and everything is written.
-- Assumes nothing.
use Rattle.caps.proofs.Adding.{on_ok_both, last_line}
use Rattle.caps.proofs.listing.finish.Goals as goal

pub returns : goal.returns
returns g c =
    on_ok_both
    c.flush.result
    (λ none same. last_line c.args.output.now c.make_room.new.self c.put_end.new.self c.flush.new.self _ c.in_ok-make_room.ensures.same c.put_end.ensures same none)
    c.flush.ensures.nothing_waits
    c.flush.ensures.same
