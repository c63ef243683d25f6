-- A read and the lines of its records leave what is to be printed as it was; at the end all of it is written.
-- Assumes nothing.
use Rattle.std.proofs.lemmas.Result.{on_ok_weaker}
use Rattle.caps.proofs.Turns.{keeps_trans, turn, less_than_a_record, last_turn}
use Rattle.caps.proofs.listing.list_all.Goals as goal

pub loop-preserved : goal.loop-preserved
loop-preserved g c =
    let listed = c.in_ok-list_held.ensures in
    record {
      few = less_than_a_record c.read.new.self _ listed.rest;
      same = keeps_trans _ _ _ c.loop.invariant.same (turn _ _ c.loop.input c.read.new.self _ _ c.in-Ok.ensures listed.lines listed.rest);
    }

pub returns-then-got-eq0 : goal.returns-then-got-eq0
returns-then-got-eq0 g c =
    on_ok_weaker
    c.finish.result
    (λ added. keeps_trans _ _ _ c.loop.invariant.same
    (last_turn c.loop.output _ c.loop.input c.read.new.self c.in-Ok.got _ c.loop.invariant.few c.in-Ok.ensures c.if-got-eq0.true c.records.ensures.unfinished added))
    c.finish.ensures
