-- `lists::shape_check::judge_words` meets its contract: the invariant is that no row of a word passed applies, and which object came last.
-- Assumes nothing.
use Rattle.verdicts.specs.Refusals.{each_place, NoneApply}
use Rattle.lists.specs.Shape.{word_rows}
use Rattle.lists.specs.Scanning.{place_at}
use Rattle.lists.proofs.Judging.{Before}
use Rattle.lists.proofs.Orders.{rank_at}
use Rattle.lists.proofs.Scanning.{Alone}
use Rattle.lists.proofs.shape_check.judge_words.Given as goal

abbrev pub invariant-loop-i : goal.invariant-loop-i
invariant-loop-i l =
    (NoneApply (each_place (word_rows l.side l.words) l.i))
    × (Before l.side l.words l.i l.before)
    × (Alone l.side l.words l.i (rank_at l.before) (place_at l.avs))
