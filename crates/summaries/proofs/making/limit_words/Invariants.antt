-- `summaries::making::limit_words` meets its contract: the invariant is that the rows passed are filled.
-- Assumes nothing.
use Rattle.summaries.specs.Summaries.{rows_to}
use mathlib.Core.Path.{◌≡◌}
use Rattle.summaries.proofs.making.limit_words.Given as goal

abbrev pub invariant-loop-i : goal.invariant-loop-i
invariant-loop-i l = l.rows ≡ rows_to l.fn.list.words l.i
