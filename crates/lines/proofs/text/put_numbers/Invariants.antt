-- `lines::text::put_numbers` meets its contract: the invariant is that the numbers passed are put.
-- Assumes nothing.
use Rattle.std.specs.Prelude.{◌≤◌, ◌+◌, ◌*◌, take}
use Rattle.lines.specs.Text.{Appended}
use Rattle.lines.specs.Numbers.{numbers_text}
use Rattle.lines.proofs.text.put_numbers.Given as goal

abbrev pub invariant-loop-n : goal.invariant-loop-n
invariant-loop-n l = Appended l.initial.out l.fn.at (numbers_text (take l.n-index l.fn.numbers)) l.out l.next × (l.next ≤ l.fn.at + 6 * l.n-index)
