-- `lines::text::put_hex_word` meets its contract: the invariant is that the digits passed are put.
-- Assumes nothing.
use Prim.Native.Nat.{◌+◌}
use Rattle.lines.specs.Text.{Appended, hex_digits}
use Rattle.lines.proofs.text.put_hex_word.Given as goal

abbrev pub invariant-loop-i : goal.invariant-loop-i
invariant-loop-i l = Appended l.initial.out l.at (hex_digits l.i l.w) l.out (l.at + l.i)
