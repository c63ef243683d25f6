-- `messages::writing::put_message` meets its contract: the invariant is that the header and the words so far stand in the buffer, and past
-- them what was there.
-- Assumes nothing.
use mathlib.Core.Path.{◌≡◌}
use Rattle.messages.proofs.Laying.{laid_to}
use Rattle.messages.proofs.writing.put_message.Given as goal

abbrev pub invariant-loop-i : goal.invariant-loop-i
invariant-loop-i l = l.bytes ≡ laid_to l.initial.bytes l.half l.message.words l.i
