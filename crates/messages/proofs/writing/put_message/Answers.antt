-- `messages::writing::put_message` meets its contract: the invariant is that the header and the words so far stand in the buffer, and past
-- them what was there.
-- Assumes nothing.
use mathlib.Core.List.{◌++◌}
use lib.ListN.{drop}
use Rattle.messages.proofs.Laying.{one_word_more}
use Rattle.messages.proofs.writing.put_message.Goals as goal

pub loop-i-preserved : goal.loop-i-preserved
loop-i-preserved c =
    let turn = c.loop-i in
    -- the buffer after the header, as the loop finds it
    one_word_more (c.put_half.new.part ++ drop 2 c.args.bytes.now) c.half_of_header-half.result c.args.message.words turn.i turn.bytes
    c.put_word.new.part turn.invariant c.put_word.ensures
