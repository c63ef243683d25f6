-- Proves the claims of specs/MessageOutcomes.antt.
-- Assumes nothing.
use mathlib.Core.Path.{sym, ◌∙◌}
use Rattle.messages.specs.Promises.{TakesMessage, ReadsMessage, WritesMessage}
use Rattle.board.specs.MessagePromises.{ArinTakesMessage, ArinReadsMessage, ArinWritesMessage}
use Rattle.demands.specs.OneOutcome.{Settled}
use Rattle.demands.specs.MessageOutcomes.{SettledWriting, NoSecondMessageOutcome}

-- ---- messages

pub take_message_settles : Settled TakesMessage
take_message_settles bs r s e f = e ∙ sym f

pub read_message_settles : Settled ReadsMessage
read_message_settles bs r s e f = e ∙ sym f

pub write_message_settles : SettledWriting WritesMessage
write_message_settles bs m r s cs ds e f = (e.0 ∙ sym f.0, e.1 ∙ sym f.1)

-- ---- board

pub arin_take_message_settles : Settled ArinTakesMessage
arin_take_message_settles bs r s e f = e ∙ sym f

pub arin_read_message_settles : Settled ArinReadsMessage
arin_read_message_settles bs r s e f = e ∙ sym f

pub arin_write_message_settles : SettledWriting ArinWritesMessage
arin_write_message_settles bs m r s cs ds e f = (e.0 ∙ sym f.0, e.1 ∙ sym f.1)

-- ---- all of them

pub no_second_message_outcome : NoSecondMessageOutcome
no_second_message_outcome = record {
  take_message = take_message_settles;
  read_message = read_message_settles;
  write_message = write_message_settles;
  arin_take_message = arin_take_message_settles;
  arin_read_message = arin_read_message_settles;
  arin_write_message = arin_write_message_settles;
}
