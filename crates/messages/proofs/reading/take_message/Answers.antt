-- `messages::reading::take_message` meets its contract: the words behind the header that was taken, or its refusal.
-- Assumes nothing.
use mathlib.Core.Path.{ap, ◌∙◌}
use Rattle.messages.specs.Reading.{reading_told}
use Rattle.messages.proofs.Readings.{taken_told, whole_by_header, refused_by_header}
use Rattle.messages.proofs.reading.take_message.Goals as goal

pub returns-in-Ok : goal.returns-in-Ok
returns-in-Ok c =
    let bs = c.args.bytes.now in
    ap reading_told (whole_by_header bs c.in-Ok.ensures.value c.message_in.ensures) ∙ taken_told bs

pub returns-in-Err : goal.returns-in-Err
returns-in-Err c =
    let bs = c.args.bytes.now in
    c.from.ensures ∙ ap reading_told (refused_by_header bs c.in-Err.ensures.value) ∙ taken_told bs
