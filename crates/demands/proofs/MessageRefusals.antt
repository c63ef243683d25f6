-- Proves the claims of specs/MessageRefusals.antt: each call gives the first refusal of its table.
-- Assumes nothing.
use mathlib.Core.Path.{refl, ap, ◌∙◌}
use lib.ListN.{length}
use Rattle.verdicts.specs.Refusals.{success}
use Rattle.verdicts.proofs.First.{telling_numbered, passes, refused_so}
use Rattle.messages.specs.declared.MessageReading.{MessageReading}
use Rattle.messages.specs.declared.Written.{Written}
use Rattle.messages.specs.Headers.{length_of}
use Rattle.messages.specs.Reading.{read_as, reading_refused, taking_refusals, reading_refusals, taken_of, message_read_of}
use Rattle.messages.specs.Writing.{laid_over, writing_refused, writing_refusals, written_of, buffer_after}
use Rattle.messages.proofs.Readings.{taking_numbered, reading_numbered}
use Rattle.messages.proofs.Writings.{writing_numbered}
use Rattle.messages.proofs.Accepted.{written_verdict}
use Rattle.demands.specs.MessageRefusals.{TakeMessageRefusals, ReadMessageRefusals, WriteMessageRefusals, ArinTakeMessageRefusals, ArinReadMessageRefusals, ArinWriteMessageRefusals}
use Rattle.demands.proofs.Refusals.{answers_with}

-- ---- messages

pub take_message_refusals : TakeMessageRefusals
unfolding taken_of
take_message_refusals bs r e =
    let rs = taking_refusals bs in
    let a = answers_with (λ (x : MessageReading). x.verdict) reading_refused (λ n p. refl) rs (telling_numbered rs (taking_numbered bs)) (read_as bs) refl r e in
    (a.0, λ f. ap (λ (x : MessageReading). x.message) (a.1 f))

pub read_message_refusals : ReadMessageRefusals
unfolding message_read_of
read_message_refusals bs r e =
    let rs = reading_refusals bs in
    let a = answers_with (λ (x : MessageReading). x.verdict) reading_refused (λ n p. refl) rs (telling_numbered rs (reading_numbered bs)) (read_as bs) refl r e in
    (a.0, λ f. ap (λ (x : MessageReading). x.message) (a.1 f))

pub write_message_refusals : WriteMessageRefusals
unfolding written_of buffer_after
write_message_refusals bs m r cs e =
    let rs = writing_refusals (length bs) m in
    let t = writing_numbered (length bs) m in
    let good : Written = record { verdict = success; length = length_of m.header } in
    let a = answers_with (λ (x : Written). x.verdict) writing_refused (λ n p. refl) rs (telling_numbered rs t) good refl r e.0 in (
      a.0,
      λ f. (
        ap (λ (x : Written). x.length) (a.1 f),
        e.1
            ∙ refused_so (λ n p. bs) rs (λ z. f (ap (λ (x : Written). x.verdict) e.0 ∙ written_verdict (length bs) m ∙ passes rs t z)) (laid_over bs m),
      ),
    )

-- ---- board: the contracts are those of the floor below

pub arin_take_message_refusals : ArinTakeMessageRefusals
arin_take_message_refusals = take_message_refusals

pub arin_read_message_refusals : ArinReadMessageRefusals
arin_read_message_refusals = read_message_refusals

pub arin_write_message_refusals : ArinWriteMessageRefusals
arin_write_message_refusals = write_message_refusals
