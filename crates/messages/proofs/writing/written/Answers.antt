-- `messages::writing::written` meets its contract: what `length_in` refuses leaves the buffer as it was, and else the message fits it.
-- Assumes nothing.
use mathlib.Core.Path.{sym, ◌∙◌}
use lib.ListN.{length}
use borrow.Author.Tests.{ltb-false, not-false}
use Rattle.std.proofs.lemmas.Result.{err_from_is_err_and}
use Rattle.verdicts.proofs.First.{none_right}
use Rattle.verdicts.proofs.Results.{none_applied}
use Rattle.messages.specs.Headers.{length_of}
use Rattle.messages.specs.Refusing.{header_refusals}
use Rattle.messages.specs.Writing.{writing_refusals, laid_over, buffer_after}
use Rattle.messages.proofs.Steps.{stops_at, goes_past}
use Rattle.messages.proofs.Writings.{room_refusals}
use Rattle.messages.proofs.writing.written.Goals as goal

pub returns-in_err-length : goal.returns-in_err-length
unfolding buffer_after
returns-in_err-length c =
    let bs = c.args.bytes.now in
    let m = c.args.message in
    let e = c.in_err-length.ensures in
    let p = err_from_is_err_and c.from_residual.result c.from_residual.ensures.1 in
    record {
      answer = rw (p.1, p.2) e;
      buffer = sym (stops_at (length_of m.header) (writing_refusals (length bs) m) e (λ n p. bs) (laid_over bs m));
    }

pub put_message-requires : goal.put_message-requires
put_message-requires c =
    let m = c.args.message in
    let room = length c.args.bytes.now in
    let x = none_applied (length_of m.header) (writing_refusals room m) (sym c.in_ok-length.ensures) in
    (not-false _ x.0, ltb-false room (length_of m.header) (none_right (header_refusals m.header) (room_refusals room m) x.1).0)

pub returns : goal.returns
unfolding buffer_after
returns c =
    let bs = c.args.bytes.now in
    let m = c.args.message in
    let e = c.in_ok-length.ensures in
    record {
      answer = e;
      buffer = c.put_message.ensures ∙ sym (goes_past (length_of m.header) (writing_refusals (length bs) m) e (λ n p. bs) (laid_over bs m));
    }
