-- `messages::reading::taken_apart` meets its contract: the words behind the header that was taken, or its refusal.
-- Assumes nothing.
use Rattle.std.proofs.lemmas.Result.{err_from_is_err_and}
use Rattle.messages.proofs.Readings.{whole_by_header, refused_by_header}
use Rattle.messages.proofs.reading.taken_apart.Goals as goal

pub returns-in_err-header : goal.returns-in_err-header
returns-in_err-header c =
    let p = err_from_is_err_and c.from_residual.result c.from_residual.ensures.1 in
    rw (p.1, p.2) (refused_by_header c.args.bytes.now c.in_err-header.ensures.value)

pub returns : goal.returns
returns c = whole_by_header c.args.bytes.now c.in_ok-header.ensures.value c.message_in.ensures
