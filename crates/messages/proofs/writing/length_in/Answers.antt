-- `messages::writing::length_in` meets its contract: each return cites the law of its case.
-- Assumes nothing.
use Rattle.std.specs.Prelude.{Result, Ok, Err}
use mathlib.Core.Path.{ap, sym, ◌∙◌}
use Prim.Native.Nat.{ℕ}
use Rattle.std.proofs.lemmas.Result.{err_from_is_err_and}
use Rattle.verdicts.specs.declared.Verdict.{Verdict}
use Rattle.verdicts.specs.Refusals.{err}
use Rattle.messages.specs.declared.Message.{Message}
use Rattle.messages.specs.Headers.{length_of}
use Rattle.messages.specs.Refusing.{header_refusals, list_refusals}
use Rattle.messages.proofs.Steps.{stops_at, goes_past, stops_before, goes_on}
use Rattle.messages.proofs.Writings.{room_refusals, wide, past_fields, no_room, past_room}
use Rattle.messages.proofs.writing.length_in.Goals as goal

abbrev stop : Verdict → Result ℕ Verdict
stop v = Err v

abbrev known : Message → Result ℕ Verdict
known m = Ok (length_of m.header)

pub returns-then-too_wide : goal.returns-then-too_wide
returns-then-too_wide c =
    let m = c.args.message in
    ap stop c.placeless.ensures ∙ sym (wide err (known m) c.args.room m (sym c.too_wide.ensures ∙ c.if-too_wide.true))

pub returns-in_err-judge_header : goal.returns-in_err-judge_header
returns-in_err-judge_header c =
    let m = c.args.message in
    let room = c.args.room in
    let p = err_from_is_err_and c.from_residual.result c.from_residual.ensures.1 in
    rw (p.1, p.2)
    (sym (past_fields err (known m) room m (sym c.too_wide.ensures ∙ c.if-too_wide.false)
    ∙ stops_before tt (header_refusals m.header) (room_refusals room m) c.in_err-judge_header.ensures err (known m)))

pub returns-then-room-length : goal.returns-then-room-length
returns-then-room-length c =
    let m = c.args.message in
    let room = c.args.room in
    ap stop c.placeless-then-room-length.ensures
    ∙ sym (past_fields err (known m) room m (sym c.too_wide.ensures ∙ c.if-too_wide.false)
    ∙ goes_on tt (header_refusals m.header) (room_refusals room m) c.in_ok-judge_header.ensures err (known m)
    ∙ no_room err (known m) room m c.if-room-length.true)

pub returns-in_err-judge_list : goal.returns-in_err-judge_list
returns-in_err-judge_list c =
    let m = c.args.message in
    let room = c.args.room in
    let p = err_from_is_err_and c.from_residual-in_err-judge_list.result c.from_residual-in_err-judge_list.ensures.1 in
    rw (p.1, p.2)
    (sym (past_fields err (known m) room m (sym c.too_wide.ensures ∙ c.if-too_wide.false)
    ∙ goes_on tt (header_refusals m.header) (room_refusals room m) c.in_ok-judge_header.ensures err (known m)
    ∙ past_room err (known m) room m c.if-room-length.false
    ∙ stops_at tt (list_refusals m) c.in_err-judge_list.ensures err (known m)))

pub returns : goal.returns
returns c =
    let m = c.args.message in
    let room = c.args.room in
    sym (past_fields err (known m) room m (sym c.too_wide.ensures ∙ c.if-too_wide.false)
    ∙ goes_on tt (header_refusals m.header) (room_refusals room m) c.in_ok-judge_header.ensures err (known m)
    ∙ past_room err (known m) room m c.if-room-length.false
    ∙ goes_past tt (list_refusals m) c.in_ok-judge_list.ensures err (known m))
