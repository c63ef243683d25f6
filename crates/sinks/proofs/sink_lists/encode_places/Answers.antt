-- `sinks::sink_lists::encode_places` meets its contract: the invariant is that no object passed is too wide, and the words so far are made.
-- Assumes nothing.
use Rattle.std.specs.Prelude.{Result, Err}
use mathlib.Core.Path.{sym, ap, ◌∙◌}
use Prim.Native.Nat.{◌<◌}
use native.Mathlib.Omega.{arith}
use Rattle.std.proofs.lemmas.Result.{err_from_is_err_and}
use Rattle.verdicts.specs.declared.Verdict.{Verdict}
use Rattle.lists.specs.declared.Words.{Words}
use Rattle.lists.proofs.Shapes.{count_high}
use Rattle.lists.proofs.Counted.{counted_below, counted_all, was_some, was_none}
use Rattle.lists.proofs.Writings.{miscounted_words, none_made, one_made, wide_word, all_words}
use Rattle.sinks.specs.SinkLists.{sink_encoded_at}
use Rattle.sinks.proofs.Makings.{made_in}
use Rattle.sinks.proofs.sink_lists.encode_places.Goals as goal

abbrev stop : Verdict → Result Words Verdict
stop v = Err v

pub returns-then-bad_count : goal.returns-then-bad_count
returns-then-bad_count c = ap stop c.placeless.ensures ∙ miscounted_words _ _ (sym c.bad_count.ensures ∙ c.if-bad_count.true)

pub loop-i-init : goal.loop-i-init
loop-i-init c = (sym c.bad_count.ensures ∙ c.if-bad_count.false, none_made _)

pub returns-in_err-words : goal.returns-in_err-words
returns-in_err-words c =
    let l = c.args.list in
    let at = c.loop-i in
    let h = c.loop-i-test.true in
    let none = was_none c.at.result c.sink_encode.result (sym c.in_err-words.ensures.value) in
    let p = err_from_is_err_and c.from_residual.result c.from_residual.ensures.1 in
    rw (p.1, p.2)
    (ap stop (none.1 ∙ c.at.ensures)
    ∙ wide_word (sink_encoded_at l.places) at.i l.count at.words at.invariant.0 (counted_below l.places l.count at.i h) at.invariant.1
    (sym (made_in l.places l.count at.i c.sink_encode.result h c.sink_encode.ensures) ∙ none.0))

pub loop-i-preserved : goal.loop-i-preserved
loop-i-preserved c =
    let l = c.args.list in
    let at = c.loop-i in
    let h = c.loop-i-test.true in
    let below : at.i < 7 = omega (arith, counted_below l.places l.count at.i h, count_high l.count at.invariant.0) in (
      at.invariant.0,
      one_made (sink_encoded_at l.places) at.i c.in_ok-words.field-0 at.words below at.invariant.1
          (sym (made_in l.places l.count at.i c.sink_encode.result h c.sink_encode.ensures)
          ∙ was_some c.at.result c.sink_encode.result (sym c.in_ok-words.ensures.value)),
    )

pub returns : goal.returns
returns c =
    let l = c.args.list in
    let at = c.loop-i in
    all_words (sink_encoded_at l.places) at.i l.count at.words at.invariant.0
    (counted_all l.places l.count at.i (omega (arith, count_high l.count at.invariant.0)) at.auto.i-end c.loop-i-test.false) at.invariant.1
