-- `summaries::answering::answered` meets its contract: the count, the position, and the row that it names.
-- Assumes nothing.
use Rattle.std.specs.Prelude.{Ok, Err}
use mathlib.Core.Path.{sym, ap, ◌∙◌}
use Rattle.verdicts.specs.Refusals.{err, passed_by}
use Rattle.requests.proofs.Answers.{position_zero, position_past, position_good}
use Rattle.summaries.specs.declared.answering.Limits.{Limits}
use Rattle.summaries.specs.Answering.{limits_in_row, row_with, row_of, row_refusals}
use Rattle.summaries.proofs.Judgings.{by_limits}
use Rattle.summaries.proofs.Answers.{too_many_rows_as, misplaced_as, by_row_as}
use Rattle.summaries.proofs.answering.answered.Goals as goal
use Rattle.summaries.proofs.answering.answered.Goals.{then-named-lt1-via-then-named-lt1, then-named-lt1-via-else-named-lt1+then-summary-named}

pub returns-then-summary-gt7 : goal.returns-then-summary-gt7
returns-then-summary-gt7 c =
    let x = c.args in
    ap Err c.placeless.ensures ∙ sym (too_many_rows_as x.summary x.asked err (Ok tt) c.if-summary-gt7.true)

pub returns-then-named-lt1 : goal.returns-then-named-lt1
returns-then-named-lt1 c =
    let x = c.args in
    ap Err c.placeless-then-named-lt1.ensures
    ∙ sym (misplaced_as x.summary x.asked err (Ok tt) c.if-summary-gt7.false (elim c.then-named-lt1.branch [
      | then-named-lt1-via-then-named-lt1 w ↦ position_zero _ _ w.if-named-lt1.true
      | then-named-lt1-via-else-named-lt1+then-summary-named w ↦ position_past _ _ w.if-named-lt1.false w.if-summary-named.true
    ]))

pub returns : goal.returns
returns c =
    let x = c.args in
    let good = position_good _ _ c.if-named-lt1.false c.if-summary-named.false in
    c.judge.ensures
    ∙ ap (λ (l : Limits). passed_by (row_refusals (row_with l) x.asked.mismatch x.asked.request)) (c.from-limits.ensures ∙ ap limits_in_row c.row_at.ensures)
    ∙ by_limits (row_of x.summary x.asked.position) x.asked.mismatch x.asked.request
    ∙ sym (by_row_as x.summary x.asked err (Ok tt) c.if-summary-gt7.false good)
