-- `summaries::answering::Limits::judge_range` meets its contract: each return cites the law of its case.
-- Assumes nothing.
use Rattle.std.specs.Prelude.{Ok, Err}
use mathlib.Core.Path.{sym, ap, ◌∙◌}
use Rattle.verdicts.specs.Refusals.{err}
use Rattle.requests.proofs.Comparing.{is_below, is_from}
use Rattle.summaries.specs.Answering.{row_with}
use Rattle.summaries.proofs.Judgings.{under_as, beyond_as, over_as, allowed_as}
use Rattle.summaries.proofs.answering.Limits.judge_range.Goals as goal
use Rattle.summaries.proofs.answering.Limits.judge_range.Goals.{then-lt-via-then-lt, then-lt-via-else-lt+then-lt-2}

pub returns-then-lt : goal.returns-then-lt
returns-then-lt c =
    let x = c.args in
    ap Err c.placeless.ensures
    ∙ sym (elim c.then-lt.branch [
      | then-lt-via-then-lt w ↦ under_as (row_with x.self) err (Ok tt) x.volts.0 x.current.0 (is_below _ _ c.lt.ensures w.if-lt.true)
      | then-lt-via-else-lt+then-lt-2 w ↦
          beyond_as (row_with x.self) err (Ok tt) x.volts.0 x.current.0 (is_from _ _ c.lt.ensures w.if-lt.false)
          (is_below _ _ w.lt-else-lt.ensures w.if-lt-2.true)
    ])

pub returns-then-lt-3 : goal.returns-then-lt-3
returns-then-lt-3 c =
    let x = c.args in
    let from = is_from _ _ c.lt.ensures c.if-lt.false in
    let to = is_from _ _ c.lt-else-lt.ensures c.if-lt-2.false in
    ap Err c.placeless-then-lt-3.ensures
    ∙ sym (over_as (row_with x.self) err (Ok tt) x.volts.0 x.current.0 from to _ c.current_at.ensures (is_below _ _ c.lt-2.ensures c.if-lt-3.true))

pub returns : goal.returns
returns c =
    let x = c.args in
    let from = is_from _ _ c.lt.ensures c.if-lt.false in
    let to = is_from _ _ c.lt-else-lt.ensures c.if-lt-2.false in
    sym (allowed_as (row_with x.self) err (Ok tt) x.volts.0 x.current.0 from to _ c.current_at.ensures (is_from _ _ c.lt-2.ensures c.if-lt-3.false))
