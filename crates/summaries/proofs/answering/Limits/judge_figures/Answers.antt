-- `summaries::answering::Limits::judge_figures` meets its contract: each return cites the law of its case.
-- Assumes nothing.
use Rattle.std.specs.Prelude.{Err}
use mathlib.Core.Path.{sym, ap, ◌∙◌}
use Prim.Native.Nat.{◌<◌, ◌≤◌}
use native.Mathlib.Omega.{arith}
use Rattle.requests.proofs.Comparing.{is_below, is_from}
use Rattle.summaries.specs.Answering.{row_with}
use Rattle.summaries.proofs.Judgings.{operating_over, excused, maximum_over, both_within}
use Rattle.summaries.proofs.answering.Limits.judge_figures.Goals as goal
use Rattle.summaries.proofs.answering.Limits.judge_figures.Goals.{else-lt-2-via-then-lt-2+else-not-mismatch, else-lt-2-via-else-lt-2}

pub returns-then-lt : goal.returns-then-lt
returns-then-lt c =
    let x = c.args in
    let h : x.self.below_15_v.0 < c.from.result.0 = is_below _ _ c.lt.ensures c.if-lt.true in
    ap Err c.placeless.ensures ∙ sym (operating_over (row_with x.self) x.operating x.maximum x.mismatch (omega (arith, h)))

pub returns-then-not-mismatch : goal.returns-then-not-mismatch
returns-then-not-mismatch c =
    let x = c.args in
    let h : c.from.result.0 ≤ x.self.below_15_v.0 = is_from _ _ c.lt.ensures c.if-lt.false in
    let k : x.self.below_15_v.0 < c.from-2.result.0 = is_below _ _ c.lt-2.ensures c.if-lt-2.true in
    ap Err c.placeless-then-not-mismatch.ensures
    ∙ sym (maximum_over (row_with x.self) x.operating x.maximum x.mismatch (omega (arith, h)) c.if-not-mismatch.true (omega (arith, k)))

pub returns : goal.returns
returns c =
    let x = c.args in
    let h : c.from.result.0 ≤ x.self.below_15_v.0 = is_from _ _ c.lt.ensures c.if-lt.false in
    elim c.else-lt-2.branch [
      | else-lt-2-via-then-lt-2+else-not-mismatch w ↦
          sym (excused (row_with x.self) x.operating x.maximum x.mismatch (omega (arith, h)) w.if-not-mismatch.false)
      | else-lt-2-via-else-lt-2 w ↦
          let k : c.from-2.result.0 ≤ x.self.below_15_v.0 = is_from _ _ c.lt-2.ensures w.if-lt-2.false in
          sym (both_within (row_with x.self) x.operating x.maximum x.mismatch (omega (arith, h)) (omega (arith, k)))
    ]
