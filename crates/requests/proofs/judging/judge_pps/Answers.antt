-- `requests::judging::judge_pps` meets its contract: each return cites the law of its case.
-- Assumes nothing.
use Rattle.std.specs.Prelude.{Err}
use mathlib.Core.Path.{sym, ap, ◌∙◌}
use native.Mathlib.Omega.{arith}
use Rattle.steps.specs.declared.Ma50.{Ma50}
use Rattle.requests.proofs.Comparing.{is_below, is_from}
use Rattle.requests.proofs.PpsLimits.{pps_under, pps_beyond, pps_over, pps_allowed}
use Rattle.requests.proofs.judging.judge_pps.Goals as goal
use Rattle.requests.proofs.judging.judge_pps.Goals.{then-volts-from-via-then-volts-from, then-volts-from-via-else-volts-from+then-from-volts}

pub returns-then-volts-from : goal.returns-then-volts-from
returns-then-volts-from c =
    let x = c.args in
    ap Err c.placeless.ensures
    ∙ sym (elim c.then-volts-from.branch [
      | then-volts-from-via-then-volts-from w ↦ pps_under 0 x.max x.min x.limit x.word _ c.volts.ensures (omega arith)
      | then-volts-from-via-else-volts-from+then-from-volts w ↦ pps_beyond 0 x.max x.min x.limit x.word _ c.volts.ensures (omega arith) (omega arith)
    ])

pub returns-then-lt : goal.returns-then-lt
returns-then-lt c =
    let x = c.args in
    let i = ap (λ (a : Ma50). a.0) c.current.ensures in
    ap Err c.placeless-then-lt.ensures
    ∙ sym (pps_over 0 x.max x.min x.limit x.word _ c.volts.ensures (omega arith) (omega arith) _ i (is_below _ _ c.lt.ensures c.if-lt.true))

pub returns : goal.returns
returns c =
    let x = c.args in
    let i = ap (λ (a : Ma50). a.0) c.current.ensures in
    sym (pps_allowed 0 x.max x.min x.limit x.word _ c.volts.ensures (omega arith) (omega arith) _ i (is_from _ _ c.lt.ensures c.if-lt.false))
