-- `requests::judging::judge_avs` meets its contract: each return cites the law of its case.
-- Assumes nothing.
use Rattle.std.specs.Prelude.{Err}
use mathlib.Core.Path.{sym, ap, ◌∙◌}
use native.Mathlib.Omega.{arith}
use Rattle.steps.specs.declared.Ma50.{Ma50}
use Rattle.requests.proofs.Comparing.{is_below, is_from}
use Rattle.requests.proofs.AvsLimits.{avs_not_whole, avs_under, avs_beyond, avs_over, avs_allowed}
use Rattle.requests.proofs.judging.judge_avs.Goals as goal
use Rattle.requests.proofs.judging.judge_avs.Goals.{then-lt-via-then-lt, then-lt-via-else-lt+then-lt-2}

pub returns-then-volts-ne0 : goal.returns-then-volts-ne0
returns-then-volts-ne0 c =
    let x = c.args in
    ap Err c.placeless.ensures ∙ sym (avs_not_whole 0 x.low x.high x.word _ c.volts.ensures c.if-volts-ne0.true)

pub returns-then-lt : goal.returns-then-lt
returns-then-lt c =
    let x = c.args in
    let e = c.volts.ensures in
    let whole = c.if-volts-ne0.false in
    ap Err c.placeless-then-lt.ensures
    ∙ sym (elim c.then-lt.branch [
      | then-lt-via-then-lt w ↦ avs_under 0 x.low x.high x.word _ e whole (is_below _ _ c.lt.ensures w.if-lt.true)
      | then-lt-via-else-lt+then-lt-2 w ↦
          avs_beyond 0 x.low x.high x.word _ e whole (is_from _ _ c.lt.ensures w.if-lt.false) _ w.avs_top.ensures
          (is_below _ _ w.lt-else-lt.ensures w.if-lt-2.true)
    ])

pub returns-then-from : goal.returns-then-from
returns-then-from c =
    let x = c.args in
    let e = c.volts.ensures in
    let whole = c.if-volts-ne0.false in
    let from = is_from _ _ c.lt.ensures c.if-lt.false in
    let to = is_from _ _ c.lt-else-lt.ensures c.if-lt-2.false in
    let i = c.from-2.ensures ∙ ap (λ (a : Ma50). a.0) c.current.ensures in
    ap Err c.placeless-then-from.ensures
    ∙ sym (avs_over 0 x.low x.high x.word _ e whole from _ c.avs_top.ensures to _ _ c.avs_limit-limit.ensures i (omega arith))

pub returns : goal.returns
returns c =
    let x = c.args in
    let e = c.volts.ensures in
    let whole = c.if-volts-ne0.false in
    let from = is_from _ _ c.lt.ensures c.if-lt.false in
    let to = is_from _ _ c.lt-else-lt.ensures c.if-lt-2.false in
    let i = c.from-2.ensures ∙ ap (λ (a : Ma50). a.0) c.current.ensures in
    sym (avs_allowed 0 x.low x.high x.word _ e whole from _ c.avs_top.ensures to _ _ c.avs_limit-limit.ensures i (omega arith))
