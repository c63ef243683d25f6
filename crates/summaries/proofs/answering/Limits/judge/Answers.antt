-- `summaries::answering::Limits::judge` meets its contract: each kind by its own judge.
-- Assumes nothing.
use Rattle.std.specs.Prelude.{Ok, Err}
use mathlib.Core.Path.{◌≡◌, sym, ap, ap₂, ◌∙◌}
use Prim.Native.Nat.{ℕ, ◌%◌}
use Rattle.steps.specs.declared.Mv25.{Mv25}
use Rattle.verdicts.specs.Refusals.{err, passed_by}
use Rattle.summaries.specs.declared.QuickRequest.{QuickRequest}
use Rattle.summaries.specs.Answering.{row_with, row_refusals, range_refusals}
use Rattle.summaries.proofs.Judgings.{pps_as, avs_not_whole, avs_as}
use Rattle.summaries.proofs.answering.Limits.judge.Goals as goal

pub returns-in-Pps : goal.returns-in-Pps
returns-in-Pps c =
    let x = c.args in
    c.judge_range.ensures
    ∙ ap₂ (λ (mv ma : ℕ). passed_by (range_refusals (row_with x.self) mv ma)) c.from.ensures c.from-in-Pps.ensures
    ∙ pps_as (row_with x.self) err (Ok tt) c.in-Pps.current x.mismatch c.in-Pps.volts
    ∙ ap (λ (r : QuickRequest). passed_by (row_refusals (row_with x.self) x.mismatch r)) (sym c.in-Pps.is)

pub returns-in-Avs : goal.returns-in-Avs
returns-in-Avs c =
    let x = c.args in
    ap Err c.placeless.ensures
    ∙ sym (avs_not_whole (row_with x.self) err (Ok tt) c.in-Avs.current x.mismatch c.in-Avs.volts c.if-volts-ne0.true)
    ∙ ap (λ (r : QuickRequest). passed_by (row_refusals (row_with x.self) x.mismatch r)) (sym c.in-Avs.is)

pub returns-in-Avs-2 : goal.returns-in-Avs-2
returns-in-Avs-2 c =
    let x = c.args in
    let same : c.in-Avs.volts ≡ c.in-Avs-2.volts = cc in
    c.judge_range-in-Avs-2.ensures
    ∙ ap₂ (λ (mv ma : ℕ). passed_by (range_refusals (row_with x.self) mv ma)) c.from-in-Avs-2.ensures c.from-in-Avs-2-2.ensures
    ∙ avs_as (row_with x.self) err (Ok tt) c.in-Avs-2.current x.mismatch c.in-Avs-2.volts
    (sym (ap (λ (v : Mv25). v.0 % 4) same) ∙ c.if-volts-ne0.false)
    ∙ ap (λ (r : QuickRequest). passed_by (row_refusals (row_with x.self) x.mismatch r)) (sym c.in-Avs-2.is)
