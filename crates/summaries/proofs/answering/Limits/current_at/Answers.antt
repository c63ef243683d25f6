-- `summaries::answering::Limits::current_at` meets its contract: below 15.0 V, above it, and at it the larger of the two.
-- Assumes nothing.
use Rattle.std.proofs.Common.{Less, Equal, Greater}
use Rattle.std.proofs.lemmas.Cmp.{ranked}
use mathlib.Core.Path.{sym, ap, ◌∙◌}
use native.Mathlib.Omega.{arith}
use Rattle.requests.proofs.Comparing.{larger}
use Rattle.requests.proofs.AvsLimits.{limit_below, limit_above, limit_at_lem}
use Rattle.summaries.specs.declared.answering.Ma.{Ma}
use Rattle.summaries.proofs.answering.Limits.current_at.Goals as goal

pub returns-in-Less : goal.returns-in-Less
returns-in-Less c =
    let h = ranked c.args.volts.0 15000 Less c.in-Less.ensures in
    sym (limit_below _ _ _ (omega (arith, h)))

pub returns-in-Equal : goal.returns-in-Equal
returns-in-Equal c =
    let x = c.args in
    let h = ranked x.volts.0 15000 Equal c.in-Equal.ensures in
    ap (λ (a : Ma). a.0) c.max.ensures
    ∙ larger (λ (a : Ma). a.0) x.self.below_15_v x.self.above_15_v
    ∙ sym (limit_at_lem _ _ _ (omega (arith, h)))

pub returns-in-Greater : goal.returns-in-Greater
returns-in-Greater c =
    let h = ranked c.args.volts.0 15000 Greater c.in-Greater.ensures in
    sym (limit_above _ _ _ (omega (arith, h)))
