-- `requests::judging::avs_limit` meets its contract: below 15.0 V, above it, and at it the larger of the two.
-- Assumes nothing.
use Rattle.std.proofs.Common.{Less, Equal, Greater}
use Rattle.std.proofs.lemmas.Cmp.{ranked}
use mathlib.Core.Path.{◌≡◌, sym, ap, ◌∙◌}
use Prim.Native.Nat.{ℕ, ◌*◌, max}
use native.Mathlib.Omega.{arith}
use Rattle.steps.specs.declared.Ma10.{Ma10}
use Rattle.requests.proofs.Comparing.{larger}
use Rattle.requests.proofs.AvsLimits.{limit_below, limit_above, limit_at_lem}
use Rattle.requests.proofs.judging.avs_limit.Goals as goal

scaled : (m a b : ℕ) → m ≡ max a b → m * 10 ≡ max (a * 10) (b * 10)
scaled m a b e = omega arith

pub returns-in-Less : goal.returns-in-Less
returns-in-Less c =
    let h = ranked c.args.volts.0 600 Less c.in-Less.ensures in
    sym (limit_below _ _ _ (omega arith))

pub returns-in-Equal : goal.returns-in-Equal
returns-in-Equal c =
    let x = c.args in
    let h = ranked x.volts.0 600 Equal c.in-Equal.ensures in
    let m = ap (λ (a : Ma10). a.0) c.max.ensures ∙ larger (λ (a : Ma10). a.0) x.low x.high in
    scaled _ x.low.0 x.high.0 m ∙ sym (limit_at_lem _ _ _ (omega arith))

pub returns-in-Greater : goal.returns-in-Greater
returns-in-Greater c =
    let h = ranked c.args.volts.0 600 Greater c.in-Greater.ensures in
    sym (limit_above _ _ _ (omega arith))
