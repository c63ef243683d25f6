-- `rules::port::Port::prog_allowed` meets its contract: what may exceed the built figure goes up to the cable.
-- Assumes nothing.
use mathlib.Core.Path.{◌≡◌, sym, ◌∙◌}
use Prim.Native.Nat.{◌≤◌, min}
use lib.Dec.{leb}
use native.Mathlib.Omega.{arith}
use Rattle.std.proofs.lemmas.Grind.{common_steps}
use Rattle.rules.specs.Currents.{prog_down, cable_in_whole_50_mA, prog_current}
use Rattle.rules.proofs.Allowed.{by_cable}
use Rattle.rules.proofs.port.Port.prog_allowed.Goals as goal

pub returns-then-may_exceed : goal.returns-then-may_exceed
unfolding prog_current
returns-then-may_exceed c =
    let p = c.args.self.profile in
    let other : c.args.current.0 ≡ prog_current p c.args.volts → ⊥ = grind (arith, common_steps) in
    let from : prog_current p c.args.volts ≤ c.args.current.0 = grind (arith, common_steps) in
    let end : c.le.result ≡ leb c.args.current.0 (min (prog_down p c.args.volts) (cable_in_whole_50_mA p)) = grind (arith, common_steps) in
    end ∙ sym (by_cable p c.args.volts c.args.current.0 other (sym c.may_exceed.ensures ∙ c.if-may_exceed.true) from)
