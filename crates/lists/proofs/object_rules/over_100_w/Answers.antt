-- `lists::object_rules::over_100_w` meets its contract: half a milliwatt is 500 microwatts, and 250 mW are 250,000.
-- Assumes nothing.
use mathlib.Core.Path.{◌≡◌, ap, sym, ◌∙◌}
use mathlib.Core.Bool.{not}
use mathlib.Core.Logic.{⊎_elim}
use Prim.Native.Nat.{ℕ, ◌*◌}
use native.Mathlib.Nat.{mul_assoc}
use native.Mathlib.Omega.{arith}
use lib.Dec.{ltb, leb}
use Rattle.steps.proofs.StepTests.{past, product}
use Rattle.lists.specs.ObjectRules.{over_100_W}
use Rattle.lists.proofs.Orders.{same_less}
use Rattle.lists.proofs.object_rules.over_100_w.Goals as goal

watts : (v a : ℕ) → ltb 200000 (v * a) ≡ not (leb (v * 50 * (a * 10)) 100000000)
watts v a = past 500 200000 (v * a) (omega arith) ∙ ap (λ (x : ℕ). not (leb x 100000000)) (sym (product v a 50 10))

pub returns-in-Fixed : goal.returns-in-Fixed
unfolding over_100_W
returns-in-Fixed c =
    let e = watts c.in-Fixed.volts.0 c.in-Fixed.current.0 in
    ⊎_elim (λ k. rw k.2 e) (λ k. rw k.1 e) c.in-Fixed.is

pub returns-in-Battery : goal.returns-in-Battery
unfolding over_100_W
returns-in-Battery c =
    let p = c.in-Battery.power.0 in
    rw c.in-Battery.is
    (c.lt.ensures
    ∙ same_less 400 p
    ∙ past 250000 400 p (omega arith)
    ∙ ap (λ (x : ℕ). not (leb x 100000000)) (sym (mul_assoc p 250 1000)))

pub returns-in-Pps : goal.returns-in-Pps
unfolding over_100_W
returns-in-Pps c = ⊎_elim (λ k. rw k.4) (λ k. rw k.3) c.in-Pps.is
