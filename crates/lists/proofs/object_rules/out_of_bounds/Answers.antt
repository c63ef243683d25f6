-- `lists::object_rules::out_of_bounds` meets its contract: a test on figures is the test on millivolts.
-- Assumes nothing.
use Rattle.std.specs.Ordering.{is_lt, nat_cmp}
use mathlib.Core.Path.{◌≡◌, sym, ◌∙◌}
use mathlib.Core.Bool.{Bool, true, false, not, ◌&&◌}
use mathlib.Core.Logic.{⊎_elim}
use Prim.Native.Nat.{ℕ, ◌*◌, ◌<◌}
use lib.Dec.{leb}
use native.Mathlib.Omega.{arith}
use Rattle.steps.proofs.StepTests.{past}
use Rattle.verdicts.proofs.Bools.{not_first, not_second}
use Rattle.lists.specs.ObjectRules.{out_of_bounds}
use Rattle.lists.proofs.Orders.{same_less}
use Rattle.lists.proofs.object_rules.out_of_bounds.Goals as goal

-- a maximum and a minimum, by the figures of their step
module _ (step bound max min : ℕ) (pos : 0 < step) (above : Bool) (e : above ≡ is_lt (nat_cmp bound max)) where
  abbrev low : Bool
  low = leb (max * step) (bound * step)

  abbrev in_order : Bool
  in_order = leb (min * step) (max * step)

  above_is : above ≡ not low
  above_is = e ∙ same_less bound max ∙ past step bound max pos

  too_high : above ≡ true → above ≡ not (low && in_order)
  too_high t = t ∙ sym (not_first low in_order (sym above_is ∙ t))

  crossed : (r : Bool) → above ≡ false → r ≡ is_lt (nat_cmp max min) → r ≡ not (low && in_order)
  crossed r t q = q ∙ same_less max min ∙ past step max min pos ∙ sym (not_second low in_order (sym above_is ∙ t))

pub returns-in-Fixed : goal.returns-in-Fixed
unfolding out_of_bounds
returns-in-Fixed c =
    let v = c.in-Fixed.volts.0 in
    rw c.in-Fixed.is (c.lt.ensures ∙ same_less 400 v ∙ past 50 400 v (omega arith))

pub returns-then-lt : goal.returns-then-lt
unfolding out_of_bounds
returns-then-lt c =
    let p = c.in-Pps in
    rw p.is (too_high 100 210 p.max.0 p.min.0 (omega arith) c.lt-in-Pps.result c.lt-in-Pps.ensures c.if-lt.true)

pub returns-else-lt : goal.returns-else-lt
unfolding out_of_bounds
returns-else-lt c =
    let p = c.in-Pps in
    rw p.is
    (crossed 100 210 p.max.0 p.min.0 (omega arith) c.lt-in-Pps.result c.lt-in-Pps.ensures c.lt-else-lt.result c.if-lt.false c.lt-else-lt.ensures)

pub returns-then-lt-2 : goal.returns-then-lt-2
unfolding out_of_bounds
returns-then-lt-2 c =
    let b = c.in-Battery in
    let r = too_high 50 420 b.max.0 b.min.0 (omega arith) c.lt-in-Battery.result c.lt-in-Battery.ensures c.if-lt-2.true in
    ⊎_elim (λ k. rw k.1 r) (λ k. rw k.1 r) b.is

pub returns-else-lt-2 : goal.returns-else-lt-2
unfolding out_of_bounds
returns-else-lt-2 c =
    let b = c.in-Battery in
    let r =
    crossed 50 420 b.max.0 b.min.0 (omega arith) c.lt-in-Battery.result c.lt-in-Battery.ensures c.lt-else-lt-2.result c.if-lt-2.false
    c.lt-else-lt-2.ensures in
    ⊎_elim (λ k. rw k.1 r) (λ k. rw k.1 r) b.is

pub returns-in-Avs : goal.returns-in-Avs
unfolding out_of_bounds
returns-in-Avs c = rw c.in-Avs.is
