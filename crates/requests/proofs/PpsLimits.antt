-- PPS requests: the cases that the code tells apart. 100 mV is five steps of 20 mV.
-- Assumes nothing.
use Rattle.std.specs.Prelude.{Ok}
use mathlib.Core.Path.{◌≡◌, refl, ap}
use mathlib.Core.Bool.{false, not}
use Prim.Native.Nat.{ℕ, ◌*◌, ◌<◌, ◌≤◌}
use native.Mathlib.Omega.{arith}
use borrow.Author.Tests.{le-leb, lt-leb}
use Rattle.steps.specs.Ranges.{within}
use Rattle.steps.proofs.RangeLaws.{too_low, too_high, inside}
use Rattle.verdicts.specs.Refusals.{err, passed_by}
use Rattle.steps.specs.Units.{mv100, ma50}
use Rattle.steps.specs.declared.Mv100.{Mv100}
use Rattle.steps.specs.declared.Ma50.{Ma50}
use Rattle.objects.specs.Bits.{bits}
use Rattle.objects.specs.declared.Object.TheVariants.{Pps}
use Rattle.requests.specs.Taking.{mismatch_of}
use Rattle.requests.specs.Judging.{refusals_of}
use Rattle.requests.proofs.Limits.{outside, over, allowed, no_maximum}

-- v and i are the figures of the voltage and of the current, as the code has them
module _ (l : ℕ) (top bottom : Mv100) (a : Ma50) (w v : ℕ) (ev : v ≡ bits w 20 9) where
  pub pps_under : v < bottom.0 * 5 → passed_by (refusals_of (Pps l top bottom a) w) ≡ err 22 0
  pps_under h = outside err (Ok tt) (Pps l top bottom a) w refl (too_low (mv100 bottom) (mv100 top) (bits w 20 9 * 20) (omega arith))

  module _ (from : bottom.0 * 5 ≤ v) where
    pub pps_beyond : top.0 * 5 < v → passed_by (refusals_of (Pps l top bottom a) w) ≡ err 22 0
    pps_beyond h = outside err (Ok tt) (Pps l top bottom a) w refl (too_high (mv100 bottom) (mv100 top) (bits w 20 9 * 20) (omega arith) (omega arith))

    module _ (to : v ≤ top.0 * 5) (i : ℕ) (ei : i ≡ bits w 6 0) where
      pps_inside : not (within (mv100 bottom) (mv100 top) (bits w 20 9 * 20)) ≡ false
      pps_inside = inside (mv100 bottom) (mv100 top) (bits w 20 9 * 20) (omega arith) (omega arith)

      pub pps_over : a.0 < i → passed_by (refusals_of (Pps l top bottom a) w) ≡ err 24 0
      pps_over h = over err (Ok tt) (Pps l top bottom a) w refl pps_inside (ap not (lt-leb (bits w 6 0 * 50) (ma50 a) (omega arith)))

      pub pps_allowed : i ≤ a.0 → passed_by (refusals_of (Pps l top bottom a) w) ≡ Ok tt
      pps_allowed h =
          allowed err (Ok tt) (Pps l top bottom a) w refl pps_inside (ap not (le-leb (bits w 6 0 * 50) (ma50 a) (omega arith))) (no_maximum (ma50 a) (mismatch_of w))
