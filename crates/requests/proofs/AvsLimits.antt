-- AVS requests: the whole 100 mV, where the range ends, the current that limits, and the cases that the code tells apart.
-- Assumes nothing.
use Rattle.std.specs.Prelude.{Ok}
use mathlib.Core.Path.{◌≡◌, sym, ap, ◌∙◌}
use mathlib.Core.Bool.{true, false, not}
use Prim.Native.Nat.{ℕ, ◌*◌, ◌/◌, ◌%◌, ◌<◌, ◌≤◌, max}
use native.Mathlib.Nat.{mul-mod_left}
use native.Mathlib.Omega.{arith}
use lib.Dec.{eqb}
use borrow.Author.Tests.{lt-ltb, le-ltb, le-leb, lt-leb, eq-eqb, ne_eqb}
use Rattle.steps.specs.Ranges.{within}
use Rattle.steps.proofs.RangeLaws.{too_low, too_high, inside}
use Rattle.verdicts.specs.Refusals.{err, passed_by}
use Rattle.steps.specs.Units.{ma10}
use Rattle.steps.specs.declared.Ma10.{Ma10}
use Rattle.objects.specs.Bits.{bits}
use Rattle.objects.specs.declared.Object.TheVariants.{Avs}
use Rattle.requests.specs.Taking.{mismatch_of}
use Rattle.requests.specs.Limits.{avs_top, avs_limit}
use Rattle.requests.specs.Judging.{refusals_of}
use Rattle.requests.proofs.Limits.{not_whole, outside, over, allowed, no_maximum}

-- 100 mV is four steps of 25 mV
pub whole_100 : (v : ℕ) → v % 4 ≡ 0 → not (eqb (v * 25 % 100) 0) ≡ false
whole_100 v e = ap not (eq-eqb (v * 25 % 100) 0 (omega arith))

pub not_whole_100 : (v : ℕ) → (v % 4 ≡ 0 → ⊥) → not (eqb (v * 25 % 100) 0) ≡ true
not_whole_100 v f = ap not (ne_eqb (v * 25 % 100) 0 (λ q. f (
    let k = v * 25 / 100 in
    let e : v ≡ k * 4 = omega arith in
    ap (λ (n : ℕ). n % 4) e ∙ mul-mod_left k 4
    )))

pub ends_at_15_V : (high : Ma10) → high.0 ≡ 0 → avs_top high ≡ 15000
unfolding avs_top
ends_at_15_V high e = rw (eq-eqb high.0 0 e)

pub ends_at_20_V : (high : Ma10) → (high.0 ≡ 0 → ⊥) → avs_top high ≡ 20000
unfolding avs_top
ends_at_20_V high f = rw (ne_eqb high.0 0 f)

module _ (mv first second : ℕ) where
  pub limit_below : mv < 15000 → avs_limit mv first second ≡ first
  unfolding avs_limit
  limit_below h = rw (lt-ltb mv 15000 h)

  pub limit_above : 15000 < mv → avs_limit mv first second ≡ second
  unfolding avs_limit
  limit_above h = let k : 15000 ≤ mv = omega arith in rw (le-ltb mv 15000 k, lt-ltb 15000 mv h)

  pub limit_at_lem : mv ≡ 15000 → avs_limit mv first second ≡ max first second
  unfolding avs_limit
  limit_at_lem e =
      let h : 15000 ≤ mv = omega arith in
      let k : mv ≤ 15000 = omega arith in
      rw (le-ltb mv 15000 h, le-ltb 15000 mv k)

-- v and i are the figures of the voltage and of the current, as the code has them
module _ (p : ℕ) (low high : Ma10) (w v : ℕ) (ev : v ≡ bits w 20 9) where
  pub avs_not_whole : (v % 4 ≡ 0 → ⊥) → passed_by (refusals_of (Avs p low high) w) ≡ err 23 0
  avs_not_whole f = not_whole err (Ok tt) (Avs p low high) w (not_whole_100 (bits w 20 9) (λ e. f (ap (λ (n : ℕ). n % 4) ev ∙ e)))

  module _ (whole : v % 4 ≡ 0) where
    avs_whole : not (eqb (bits w 20 9 * 25 % 100) 0) ≡ false
    avs_whole = whole_100 (bits w 20 9) (ap (λ (n : ℕ). n % 4) (sym ev) ∙ whole)

    pub avs_under : v < 360 → passed_by (refusals_of (Avs p low high) w) ≡ err 22 0
    avs_under h = outside err (Ok tt) (Avs p low high) w avs_whole (too_low 9000 (avs_top high) (bits w 20 9 * 25) (omega arith))

    module _ (from : 360 ≤ v) (t : ℕ) (top : t * 25 ≡ avs_top high) where
      pub avs_beyond : t < v → passed_by (refusals_of (Avs p low high) w) ≡ err 22 0
      avs_beyond h = outside err (Ok tt) (Avs p low high) w avs_whole (too_high 9000 (avs_top high) (bits w 20 9 * 25) (omega arith) (omega arith))

      module _ (to : v ≤ t) (x i : ℕ) (limit : x * 10 ≡ avs_limit (v * 25) (ma10 low) (ma10 high)) (ei : i ≡ bits w 6 0) where
        avs_inside : not (within 9000 (avs_top high) (bits w 20 9 * 25)) ≡ false
        avs_inside = inside 9000 (avs_top high) (bits w 20 9 * 25) (omega arith) (omega arith)

        avs_limit_lem : x * 10 ≡ avs_limit (bits w 20 9 * 25) (ma10 low) (ma10 high)
        avs_limit_lem = limit ∙ ap (λ (n : ℕ). avs_limit (n * 25) (ma10 low) (ma10 high)) ev

        pub avs_over : x < i * 5 → passed_by (refusals_of (Avs p low high) w) ≡ err 24 0
        avs_over h = over err (Ok tt) (Avs p low high) w avs_whole avs_inside (ap not (lt-leb (bits w 6 0 * 50) _ (omega (arith, avs_limit_lem))))

        pub avs_allowed : i * 5 ≤ x → passed_by (refusals_of (Avs p low high) w) ≡ Ok tt
        avs_allowed h =
            allowed err (Ok tt) (Avs p low high) w avs_whole avs_inside (ap not (le-leb (bits w 6 0 * 50) _ (omega (arith, avs_limit_lem))))
            (no_maximum (avs_limit (bits w 20 9 * 25) (ma10 low) (ma10 high)) (mismatch_of w))
