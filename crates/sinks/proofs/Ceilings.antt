-- A figure is above a quotient rounded down exactly when its product with the divisor is above the numerator.
-- Assumes nothing.
use mathlib.Core.Path.{◌≡◌, refl, sym, ◌∙◌}
use mathlib.Core.Bool.{Bool, true, false, cond}
use Prim.Native.Nat.{ℕ, zero, suc, ◌*◌, ◌<◌}
use native.Mathlib.Nat.{mul_comm, mul_assoc, mul-le-mul_right, le_trans}
use native.Mathlib.Omega.{arith}
use lib.Dec.{ltb}
use borrow.Author.Tests.{lt-ltb, le-ltb, ltb-true, ltb-false}
use Rattle.steps.specs.Rounding.{down_of}
use Rattle.steps.proofs.RoundingLaws.{down_under, down_greatest}
use Rattle.sinks.specs.Rating.{above_quotient, is_range, pps_above, divided_by}

below : (n v a : ℕ) → n < v * a → down_of n v < a
below n v a h = go (ltb (down_of n v) a) refl where
  go : (b : Bool) → ltb (down_of n v) a ≡ b → down_of n v < a
  go true e = ltb-true (down_of n v) a e
  go false e =
      let u = le_trans (mul-le-mul_right v (ltb-false (down_of n v) a e)) (down_under n v) in
      absurd (omega (arith, h, u, mul_comm v a))

pub above_product : (n v a : ℕ) → ltb n (v * a) ≡ above_quotient n v a
unfolding above_quotient
above_product n zero a = le-ltb n (zero * a) (omega arith)
above_product n (suc v) a = rw (lt-ltb 0 (suc v) (omega arith)) (go (ltb n (suc v * a)) refl) where
  go : (b : Bool) → ltb n (suc v * a) ≡ b → b ≡ ltb (down_of n (suc v)) a
  go true e = sym (lt-ltb (down_of n (suc v)) a (below n (suc v) a (ltb-true n (suc v * a) e)))
  go false e =
      let h = ltb-false n (suc v * a) e in
      sym (le-ltb (down_of n (suc v)) a (down_greatest n (suc v) a (omega arith) (omega (arith, h, mul_comm (suc v) a))))

-- numerator and divisor ten times as large
tenfold : (n v a : ℕ) → above_quotient (10 * n) v a ≡ above_quotient (100 * n) (10 * v) a
tenfold n v a = sym (above_product (10 * n) v a) ∙ go (ltb (10 * n) (v * a)) refl ∙ above_product (100 * n) (10 * v) a where
  go : (b : Bool) → ltb (10 * n) (v * a) ≡ b → b ≡ ltb (100 * n) (10 * v * a)
  go true e = sym (lt-ltb (100 * n) (10 * v * a) (omega (arith, ltb-true (10 * n) (v * a) e, mul_assoc 10 v a)))
  go false e = sym (le-ltb (100 * n) (10 * v * a) (omega (arith, ltb-false (10 * n) (v * a) e, mul_assoc 10 v a)))

-- 10 R by whole volts is 100 R by tenths of a volt
pub by_tenths : (rating max min a : ℕ) → pps_above rating max min a ≡ above_quotient (100 * rating) (divided_by max min) a
by_tenths rating max min a = first (is_range max min 110 50) where
  third : (b : Bool) → cond b (above_quotient (10 * rating) 20 a) (above_quotient (100 * rating) max a) ≡ above_quotient (100 * rating) (cond b 200 max) a
  third true = tenfold rating 20 a
  third false = refl

  second : (b : Bool) → cond b (above_quotient (10 * rating) 15 a) (cond (is_range max min 210 50) (above_quotient (10 * rating) 20 a) (above_quotient (100 * rating) max a))
      ≡ above_quotient (100 * rating) (cond b 150 (cond (is_range max min 210 50) 200 max)) a
  second true = tenfold rating 15 a
  second false = third (is_range max min 210 50)

  first : (b : Bool) → cond b (above_quotient (10 * rating) 9 a)
      (cond (is_range max min 160 50) (above_quotient (10 * rating) 15 a) (cond (is_range max min 210 50) (above_quotient (10 * rating) 20 a) (above_quotient (100 * rating) max a)))
      ≡ above_quotient (100 * rating) (cond b 90 (cond (is_range max min 160 50) 150 (cond (is_range max min 210 50) 200 max))) a
  first true = tenfold rating 9 a
  first false = second (is_range max min 160 50)
