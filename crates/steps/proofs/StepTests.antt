-- A test on two figures of one step is the test on the measures they stand for: stated once, over the step.
-- Assumes nothing.
use mathlib.Core.Path.{◌≡◌, refl, sym, ◌∙◌}
use mathlib.Core.Bool.{Bool, true, false, not}
use Prim.Native.Nat.{ℕ, ◌*◌, ◌<◌, ◌≤◌}
use native.Mathlib.Nat.{mul-le-mul_right, mul-lt-mul_of_pos_right, eq_of_mul-eq-mul_right, mul-le-mul, mul_assoc, mul_left_comm}
use native.Mathlib.Omega.{arith}
use lib.Dec.{ltb, leb, eqb}
use borrow.Author.Tests.{ltb-true, ltb-false, le-leb, lt-leb, eqb-true, eqb-false, eq-eqb, ne_eqb}
use mathlib.Core.Path.{ap}

-- past a bound
pub past : (step bound figure : ℕ) → 0 < step → ltb bound figure ≡ not (leb (figure * step) (bound * step))
past step bound figure pos = go (ltb bound figure) refl where
  go : (b : Bool) → ltb bound figure ≡ b → b ≡ not (leb (figure * step) (bound * step))
  go true e = sym (ap not (lt-leb (figure * step) (bound * step) (mul-lt-mul_of_pos_right (ltb-true bound figure e) pos)))
  go false e = sym (ap not (le-leb (figure * step) (bound * step) (mul-le-mul_right step (ltb-false bound figure e))))

-- at a value
pub at : (step value figure : ℕ) → 0 < step → eqb figure value ≡ eqb (figure * step) (value * step)
at step value figure pos = go (eqb figure value) refl where
  go : (b : Bool) → eqb figure value ≡ b → b ≡ eqb (figure * step) (value * step)
  go true e = sym (eq-eqb (figure * step) (value * step) (ap (λ (n : ℕ). n * step) (eqb-true figure value e)))
  go false e = sym (ne_eqb (figure * step) (value * step) (λ q. eqb-false figure value e (eq_of_mul-eq-mul_right step pos figure value q)))

-- a product of two figures, in their two steps
pub product : (a b s t : ℕ) → a * s * (b * t) ≡ a * b * (s * t)
product a b s t = mul_assoc a s (b * t) ∙ ap (λ (x : ℕ). a * x) (mul_left_comm s b t) ∙ sym (mul_assoc a b (s * t))

-- two figures of 16 bits have a product of 32 bits
pub product_fits : {a b : ℕ} → a < 65536 → b < 65536 → a * b < 4294967296
product_fits {a} {b} h k =
    let e : a * b ≤ 65535 * 65535 = mul-le-mul {n₂ = 65535} {m₂ = 65535} (omega arith) (omega arith) in omega arith
