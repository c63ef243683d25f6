-- What rounding down and up give, over numerator and divisor: the greatest and the least, how the two differ, and that both rise.
-- Assumes nothing.
use mathlib.Core.Path.{◌≡◌, refl, sym, ap, ◌∙◌, subst}
use Prim.Native.Nat.{ℕ, zero, suc, ◌+◌, ◌*◌, ◌-◌, ◌/◌, ◌≤◌, ◌<◌}
use native.Mathlib.Nat.{
  le-div_iff_mul-le,
  div-lt_iff_lt-mul,
  div-mul-le_self,
  lt-div-mul-add,
  add-mul,
  one-mul,
  le_trans,
  le_antisymm,
  le_of_mul-le-mul_right,
  le-mul_of_pos_right,
  mul-le-mul_right,
  mul_assoc,
  mul-pos,
}
use native.Mathlib.Omega.{arith}
use Rattle.steps.specs.Rounding.{down_of, up_of}

-- a divisor of 0
pub down_none : (q d : ℕ) → d ≡ 0 → down_of q d ≡ 0
unfolding down_of
down_none q zero e = refl
down_none q (suc d) e = absurd (omega arith)

pub up_none : (q d : ℕ) → d ≡ 0 → up_of q d ≡ 0
unfolding up_of
up_none q zero e = refl
up_none q (suc d) e = absurd (omega arith)

pub down_is : (q d : ℕ) → 0 < d → down_of q d ≡ q / d
unfolding down_of
down_is q zero h = absurd (omega arith)
down_is q (suc d) h = refl

-- down: the greatest n with n * d ≤ q
pub down_under : (q d : ℕ) → down_of q d * d ≤ q
unfolding down_of
down_under q zero = omega arith
down_under q (suc d) = div-mul-le_self q (suc d)

one_more : (n d : ℕ) → (n + 1) * d ≡ n * d + d
one_more n d = add-mul n 1 d ∙ ap (λ (x : ℕ). n * d + x) (one-mul d)

pub down_next : (q d : ℕ) → 0 < d → q < (down_of q d + 1) * d
unfolding down_of
down_next q zero h = absurd (omega arith)
down_next q (suc d) h = rw (one_more (q / suc d) (suc d)) (lt-div-mul-add h)

pub down_greatest : (q d n : ℕ) → 0 < d → n * d ≤ q → n ≤ down_of q d
down_greatest q d n h k = rw (down_is q d h) ((le-div_iff_mul-le h).1 k)

-- up: the least n with q ≤ n * d
pub up_over : (q d : ℕ) → 0 < d → q ≤ up_of q d * d
unfolding up_of
up_over q zero h = absurd (omega arith)
up_over q (suc d) h = omega (arith, lt-div-mul-add {a = q + d} h)

pub up_least : (q d n : ℕ) → 0 < d → q ≤ n * d → up_of q d ≤ n
unfolding up_of
up_least q zero n h k = absurd (omega arith)
up_least q (suc d) n h k =
    let l : q + d < (n + 1) * suc d = rw (one_more n (suc d)) (omega arith) in
    omega (arith, (div-lt_iff_lt-mul {x = q + d} {y = n + 1} h).1 l)

-- and so it is less than one divisor above q
pub up_under : (q d : ℕ) → 0 < d → up_of q d * d < q + d
unfolding up_of
up_under q zero h = absurd (omega arith)
up_under q (suc d) h = omega (arith, div-mul-le_self (q + d) (suc d))

-- the two roundings side by side
pub down_le_up : (q d : ℕ) → down_of q d ≤ up_of q d
down_le_up q zero = omega (arith, down_none q 0 refl, up_none q 0 refl)
down_le_up q (suc d) =
    let h : 0 < suc d = omega arith in
    le_of_mul-le-mul_right (le_trans (down_under q (suc d)) (up_over q (suc d) h)) h

pub up_le_next : (q d : ℕ) → up_of q d ≤ down_of q d + 1
up_le_next q zero = omega (arith, down_none q 0 refl, up_none q 0 refl)
up_le_next q (suc d) =
    let h : 0 < suc d = omega arith in
    let l = down_next q (suc d) h in
    up_least q (suc d) (down_of q (suc d) + 1) h (omega arith)

-- where the divisor divides the numerator
pub down_exact : (q d n : ℕ) → 0 < d → n * d ≡ q → down_of q d ≡ n
down_exact q d n h e =
    let u : down_of q d * d ≤ n * d = rw e (down_under q d) in
    le_antisymm (le_of_mul-le-mul_right u h) (down_greatest q d n h (omega arith))

pub up_exact : (q d n : ℕ) → 0 < d → n * d ≡ q → up_of q d ≡ n
up_exact q d n h e =
    let u : n * d ≤ up_of q d * d = rw e (up_over q d h) in
    le_antisymm (up_least q d n h (omega arith)) (le_of_mul-le-mul_right u h)

-- "Both follow from one division": rounded down is its quotient (`down_is`), and rounded up goes by what is left of the numerator
module _ (q d : ℕ) (pos : 0 < d) where
  pub up_nothing_left : q - q / d * d ≡ 0 → up_of q d ≡ q / d
  up_nothing_left none = up_exact q d (q / d) pos (omega (arith, div-mul-le_self q d))

  pub up_something_left : (q - q / d * d ≡ 0 → ⊥) → up_of q d ≡ q / d + 1
  up_something_left some = omega (arith, more, up_le_next q d, down_is q d pos) where
    more : up_of q d ≤ q / d → ⊥
    more h = omega (arith, some, up_over q d pos, mul-le-mul_right d h)

-- both rise with the numerator
pub down_mono : (p q d : ℕ) → p ≤ q → down_of p d ≤ down_of q d
down_mono p q zero k = omega (arith, down_none p 0 refl)
down_mono p q (suc d) k = down_greatest q (suc d) (down_of p (suc d)) (omega arith) (le_trans (down_under p (suc d)) k)

pub up_mono : (p q d : ℕ) → p ≤ q → up_of p d ≤ up_of q d
up_mono p q zero k = omega (arith, up_none p 0 refl)
up_mono p q (suc d) k =
    let h : 0 < suc d = omega arith in
    up_least p (suc d) (up_of q (suc d)) h (le_trans k (up_over q (suc d) h))

-- ---- numerator and divisor in a smaller step: the quotient is the same

pub up_scaled : (q d k : ℕ) → 0 < d → 0 < k → up_of (q * k) (d * k) ≡ up_of q d
up_scaled q d k pos more = le_antisymm at_most at_least where
  all_pos : 0 < d * k
  all_pos = mul-pos pos more

  at_most : up_of (q * k) (d * k) ≤ up_of q d
  at_most =
      up_least (q * k) (d * k) (up_of q d) all_pos
      (subst (λ (n : ℕ). q * k ≤ n) (mul_assoc (up_of q d) d k) (mul-le-mul_right k (up_over q d pos)))

  at_least : up_of q d ≤ up_of (q * k) (d * k)
  at_least =
      up_least q d (up_of (q * k) (d * k)) pos
      (le_of_mul-le-mul_right
      (subst (λ (n : ℕ). q * k ≤ n) (sym (mul_assoc (up_of (q * k) (d * k)) d k)) (up_over (q * k) (d * k) all_pos)) more)

-- neither passes the numerator
pub up_within : (q d : ℕ) → up_of q d ≤ q
up_within q zero = omega (arith, up_none q 0 refl)
up_within q (suc d) = up_least q (suc d) q (omega arith) (le-mul_of_pos_right q (omega arith))

pub down_within : (q d : ℕ) → down_of q d ≤ q
down_within q d = omega (arith, down_le_up q d, up_within q d)
