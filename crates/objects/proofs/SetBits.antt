-- Bits that are set or clear, as the code tests them and as `clear` says it.
-- Assumes nothing.
use borrow.Author.Tests.{eq-eqb, ne_eqb}
use mathlib.Core.Path.{◌≡◌, refl, ◌∙◌, ap, sym}
use mathlib.Core.Bool.{Bool, true, false, not, ◌&&◌, true≢false}
use Prim.Native.Nat.{ℕ, zero, suc, ◌+◌, ◌-◌, ◌*◌, ◌/◌, ◌%◌, ◌^◌, ◌<◌, ◌≤◌}
use native.Mathlib.Omega.{arith}
use lib.Pow.{mod-pow-add, shr-shr, pow_pos}
use lib.Dec.{eqb}
use Rattle.objects.specs.Bits.{bits}

pub is_set : {x y : ℕ} → x ≡ y → not (eqb x 0) ≡ not (eqb y 0)
is_set e = ap (λ (z : ℕ). not (eqb z 0)) e

pub is_clear : {x y : ℕ} → x ≡ 0 → x ≡ y → eqb y 0 ≡ true
is_clear {x} {y} z e = eq-eqb y 0 (sym e ∙ z)

pub is_not_clear : {x y : ℕ} → (x ≡ 0 → ⊥) → x ≡ y → eqb y 0 ≡ false
is_not_clear {x} {y} z e = ne_eqb y 0 (λ q. z (e ∙ q))

-- three places that must be clear
pub one_set : (a b d : Bool) → not a ≡ true → not (a && b && d) ≡ true
one_set true b d e = absurd (true≢false (sym e))
one_set false b d e = refl

pub two_set : (a d : Bool) {b : Bool} → not a ≡ false → b ≡ false → not (a && b && d) ≡ true
two_set true d e f = rw f
two_set false d e f = absurd (true≢false e)

pub last_set : (a d : Bool) {b : Bool} → not a ≡ false → b ≡ true → not (a && b && d) ≡ not d
last_set true d e f = rw f
last_set false d e f = absurd (true≢false e)

no_factor : (n d : ℕ) → 0 < d → n * d ≡ 0 → n ≡ 0
no_factor zero d h e = refl
no_factor (suc n) d h e = absurd (omega (arith, h, e))

-- bits among others that are clear are clear
pub clear_within : (w hi lo up down : ℕ) → down ≤ lo → lo ≤ hi → hi ≤ up → bits w up down ≡ 0 → bits w hi lo ≡ 0
unfolding bits
clear_within w hi lo up down h k l e =
    let x = w / 2 ^ down in
    let a = lo - down in
    let m = hi + 1 - lo in
    let r = up - hi in
    let all : r + (m + a) ≡ up + 1 - down = omega arith in
    let low : x % 2 ^ (r + (m + a)) ≡ x / 2 ^ (m + a) % 2 ^ r * 2 ^ (m + a) + x % 2 ^ (m + a) = mod-pow-add x r (m + a) in
    let part : x % 2 ^ (m + a) ≡ x / 2 ^ a % 2 ^ m * 2 ^ a + x % 2 ^ a = mod-pow-add x m a in
    let z : x % 2 ^ (r + (m + a)) ≡ 0 = ap (λ (n : ℕ). x % 2 ^ n) all ∙ e in
    let y : x % 2 ^ (m + a) ≡ 0 = omega (arith, low, z) in
    let v : x / 2 ^ a % 2 ^ m * 2 ^ a ≡ 0 = omega (arith, part, y) in
    let at : x / 2 ^ a ≡ w / 2 ^ lo = shr-shr w down a ∙ ap (λ (n : ℕ). w / 2 ^ n) (omega arith) in
    ap (λ (n : ℕ). n % 2 ^ m) (sym at) ∙ no_factor (x / 2 ^ a % 2 ^ m) (2 ^ a) (pow_pos a) v
