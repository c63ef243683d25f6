-- A word is the sum of its fields, and the fields of such a sum are the fields again: proved once, over any row of fields that leaves no gap.
-- Assumes nothing.
use mathlib.Core.Path.{◌≡◌, refl, sym, ap, ap₂, ◌∙◌, subst}
use mathlib.Core.Bool.{Bool, true, ◌&&◌, and-eq-true_iff}
use mathlib.Core.List.{List, [], ◌∷◌}
use Prim.Native.Nat.{ℕ, ◌+◌, ◌-◌, ◌*◌, ◌/◌, ◌%◌, ◌^◌, ◌<◌, ◌≤◌}
use native.Mathlib.Nat.{add_comm, mul_comm, mul_assoc, add-mul, zero-mul, mul-one, div-one, mod-one, mod-lt, mod-eq_of_lt}
use native.Mathlib.Omega.{arith}
use lib.Pow.{pow_pos, pow-add, shr-shr, mod-pow-add, high, low}
use lib.Arith.{digits_lt}
use lib.Dec.{ltb, leb, eqb}
use borrow.Author.Tests.{lt-ltb, ltb-true, leb-true, eqb-true}
use Rattle.objects.specs.Bits.{bits}
use Rattle.objects.specs.Layout.{Field, field, all_fit, joined}

-- the same bit places, with the numbers that stand there in w
abbrev pub retaken : ℕ → List Field → List Field
retaken w [] = []
retaken w (field v hi lo ∷ fs) = field (bits w hi lo) hi lo ∷ retaken w fs

-- each field begins where the one before it ends
abbrev pub gapless : ℕ → List Field → Bool
gapless a [] = true
gapless a (field v hi lo ∷ fs) = eqb lo a && (leb lo (hi + 1) && gapless (hi + 1) fs)

abbrev pub total : List Field → ℕ
total [] = 0
total (field v hi lo ∷ fs) = total fs + (hi + 1 - lo)

-- the same two with the word shifted down at each step, by which the inductions go
abbrev shifted : ℕ → List Field → List Field
shifted x [] = []
shifted x (field v hi lo ∷ fs) = field (x % 2 ^ (hi + 1 - lo)) hi lo ∷ shifted (x / 2 ^ (hi + 1 - lo)) fs

abbrev packed : List Field → ℕ
packed [] = 0
packed (field v hi lo ∷ fs) = packed fs * 2 ^ (hi + 1 - lo) + v

record Gapless (a hi lo : ℕ) (fs : List Field) : Type 0 where
  pub starts : lo ≡ a
  pub ends : a + (hi + 1 - lo) ≡ hi + 1
  pub rest : gapless (hi + 1) fs ≡ true

gapless_parts : (a v hi lo : ℕ) (fs : List Field) → gapless a (field v hi lo ∷ fs) ≡ true → Gapless a hi lo fs
gapless_parts a v hi lo fs t =
    let t1 = (and-eq-true_iff (eqb lo a) _).0 t in
    let t2 = (and-eq-true_iff (leb lo (hi + 1)) _).0 t1.1 in
    let e : lo ≡ a = eqb-true lo a t1.0 in
    let l : lo ≤ hi + 1 = leb-true lo (hi + 1) t2.0 in
    record { starts = e; ends = omega arith; rest = t2.1 }

retaken_shifted : (w a : ℕ) (fs : List Field) → gapless a fs ≡ true → retaken w fs ≡ shifted (w / 2 ^ a) fs
unfolding bits
retaken_shifted w a [] t = refl
retaken_shifted w a (field v hi lo ∷ fs) t =
    let g = gapless_parts a v hi lo fs t in
    let n = hi + 1 - lo in
    ap₂ (λ (x : ℕ) (gs : List Field). field x hi lo ∷ gs) (ap (λ (k : ℕ). w / 2 ^ k % 2 ^ n) g.starts)
    (retaken_shifted w (hi + 1) fs g.rest
    ∙ ap (λ (x : ℕ). shifted x fs) (ap (λ (k : ℕ). w / 2 ^ k) (sym g.ends) ∙ sym (shr-shr w a n)))

joined_packed : (a : ℕ) (fs : List Field) → gapless a fs ≡ true → joined fs ≡ packed fs * 2 ^ a
joined_packed a [] t = sym (zero-mul (2 ^ a))
joined_packed a (field v hi lo ∷ fs) t =
    let g = gapless_parts a v hi lo fs t in
    let n = hi + 1 - lo in
    add_comm (v * 2 ^ lo) (joined fs)
    ∙ ap₂ (λ (x k : ℕ). x + v * 2 ^ k)
    (joined_packed (hi + 1) fs g.rest
    ∙ ap (λ (x : ℕ). packed fs * x) (ap (λ (k : ℕ). 2 ^ k) (sym g.ends) ∙ pow-add 2 a n ∙ mul_comm (2 ^ a) (2 ^ n))
    ∙ sym (mul_assoc (packed fs) (2 ^ n) (2 ^ a)))
    g.starts
    ∙ sym (add-mul (packed fs * 2 ^ n) v (2 ^ a))

packed_shifted : (x : ℕ) (fs : List Field) → packed (shifted x fs) ≡ x % 2 ^ total fs
packed_shifted x [] = sym (mod-one x)
packed_shifted x (field v hi lo ∷ fs) =
    let n = hi + 1 - lo in
    ap (λ (y : ℕ). y * 2 ^ n + x % 2 ^ n) (packed_shifted (x / 2 ^ n) fs) ∙ sym (mod-pow-add x (total fs) n)

shifted_packed : (fs : List Field) → all_fit fs ≡ true → shifted (packed fs) fs ≡ fs
shifted_packed [] t = refl
shifted_packed (field v hi lo ∷ fs) t =
    let n = hi + 1 - lo in
    let f = (and-eq-true_iff (ltb v (2 ^ n)) (all_fit fs)).0 t in
    let h : v < 2 ^ n = ltb-true v (2 ^ n) f.0 in
    ap₂ (λ (x : ℕ) (gs : List Field). field x hi lo ∷ gs) (low (packed fs) n h)
    (ap (λ (x : ℕ). shifted x fs) (high (packed fs) n h) ∙ shifted_packed fs f.1)

gapless_shifted : (x a : ℕ) (fs : List Field) → gapless a (shifted x fs) ≡ gapless a fs
gapless_shifted x a [] = refl
gapless_shifted x a (field v hi lo ∷ fs) =
    ap (λ (b : Bool). eqb lo a && (leb lo (hi + 1) && b)) (gapless_shifted (x / 2 ^ (hi + 1 - lo)) (hi + 1) fs)

pub retaken_fit : (w : ℕ) (fs : List Field) → all_fit (retaken w fs) ≡ true
unfolding bits
retaken_fit w [] = refl
retaken_fit w (field v hi lo ∷ fs) =
    (and-eq-true_iff (ltb (bits w hi lo) (2 ^ (hi + 1 - lo))) (all_fit (retaken w fs))).1
    (lt-ltb _ _ (mod-lt (w / 2 ^ lo) (pow_pos (hi + 1 - lo))), retaken_fit w fs)

-- a word is the sum of its fields
pub whole : (w : ℕ) (fs : List Field) → gapless 0 fs ≡ true → w < 2 ^ total fs → joined (retaken w fs) ≡ w
whole w fs t h =
    ap joined (retaken_shifted w 0 fs t)
    ∙ joined_packed 0 (shifted (w / 2 ^ 0) fs) (gapless_shifted (w / 2 ^ 0) 0 fs ∙ t)
    ∙ mul-one (packed (shifted (w / 2 ^ 0) fs))
    ∙ packed_shifted (w / 2 ^ 0) fs
    ∙ ap (λ (x : ℕ). x % 2 ^ total fs) (div-one w)
    ∙ mod-eq_of_lt h

-- the fields of a sum of fields that fit
pub parted : (fs : List Field) → gapless 0 fs ≡ true → all_fit fs ≡ true → retaken (joined fs) fs ≡ fs
parted fs t f =
    retaken_shifted (joined fs) 0 fs t
    ∙ ap (λ (x : ℕ). shifted x fs) (div-one (joined fs) ∙ joined_packed 0 fs t ∙ mul-one (packed fs))
    ∙ shifted_packed fs f

packed_lt : (fs : List Field) → all_fit fs ≡ true → packed fs < 2 ^ total fs
packed_lt [] t = omega arith
packed_lt (field v hi lo ∷ fs) t =
    let n = hi + 1 - lo in
    let f = (and-eq-true_iff (ltb v (2 ^ n)) (all_fit fs)).0 t in
    subst (λ (k : ℕ). packed fs * 2 ^ n + v < k) (sym (pow-add 2 (total fs) n)) (digits_lt (packed_lt fs f.1) (ltb-true v (2 ^ n) f.0))

-- a sum of fields that fit is below the next power
pub joined_lt : (fs : List Field) → gapless 0 fs ≡ true → all_fit fs ≡ true → joined fs < 2 ^ total fs
joined_lt fs t f = subst (λ (k : ℕ). k < 2 ^ total fs) (sym (joined_packed 0 fs t ∙ mul-one (packed fs))) (packed_lt fs f)
