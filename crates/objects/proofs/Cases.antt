-- `decode_of` by the numbers in the kind's bits, and by the one number that `kind_bits` makes of them.
-- Assumes nothing.
use Rattle.std.specs.Prelude.{Option, Some, None}
use mathlib.Core.Path.{◌≡◌, refl, ap, sym, ◌∙◌, subst}
use mathlib.Core.Bool.{Bool, true, false, cond}
use mathlib.Core.Logic.{◌⊎◌, inl, inr, ⊎_elim}
use Prim.Native.Nat.{ℕ, zero, suc, ◌+◌, ◌*◌, ◌/◌, ◌%◌, ◌^◌, ◌≤◌, ◌<◌}
use native.Mathlib.Omega.{arith}
use lib.Pow.{mod-pow-add, shr-shr}
use lib.Dec.{eqb}
use borrow.Author.Tests.{eqb-true, eqb-false, ne_eqb}
use Rattle.objects.specs.Bits.{bits}
use Rattle.objects.specs.Decode.{by_augmented, by_kind, kind_bits, is_kind, decode_of, kind_number}
use Rattle.objects.specs.declared.Object.{Object}
use Rattle.objects.proofs.Taking.{bits_lt}

pub kind_is : (w k : ℕ) → bits w 31 30 ≡ k → decode_of w ≡ by_kind k w
unfolding decode_of
kind_is w k e = ap (λ (n : ℕ). by_kind n w) e

pub augmented_is : (w m : ℕ) → bits w 31 30 ≡ 3 → bits w 29 28 ≡ m → decode_of w ≡ by_augmented m w
augmented_is w m e f = kind_is w 3 e ∙ ap (λ (n : ℕ). by_augmented n w) f

-- bits 31..28 are bits 31..30 and 29..28
four : (w : ℕ) → bits w 31 28 ≡ bits w 31 30 * 4 + bits w 29 28
unfolding bits
four w = mod-pow-add (w / 2 ^ 28) 2 2 ∙ ap (λ (x : ℕ). x % 2 ^ 2 * 4 + w / 2 ^ 28 % 2 ^ 2) (shr-shr w 28 2)

module _ (w : ℕ) where
  -- 11b goes on in bits 29..28, and no other kind does
  pub kind_short : (bits w 31 30 ≡ 3 → ⊥) → kind_bits w ≡ bits w 31 30
  unfolding kind_bits
  kind_short f = go (eqb (bits w 31 30) 3) refl where
    go : (b : Bool) → eqb (bits w 31 30) 3 ≡ b → cond b (bits w 31 28) (bits w 31 30) ≡ bits w 31 30
    go true e = absurd (f (eqb-true (bits w 31 30) 3 e))
    go false e = refl

  pub kind_long : bits w 31 30 ≡ 3 → kind_bits w ≡ bits w 31 28
  unfolding kind_bits
  kind_long f = go (eqb (bits w 31 30) 3) refl where
    go : (b : Bool) → eqb (bits w 31 30) 3 ≡ b → cond b (bits w 31 28) (bits w 31 30) ≡ bits w 31 28
    go true e = refl
    go false e = absurd (eqb-false (bits w 31 30) 3 e f)

  -- the three short kinds are below 3; the four long ones are 12 to 15
  pub short_or_long : ((kind_bits w ≡ bits w 31 30) × (bits w 31 30 < 3)) ⊎ ((bits w 31 30 ≡ 3) × (kind_bits w ≡ 12 + bits w 29 28))
  short_or_long = go (eqb (bits w 31 30) 3) refl where
    go : (b : Bool) → eqb (bits w 31 30) 3 ≡ b → ((kind_bits w ≡ bits w 31 30) × (bits w 31 30 < 3)) ⊎ ((bits w 31 30 ≡ 3) × (kind_bits w ≡ 12 + bits w 29 28))
    go true e = let x = eqb-true (bits w 31 30) 3 e in inr (x, kind_long x ∙ omega (arith, four w, x))
    go false e = let f = eqb-false (bits w 31 30) 3 e in inl (kind_short f, omega (arith, f, bits_lt w 31 30))

  pub short_kind : (k : ℕ) → k < 3 → kind_bits w ≡ k → bits w 31 30 ≡ k
  short_kind k h e = ⊎_elim (λ x. sym x.0 ∙ e) (λ x. absurd (omega (arith, x.1, h, e))) short_or_long

  pub long_kind : (m : ℕ) → kind_bits w ≡ 12 + m → (bits w 31 30 ≡ 3) × (bits w 29 28 ≡ m)
  long_kind m e = ⊎_elim (λ x. absurd (omega (arith, x.0, x.1, e))) (λ x. (x.0, omega (arith, x.1, e))) short_or_long

  -- so a word is decoded by this one number
  pub short_is : (k : ℕ) → k < 3 → kind_bits w ≡ k → decode_of w ≡ by_kind k w
  short_is k h e = kind_is w k (short_kind k h e)

  pub long_is : (m : ℕ) → kind_bits w ≡ 12 + m → decode_of w ≡ by_augmented m w
  long_is m e = let x = long_kind m e in augmented_is w m x.0 x.1

  -- and by its four highest bits, where the kind is 11b
  pub last_two : (m : ℕ) → bits w 31 30 ≡ 3 → bits w 31 28 ≡ 12 + m → bits w 29 28 ≡ m
  last_two m e f = omega (arith, four w, e, f)

  -- of which there are four
  pub no_other_kind : bits w 31 30 ≡ 3 → (bits w 31 28 ≡ 12 → ⊥) → (bits w 31 28 ≡ 13 → ⊥) → (bits w 31 28 ≡ 14 → ⊥) → (bits w 31 28 ≡ 15 → ⊥) → ⊥
  no_other_kind e a b d f = go (bits w 29 28) (bits_lt w 29 28) (omega (arith, four w, e)) where
    go : (m : ℕ) → m < 4 → bits w 31 28 ≡ 12 + m → ⊥
    go zero l q = a q
    go (suc zero) l q = b q
    go (suc (suc zero)) l q = d q
    go (suc (suc (suc zero))) l q = f q
    go (suc (suc (suc (suc m)))) l q = omega arith

  -- ---- whether a word is of a kind, by the bits that its number has

  pub told_short : (kind : ℕ) → kind < 3 → eqb (bits w 31 30) kind ≡ is_kind w kind
  told_short kind h =
      ⊎_elim (λ x. sym (ap (λ (n : ℕ). eqb n kind) x.0))
      (λ x. ne_eqb (bits w 31 30) kind (λ e. omega (arith, x.0, h, e)) ∙ sym (ne_eqb (kind_bits w) kind (λ e. omega (arith, x.1, h, e)))) short_or_long

  pub told_none : (kind : ℕ) → 3 ≤ kind → kind < 12 → is_kind w kind ≡ false
  told_none kind low high =
      ne_eqb (kind_bits w) kind
      (λ e. ⊎_elim (λ x. omega (arith, x.0, x.1, low, e)) (λ x. omega (arith, x.1, high, e)) short_or_long)

  pub told_long : (kind : ℕ) → 12 ≤ kind → eqb (bits w 31 28) kind ≡ is_kind w kind
  told_long kind h =
      ⊎_elim
      (λ x.
      ne_eqb (bits w 31 28) kind (λ e. omega (arith, four w, x.1, bits_lt w 29 28, h, e))
      ∙ sym (ne_eqb (kind_bits w) kind (λ e. omega (arith, x.0, x.1, h, e))))
      (λ x. ap (λ (n : ℕ). eqb n kind) (sym (kind_long x.0))) short_or_long

-- ---- the number of a kind agrees with what a word is decoded to

-- of what a word is decoded to: that of its object, or one of the two that are not allowed
abbrev Tells : ℕ → Option Object → Type 0
Tells n (Some o) = n ≡ kind_number o
Tells n None = (n ≡ 13) ⊎ (n ≡ 15)

short_tells : (k w : ℕ) → k < 3 → Tells k (by_kind k w)
short_tells zero w h = refl
short_tells (suc zero) w h = refl
short_tells (suc (suc zero)) w h = refl
short_tells (suc (suc (suc k))) w h = absurd (omega arith)

long_tells : (m w : ℕ) → m < 4 → Tells (12 + m) (by_augmented m w)
long_tells zero w h = refl
long_tells (suc zero) w h = inl refl
long_tells (suc (suc zero)) w h = refl
long_tells (suc (suc (suc zero))) w h = inr refl
long_tells (suc (suc (suc (suc m)))) w h = absurd (omega arith)

tells : (w : ℕ) → Tells (kind_bits w) (decode_of w)
tells w =
    ⊎_elim
    (λ x. both x.0 (kind_is w (bits w 31 30) refl) (short_tells (bits w 31 30) w x.1))
    (λ x. both x.1 (augmented_is w (bits w 29 28) x.0 refl) (long_tells (bits w 29 28) w (bits_lt w 29 28)))
    (short_or_long w)
  where
    both : {n k : ℕ} {d e : Option Object} → n ≡ k → d ≡ e → Tells k e → Tells n d
    both {n} {k} {d} {e} p q t = subst (λ (c : Option Object). Tells n c) (sym q) (subst (λ (j : ℕ). Tells j e) (sym p) t)

pub kind_of_object : (w : ℕ) (o : Object) → decode_of w ≡ Some o → kind_bits w ≡ kind_number o
kind_of_object w o e = subst (Tells (kind_bits w)) e (tells w)

pub kind_of_none : (w : ℕ) → decode_of w ≡ None → (kind_bits w ≡ 13) ⊎ (kind_bits w ≡ 15)
kind_of_none w e = subst (Tells (kind_bits w)) e (tells w)
