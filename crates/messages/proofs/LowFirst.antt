-- Laws of numbers as bytes, both ways: each byte is a field of eight bits, so the laws of fields say it.
-- Assumes nothing.
use mathlib.Core.Path.{◌≡◌, refl}
use mathlib.Core.Bool.{true}
use mathlib.Core.List.{List, [], ◌∷◌}
use Prim.Native.Nat.{ℕ, ◌^◌, ◌<◌}
use native.Mathlib.Omega.{arith}
use lib.ListN.{length, set}
use borrow.Author.Tests.{lt-ltb}
use Rattle.objects.specs.Bits.{bits}
use Rattle.objects.specs.Layout.{all_fit, joined}
use Rattle.objects.proofs.Rows.{whole, parted}
use Rattle.messages.specs.LowFirst.{two_bytes, four_bytes, two_fields, four_fields}

-- the bytes of a number make the number again
pub two_whole : (h : ℕ) → h < 2 ^ 16 → joined (two_fields (bits h 7 0) (bits h 15 8)) ≡ h
two_whole h l = whole h (two_fields 0 0) refl l

pub four_whole : (w : ℕ) → w < 2 ^ 32 → joined (four_fields (bits w 7 0) (bits w 15 8) (bits w 23 16) (bits w 31 24)) ≡ w
four_whole w l = whole w (four_fields 0 0 0 0) refl l

-- the number that bytes make has these bytes
module _ (a b : ℕ) (ha : a < 2 ^ 8) (hb : b < 2 ^ 8) where
  pub two_fit : all_fit (two_fields a b) ≡ true
  two_fit = simp (lt-ltb a (2 ^ 8) ha, lt-ltb b (2 ^ 8) hb)

  pub two_parted : two_bytes (joined (two_fields a b)) ≡ a ∷ b ∷ []
  two_parted = let e = parted (two_fields a b) refl two_fit in cc

module _ (a b c d : ℕ) (ha : a < 2 ^ 8) (hb : b < 2 ^ 8) (hc : c < 2 ^ 8) (hd : d < 2 ^ 8) where
  four_fit : all_fit (four_fields a b c d) ≡ true
  four_fit = simp (lt-ltb a (2 ^ 8) ha, lt-ltb b (2 ^ 8) hb, lt-ltb c (2 ^ 8) hc, lt-ltb d (2 ^ 8) hd)

  pub four_parted : four_bytes (joined (four_fields a b c d)) ≡ a ∷ b ∷ c ∷ d ∷ []
  four_parted = let e = parted (four_fields a b c d) refl four_fit in cc

-- ---- a part with as many bytes as are put there

pub all_two : (bs : List ℕ) → length bs ≡ 2 → {a b : ℕ} → set (set bs 0 a) 1 b ≡ a ∷ b ∷ []
all_two [] e = absurd (omega (arith, e))
all_two (x ∷ []) e = absurd (omega (arith, e))
all_two (x ∷ y ∷ []) e = refl
all_two (x ∷ y ∷ z ∷ bs) e = absurd (omega (arith, e))

pub all_four : (bs : List ℕ) → length bs ≡ 4 → {a b c d : ℕ} → set (set (set (set bs 0 a) 1 b) 2 c) 3 d ≡ a ∷ b ∷ c ∷ d ∷ []
all_four [] e = absurd (omega (arith, e))
all_four (x ∷ []) e = absurd (omega (arith, e))
all_four (x ∷ y ∷ []) e = absurd (omega (arith, e))
all_four (x ∷ y ∷ z ∷ []) e = absurd (omega (arith, e))
all_four (x ∷ y ∷ z ∷ v ∷ []) e = refl
all_four (x ∷ y ∷ z ∷ v ∷ u ∷ bs) e = absurd (omega (arith, e))
