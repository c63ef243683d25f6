-- What the kind's bits tell of a word: of a fixed word and an AVS word the fields, of any other that it is neither.
-- Assumes nothing.
use mathlib.Core.Path.{◌≡◌, refl, sym, ap, ap₂, ◌∙◌}
use mathlib.Core.Bool.{Bool, true, false, ◌&&◌}
use mathlib.Core.Logic.{⊎_elim}
use Prim.Native.Nat.{ℕ, zero, suc, ◌+◌, ◌*◌, ◌/◌, ◌^◌, ◌<◌}
use native.Mathlib.Omega.{arith}
use lib.Bits.{bit_and}
use lib.Dec.{eqb}
use borrow.Author.Tests.{eqb-true, eqb-false}
use Rattle.steps.specs.Units.{mv50}
use Rattle.steps.proofs.StepTests.{at}
use Rattle.steps.specs.declared.Mv50.{Mv50}
use Rattle.steps.specs.declared.Ma10.{Ma10}
use Rattle.objects.specs.Bits.{bits}
use Rattle.objects.specs.Asking.{of_object, of_fixed, of_avs}
use Rattle.objects.specs.Decode.{by_augmented, by_kind, kind_bits, is_kind, decode_of}
use Rattle.objects.proofs.Taking.{taken, taken_low}
use Rattle.objects.proofs.Cases.{kind_is, augmented_is, kind_short, short_or_long, short_is, long_is}
use Rattle.lists.specs.Shape.{is_fixed_5_V, fixed_with}

-- ---- fixed: 00b

module _ (asked : Mv50 → Ma10 → Bool) where
  augmented_no_fixed : (m w : ℕ) → of_object (of_fixed asked) (by_augmented m w) ≡ false
  augmented_no_fixed zero w = refl
  augmented_no_fixed (suc zero) w = refl
  augmented_no_fixed (suc (suc zero)) w = refl
  augmented_no_fixed (suc (suc (suc m))) w = refl

  kind_no_fixed : (k w : ℕ) → (k ≡ 0 → ⊥) → of_object (of_fixed asked) (by_kind k w) ≡ false
  kind_no_fixed zero w f = absurd (f refl)
  kind_no_fixed (suc zero) w f = refl
  kind_no_fixed (suc (suc zero)) w f = refl
  kind_no_fixed (suc (suc (suc k))) w f = augmented_no_fixed (bits w 29 28) w

  pub no_fixed : (w : ℕ) → is_kind w 0 ≡ false → of_object (of_fixed asked) (decode_of w) ≡ false
  no_fixed w f =
      ap (of_object (of_fixed asked)) (kind_is w (bits w 31 30) refl)
      ∙ kind_no_fixed (bits w 31 30) w (λ e. eqb-false (kind_bits w) 0 f (kind_short w (λ t. omega (arith, e, t)) ∙ e))

  pub a_fixed : (w : ℕ) → is_kind w 0 ≡ true
      → of_object (of_fixed asked) (decode_of w) ≡ asked (record { 0 = bits w 19 10 }) (record { 0 = bits w 9 0 })
  a_fixed w e = ap (of_object (of_fixed asked)) (short_is w 0 (omega arith) (eqb-true (kind_bits w) 0 e))

-- the bits that the code looks at
abbrev pub volts_of : ℕ → ℕ
volts_of w = bit_and (w / 2 ^ 10) 1023

pub fixed_told : (w : ℕ) (volts : Mv50) (current : Ma10)
    → of_object (fixed_with (mv50 volts) current) (decode_of w) ≡ ((is_kind w 0 && eqb (volts_of w) volts.0) && eqb (bit_and w 1023) current.0)
fixed_told w volts current = go (is_kind w 0) refl where
  asked : Mv50 → Ma10 → Bool
  asked v a = eqb (mv50 v) (mv50 volts) && eqb a.0 current.0

  go : (k : Bool) → is_kind w 0 ≡ k → of_object (fixed_with (mv50 volts) current) (decode_of w) ≡ ((k && eqb (volts_of w) volts.0) && eqb (bit_and w 1023) current.0)
  go true e =
      a_fixed asked w e
      ∙ ap₂ (λ (v a : ℕ). eqb (v * 50) (mv50 volts) && eqb a current.0) (sym (taken w 19 10)) (sym (taken_low w 9))
      ∙ ap (λ (b : Bool). b && eqb (bit_and w 1023) current.0) (sym (at 50 volts.0 (volts_of w) (omega arith)))
  go false e = no_fixed asked w e

pub fixed_5_V_told : (w : ℕ) → is_fixed_5_V w ≡ (is_kind w 0 && eqb (volts_of w) 100)
unfolding is_fixed_5_V
fixed_5_V_told w = go (is_kind w 0) refl where
  go : (k : Bool) → is_kind w 0 ≡ k → of_object (of_fixed (λ v a. eqb (mv50 v) 5000)) (decode_of w) ≡ (k && eqb (volts_of w) 100)
  go true e =
      a_fixed (λ v a. eqb (mv50 v) 5000) w e
      ∙ ap (λ (v : ℕ). eqb (v * 50) 5000) (sym (taken w 19 10))
      ∙ sym (at 50 100 (volts_of w) (omega arith))
  go false e = no_fixed (λ v a. eqb (mv50 v) 5000) w e

-- ---- SPR AVS: 1110b

module _ (asked : Ma10 → Ma10 → Bool) where
  augmented_no_avs : (m w : ℕ) → (m ≡ 2 → ⊥) → of_object (of_avs asked) (by_augmented m w) ≡ false
  augmented_no_avs zero w f = refl
  augmented_no_avs (suc zero) w f = refl
  augmented_no_avs (suc (suc zero)) w f = absurd (f refl)
  augmented_no_avs (suc (suc (suc m))) w f = refl

  short_no_avs : (k w : ℕ) → k < 3 → of_object (of_avs asked) (by_kind k w) ≡ false
  short_no_avs zero w h = refl
  short_no_avs (suc zero) w h = refl
  short_no_avs (suc (suc zero)) w h = refl
  short_no_avs (suc (suc (suc k))) w h = absurd (omega arith)

  pub no_avs : (w : ℕ) → is_kind w 14 ≡ false → of_object (of_avs asked) (decode_of w) ≡ false
  no_avs w f =
      ⊎_elim (λ x. ap (of_object (of_avs asked)) (kind_is w (bits w 31 30) refl) ∙ short_no_avs (bits w 31 30) w x.1)
      (λ x.
      ap (of_object (of_avs asked)) (augmented_is w (bits w 29 28) x.0 refl)
      ∙ augmented_no_avs (bits w 29 28) w (λ e. eqb-false (kind_bits w) 14 f (x.1 ∙ ap (λ (m : ℕ). 12 + m) e)))
      (short_or_long w)

  pub an_avs : (w : ℕ) → is_kind w 14 ≡ true
      → of_object (of_avs asked) (decode_of w) ≡ asked (record { 0 = bits w 19 10 }) (record { 0 = bits w 9 0 })
  an_avs w e = ap (of_object (of_avs asked)) (long_is w 2 (eqb-true (kind_bits w) 14 e))
