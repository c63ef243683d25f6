-- Which words and which objects are refused, by their numbers.
-- Assumes nothing.
use mathlib.Core.Path.{◌≡◌, refl, ap}
use mathlib.Core.Bool.{Bool, true, false}
use mathlib.Core.List.{List}
use mathlib.Core.Logic.{◌↔◌, ◌⊎◌, inl, inr, ⊎_elim}
use Prim.Native.Nat.{ℕ, zero, suc, ◌<◌}
use native.Mathlib.Omega.{arith}
use Rattle.objects.specs.Bits.{bits}
use Rattle.objects.specs.Layout.{Field, all_fit, joined}
use Rattle.objects.specs.Decode.{by_kind, by_augmented, decode_of, decoded_number}
use Rattle.objects.specs.Encode.{fields_of, if_fit, word_of, encode_of, encoded_number}
use Rattle.objects.specs.declared.Object.{Object}
use Rattle.objects.proofs.Taking.{bits_lt}
use Rattle.objects.proofs.Cases.{augmented_is}

-- the two numbers in 29..28 that are not allowed
augmented_12 : (m w : ℕ) → m < 4 → decoded_number (by_augmented m w) ≡ 12 → (m ≡ 1) ⊎ (m ≡ 3)
augmented_12 zero w h e = absurd (omega arith)
augmented_12 (suc zero) w h e = inl refl
augmented_12 (suc (suc zero)) w h e = absurd (omega arith)
augmented_12 (suc (suc (suc zero))) w h e = inr refl
augmented_12 (suc (suc (suc (suc m)))) w h e = absurd (omega arith)

kind_12 : (k w : ℕ) → k < 4 → decoded_number (by_kind k w) ≡ 12 → (k ≡ 3) × ((bits w 29 28 ≡ 1) ⊎ (bits w 29 28 ≡ 3))
kind_12 zero w h e = absurd (omega arith)
kind_12 (suc zero) w h e = absurd (omega arith)
kind_12 (suc (suc zero)) w h e = absurd (omega arith)
kind_12 (suc (suc (suc zero))) w h e = (refl, augmented_12 (bits w 29 28) w (bits_lt w 29 28) e)
kind_12 (suc (suc (suc (suc k)))) w h e = absurd (omega arith)

pub decode_refuses : (w : ℕ) → decoded_number (decode_of w) ≡ 12 ↔ ((bits w 31 30 ≡ 3) × ((bits w 29 28 ≡ 1) ⊎ (bits w 29 28 ≡ 3)))
unfolding decode_of
decode_refuses w = (
  (λ e. kind_12 (bits w 31 30) w (bits_lt w 31 30) e),
  (λ x. ⊎_elim (λ m. ap decoded_number (augmented_is w 1 x.0 m)) (λ m. ap decoded_number (augmented_is w 3 x.0 m)) x.1),
)

too_wide : (b : Bool) (w : ℕ) → encoded_number (if_fit b w) ≡ 7 → b ≡ false
too_wide true w e = absurd (omega arith)
too_wide false w e = refl

pub fields_refused : (fs : List Field) → encoded_number (word_of fs) ≡ 7 ↔ (all_fit fs ≡ false)
unfolding word_of
fields_refused fs = ((λ e. too_wide (all_fit fs) (joined fs) e), (λ e. ap (λ (b : Bool). encoded_number (if_fit b (joined fs))) e))

pub encode_refuses : (o : Object) → encoded_number (encode_of o) ≡ 7 ↔ (all_fit (fields_of o) ≡ false)
encode_refuses o = fields_refused (fields_of o)
