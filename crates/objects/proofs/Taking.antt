-- One law for each field of a word, over its bit places: what a shift and a mask take out is `bits w hi lo`, and it fits.
-- Assumes nothing.
use mathlib.Core.Path.{◌≡◌, ◌∙◌, ap, sym}
use Prim.Native.Nat.{ℕ, ◌+◌, ◌-◌, ◌/◌, ◌%◌, ◌^◌, ◌<◌}
use native.Mathlib.Nat.{div-one, mod-lt}
use lib.Bits.{bit_and, and_mask, mask_lt}
use lib.Pow.{pow_pos}
use lib.Dec.{T, leb}
use mir.Syntax.{Width}
use mir.Val.{Fits}
use mir.Val as val
use mir.Facts.{Fits-bits}
use Rattle.objects.specs.Bits.{bits}

-- (w >> lo) & mask
pub taken : (w hi lo : ℕ) → bit_and (w / 2 ^ lo) (2 ^ (hi + 1 - lo) - 1) ≡ bits w hi lo
unfolding bits
taken w hi lo = and_mask (w / 2 ^ lo) (hi + 1 - lo)

-- w & mask: a field at bit 0 has no shift
pub taken_low : (w hi : ℕ) → bit_and w (2 ^ (hi + 1 - 0) - 1) ≡ bits w hi 0
unfolding bits
taken_low w hi = and_mask w (hi + 1 - 0) ∙ ap (λ (x : ℕ). x % 2 ^ (hi + 1 - 0)) (sym (div-one w))

pub bits_lt : (w hi lo : ℕ) → bits w hi lo < 2 ^ (hi + 1 - lo)
unfolding bits
bits_lt w hi lo = mod-lt (w / 2 ^ lo) (pow_pos (hi + 1 - lo))

pub taken_fits : {u : Width} (w hi lo : ℕ) → T (leb (hi + 1 - lo) (val.bits u)) → Fits u (bit_and (w / 2 ^ lo) (2 ^ (hi + 1 - lo) - 1))
taken_fits w hi lo t = Fits-bits (hi + 1 - lo) t (mask_lt (w / 2 ^ lo) (hi + 1 - lo))

pub low_fits : {u : Width} (w hi : ℕ) → T (leb (hi + 1) (val.bits u)) → Fits u (bit_and w (2 ^ (hi + 1) - 1))
low_fits w hi t = Fits-bits (hi + 1) t (mask_lt w (hi + 1))
