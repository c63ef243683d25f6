-- The kind of a word by how large the word is: a number in its highest bits is told by its bounds.
-- Assumes nothing.
use Rattle.std.specs.Prelude.{Option}
use mathlib.Core.Path.{◌≡◌, refl, ap, ap₂, ◌∙◌}
use mathlib.Core.Bool.{Bool, true, false, cond}
use Prim.Native.Nat.{ℕ, ◌+◌, ◌*◌, ◌/◌, ◌%◌, ◌≤◌, ◌<◌}
use native.Mathlib.Nat.{le-div_iff_mul-le, div-lt_iff_lt-mul, mod-eq_of_lt}
use native.Mathlib.Omega.{arith}
use lib.Dec.{ltb}
use borrow.Author.Tests.{ltb-true, ltb-false}
use Rattle.objects.specs.Bits.{bits}
use Rattle.objects.specs.declared.Side.TheVariants.{Sink}
use Rattle.objects.specs.declared.Object.{Object}
use Rattle.objects.specs.Decode.{pps_of, by_kind, kind_bits, decode_of, decoded_says, zero_object, not_allowed_for, word_says_for}
use Rattle.objects.proofs.Cases.{kind_short, kind_long, short_is, long_is}

-- a word from k times a power up to the next multiple has k above that power
quotient_is : (w d k : ℕ) → 0 < d → k * d ≤ w → w < (k + 1) * d → w / d ≡ k
quotient_is w d k pos low high =
    let a = (le-div_iff_mul-le {x = k} {y = w} pos).1 low in
    let b = (div-lt_iff_lt-mul {x = w} {y = k + 1} pos).1 high in
    omega (arith, a, b)

-- the highest two bits, and the highest four
two_are : (w k : ℕ) → k < 4 → k * 1073741824 ≤ w → w < (k + 1) * 1073741824 → bits w 31 30 ≡ k
unfolding bits
two_are w k h low high = ap (λ (n : ℕ). n % 4) (quotient_is w 1073741824 k (omega arith) low high) ∙ mod-eq_of_lt h

four_are : (w k : ℕ) → k < 16 → k * 268435456 ≤ w → w < (k + 1) * 268435456 → bits w 31 28 ≡ k
unfolding bits
four_are w k h low high = ap (λ (n : ℕ). n % 16) (quotient_is w 268435456 k (omega arith) low high) ∙ mod-eq_of_lt h

-- what is to be said of a word of a sink, by its number and what it decodes to
abbrev said : ℕ → Option Object → ℕ × Object
said n d = cond (not_allowed_for Sink n) (12, zero_object) (0, (decoded_says d).1)

pub short_of_sink : (w k : ℕ) → k < 3 → k * 1073741824 ≤ w → w < (k + 1) * 1073741824 → word_says_for Sink w ≡ said k (by_kind k w)
short_of_sink w k h low high =
    let e = two_are w k (omega arith) low high in
    let n : kind_bits w ≡ k = kind_short w (λ z. omega (arith, e, z, h)) ∙ e in
    ap₂ said n (short_is w k h n)

long_number : (w k : ℕ) → 12 ≤ k → k < 16 → k * 268435456 ≤ w → w < (k + 1) * 268435456 → kind_bits w ≡ k
long_number w k low high from to = kind_long w (two_are w 3 (omega arith) (omega (arith, low, from)) (omega (arith, high, to))) ∙ four_are w k high from to

pub pps_of_sink : (w : ℕ) → 3221225472 ≤ w → w < 3489660928 → word_says_for Sink w ≡ (0, pps_of w)
pps_of_sink w low high =
    let n = long_number w 12 (omega arith) (omega arith) low high in
    ap₂ said n (long_is w 0 n)

pub none_of_sink : (w : ℕ) → 3489660928 ≤ w → w < 4294967296 → word_says_for Sink w ≡ (12, zero_object)
none_of_sink w low high = first (ltb w 3758096384) refl where
  is : (k : ℕ) → 12 ≤ k → k < 16 → k * 268435456 ≤ w → w < (k + 1) * 268435456 → word_says_for Sink w ≡ said k (decode_of w)
  is k l h from to = ap (λ (n : ℕ). said n (decode_of w)) (long_number w k l h from to)

  second : (b : Bool) → ltb w 4026531840 ≡ b → 3758096384 ≤ w → word_says_for Sink w ≡ (12, zero_object)
  second true e from = is 14 (omega arith) (omega arith) from (ltb-true w 4026531840 e)
  second false e from = is 15 (omega arith) (omega arith) (ltb-false w 4026531840 e) high

  first : (b : Bool) → ltb w 3758096384 ≡ b → word_says_for Sink w ≡ (12, zero_object)
  first true e = is 13 (omega arith) (omega arith) low (ltb-true w 3758096384 e)
  first false e = second (ltb w 4026531840) refl (ltb-false w 3758096384 e)
