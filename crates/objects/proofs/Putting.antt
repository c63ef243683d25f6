-- What a row of shifts and ors makes: each field goes past all that stand there, so the word is the sum of the fields at their places.
-- Assumes nothing.
use mathlib.Core.Path.{◌≡◌, sym, ap, ◌∙◌, subst}
use mathlib.Core.Bool.{Bool, true, ◌&&◌, and-eq-true_iff}
use mathlib.Core.List.{List, [], ◌∷◌}
use Prim.Native.Nat.{ℕ, ◌+◌, ◌-◌, ◌*◌, ◌%◌, ◌^◌, ◌<◌, ◌≤◌}
use native.Mathlib.Nat.{add_comm, add_assoc, add-zero, lt_of_lt_of_le}
use native.Mathlib.Omega.{arith}
use borrow.Author.Tests.{leb-true}
use lib.Bits.{bit_or, or_shifted_r}
use lib.Pow.{pow_mono, shl_exact, pow-add}
use lib.Arith.{digits_lt}
use lib.Dec.{leb}
use Rattle.objects.specs.Layout.{Field, field, joined}

-- x | v << lo | ..
abbrev pub ored : ℕ → List Field → ℕ
ored x [] = x
ored x (field v hi lo ∷ fs) = ored (bit_or x (v * 2 ^ lo % 2 ^ 32)) fs

-- the fields stand in order, from bit a up, within 32 bits; gaps are allowed
abbrev pub rising : ℕ → List Field → Bool
rising a [] = true
rising a (field v hi lo ∷ fs) = leb a lo && (leb lo (hi + 1) && (leb (hi + 1) 32 && rising (hi + 1) fs))

abbrev pub Fit : List Field → Type 0
Fit [] = Unit {0}
Fit (field v hi lo ∷ fs) = (v < 2 ^ (hi + 1 - lo)) × Fit fs

pub ored_joined : (x a : ℕ) (fs : List Field) → x < 2 ^ a → rising a fs ≡ true → Fit fs → ored x fs ≡ x + joined fs
ored_joined x a [] h t f = sym (add-zero x)
ored_joined x a (field v hi lo ∷ fs) h t f =
    let t1 = (and-eq-true_iff (leb a lo) _).0 t in
    let t2 = (and-eq-true_iff (leb lo (hi + 1)) _).0 t1.1 in
    let t3 = (and-eq-true_iff (leb (hi + 1) 32) _).0 t2.1 in
    let up : lo ≤ hi + 1 = leb-true lo (hi + 1) t2.0 in
    let top : hi + 1 ≤ 32 = leb-true (hi + 1) 32 t3.0 in
    let n = hi + 1 - lo in
    let ends : n + lo ≡ hi + 1 = omega arith in
    let low : x < 2 ^ lo = lt_of_lt_of_le h (pow_mono (leb-true a lo t1.0)) in
    let e : bit_or x (v * 2 ^ lo % 2 ^ 32) ≡ x + v * 2 ^ lo =
    ap (bit_or x) (shl_exact n lo 32 f.0 (omega arith)) ∙ or_shifted_r v lo x low ∙ add_comm (v * 2 ^ lo) x in
    let next : x + v * 2 ^ lo < 2 ^ (hi + 1) =
    subst (λ (k : ℕ). x + v * 2 ^ lo < 2 ^ k) ends
    (subst (λ (k : ℕ). x + v * 2 ^ lo < k) (sym (pow-add 2 n lo))
    (subst (λ (k : ℕ). k < 2 ^ n * 2 ^ lo) (add_comm (v * 2 ^ lo) x) (digits_lt f.0 low))) in
    ap (λ (y : ℕ). ored y fs) e
    ∙ ored_joined (x + v * 2 ^ lo) (hi + 1) fs next t3.1 f.1
    ∙ add_assoc x (v * 2 ^ lo) (joined fs)
