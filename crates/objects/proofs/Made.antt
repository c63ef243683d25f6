-- A word that was made of an object has no reserved bit set; after the first word of a list this asks that it has no flags.
-- Assumes nothing.
use Rattle.std.specs.Prelude.{Some}
use mathlib.Core.Path.{◌≡◌, refl, ap, ap₂, ◌∙◌, subst}
use mathlib.Core.Bool.{Bool, true, false, not, ◌&&◌}
use mathlib.Core.List.{List}
use Prim.Native.Nat.{ℕ, ◌+◌, ◌*◌, ◌/◌, ◌%◌, ◌^◌, ◌<◌}
use native.Mathlib.Omega.{arith}
use lib.Pow.{mod-pow-add, shr-shr}
use borrow.Author.Tests.{eq-eqb}
use Rattle.objects.specs.Bits.{bits}
use Rattle.objects.specs.Reserved.{clear, reserved_set}
use Rattle.objects.specs.declared.Side.TheVariants.{Source}
use Rattle.objects.specs.Layout.{Field, all_fit, joined}
use Rattle.objects.specs.Encode.{fields_of, if_fit, word_of, encode_of}
use Rattle.objects.specs.declared.Object.{Object}
use Rattle.objects.specs.declared.Object.TheVariants.{Fixed, Battery, Variable, Pps, Avs}
use Rattle.objects.proofs.Rows.{gapless, total, joined_lt}
use Rattle.objects.proofs.RoundTrip.{made}

-- what may stand in a word that is not the first
abbrev pub flagless : Bool → Object → Type 0
flagless true o = Unit {0}
flagless false (Fixed f p v a) = f ≡ 0
flagless false (Battery x m p) = Unit {0}
flagless false (Variable x m a) = Unit {0}
flagless false (Pps l x m a) = Unit {0}
flagless false (Avs p l h) = Unit {0}

-- bits 29..22 are bits 29..23 and bit 22
eight_of_low : (w : ℕ) → bits w 29 23 ≡ 0 → bits w 22 22 ≡ 0 → bits w 29 22 ≡ 0
unfolding bits
eight_of_low w e f =
    mod-pow-add (w / 2 ^ 22) 7 1
    ∙ ap₂ (λ (x y : ℕ). x % 2 ^ 7 * 2 + y) (shr-shr w 22 1) f
    ∙ ap (λ (x : ℕ). x * 2 + 0) e

all_clear : (w : ℕ) → bits w 26 25 ≡ 0 → bits w 16 16 ≡ 0 → bits w 7 7 ≡ 0 → not (clear w 26 25 && clear w 16 16 && clear w 7 7) ≡ false
all_clear w a b d = rw (eq-eqb (bits w 26 25) 0 a, eq-eqb (bits w 16 16) 0 b, eq-eqb (bits w 7 7) 0 d)

pub made_clear : (o : Object) (w : ℕ) (first : Bool) → encode_of o ≡ Some w → flagless first o → reserved_set Source o first w ≡ false
unfolding reserved_set
made_clear (Fixed f p v a) w true e t =
    let r = made (fields_of (Fixed f p v a)) w refl e in
    let z : bits w 22 22 ≡ 0 = cc in
    ap not (eq-eqb (bits w 22 22) 0 z)
made_clear (Fixed f p v a) w false e t =
    let r = made (fields_of (Fixed f p v a)) w refl e in
    let z : bits w 22 22 ≡ 0 = cc in
    let y : bits w 29 23 ≡ 0 = cc in
    ap not (eq-eqb (bits w 29 22) 0 (eight_of_low w y z))
made_clear (Battery x m p) w first e t = refl
made_clear (Variable x m a) w first e t = refl
made_clear (Pps l x m a) w first e t =
    let r = made (fields_of (Pps l x m a)) w refl e in
    let z : bits w 26 25 ≡ 0 = cc in
    let y : bits w 16 16 ≡ 0 = cc in
    let x : bits w 7 7 ≡ 0 = cc in
    all_clear w z y x
made_clear (Avs p l h) w first e t =
    let r = made (fields_of (Avs p l h)) w refl e in
    let z : bits w 25 20 ≡ 0 = cc in
    ap not (eq-eqb (bits w 25 20) 0 z)

-- ---- a word has 32 bits

fitting : (fs : List Field) (w : ℕ) → gapless 0 fs ≡ true → word_of fs ≡ Some w → w < 2 ^ total fs
unfolding word_of
fitting fs w t e = go (all_fit fs) refl e where
  go : (b : Bool) → all_fit fs ≡ b → if_fit b (joined fs) ≡ Some w → w < 2 ^ total fs
  go true q r = let j : joined fs ≡ w = cc in subst (λ (x : ℕ). x < 2 ^ total fs) j (joined_lt fs t q)
  go false q r = let z : ◌≡◌ {A = ℕ} 0 1 = cc in absurd (omega arith)

pub made_lt : (o : Object) (w : ℕ) → encode_of o ≡ Some w → w < 2 ^ 32
made_lt (Fixed f p v a) w e = fitting (fields_of (Fixed f p v a)) w refl e
made_lt (Battery x m p) w e = fitting (fields_of (Battery x m p)) w refl e
made_lt (Variable x m a) w e = fitting (fields_of (Variable x m a)) w refl e
made_lt (Pps l x m a) w e = fitting (fields_of (Pps l x m a)) w refl e
made_lt (Avs p l h) w e = fitting (fields_of (Avs p l h)) w refl e
