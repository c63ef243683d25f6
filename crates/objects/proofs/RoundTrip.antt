-- Both round trips of one word and one object, over the definitions.
-- Assumes nothing.
use Rattle.std.specs.Prelude.{Option, Some, None}
use mathlib.Core.Path.{◌≡◌, refl, ap, ◌∙◌, subst}
use mathlib.Core.Bool.{Bool, true, false, ◌&&◌, and-eq-true_iff}
use mathlib.Core.List.{List}
use Prim.Native.Nat.{ℕ, zero, suc, ◌^◌, ◌<◌}
use borrow.Author.Tests.{eqb-true, not-false}
use native.Mathlib.Omega.{arith}
use Rattle.objects.specs.Bits.{bits}
use Rattle.objects.specs.Layout.{Field, all_fit, joined}
use Rattle.objects.specs.Decode.{fixed_of, battery_of, variable_of, pps_of, avs_of, by_kind, by_augmented, decode_of, decode_for}
use Rattle.objects.specs.Reserved.{clear, fixed_clear, reserved_clear, reserved_set}
use Rattle.objects.specs.declared.Side.{Side}
use Rattle.objects.specs.declared.Side.TheVariants.{Source}
use Rattle.objects.specs.Encode.{fields_of, if_fit, word_of, encode_of}
use Rattle.objects.specs.declared.Object.{Object}
use Rattle.objects.specs.declared.Object.TheVariants.{Fixed, Battery, Variable, Pps, Avs}
use Rattle.objects.proofs.Taking.{bits_lt}
use Rattle.objects.proofs.SetBits.{clear_within}
use Rattle.objects.proofs.Cases.{kind_is, augmented_is}
use Rattle.objects.proofs.Sides.{known_for, clear_for}
use Rattle.objects.proofs.Rows.{retaken, gapless, total, retaken_fit, whole, parted}

-- fields that are those of a word make that word, whatever the layout
pub from_word : (w : ℕ) (fs : List Field) → gapless 0 fs ≡ true → w < 2 ^ total fs → fs ≡ retaken w fs → word_of fs ≡ Some w
unfolding word_of
from_word w fs t h e = rw e (rw (retaken_fit w fs) (ap Some (whole w fs t h)))

-- bit 22 is among 29..22
fixed_low : (first : Bool) (w : ℕ) → fixed_clear Source first w ≡ true → bits w 22 22 ≡ 0
fixed_low true w t = eqb-true (bits w 22 22) 0 t
fixed_low false w t = clear_within w 22 22 29 22 (omega arith) (omega arith) (omega arith) (eqb-true (bits w 29 22) 0 t)

module _ (w : ℕ) (h : w < 2 ^ 32) (first : Bool) where
  fixed_back : bits w 31 30 ≡ 0 → reserved_clear Source (fixed_of w) first w ≡ true → encode_of (fixed_of w) ≡ Some w
  fixed_back k t =
      let r : bits w 22 22 ≡ 0 = fixed_low first w t in
      from_word w (fields_of (fixed_of w)) refl h (cc)

  battery_back : bits w 31 30 ≡ 1 → encode_of (battery_of w) ≡ Some w
  battery_back k = from_word w (fields_of (battery_of w)) refl h (cc)

  variable_back : bits w 31 30 ≡ 2 → encode_of (variable_of w) ≡ Some w
  variable_back k = from_word w (fields_of (variable_of w)) refl h (cc)

  pps_back : bits w 31 30 ≡ 3 → bits w 29 28 ≡ 0 → reserved_clear Source (pps_of w) first w ≡ true → encode_of (pps_of w) ≡ Some w
  pps_back k m t =
      let t1 = (and-eq-true_iff (clear w 26 25 && clear w 16 16) (clear w 7 7)).0 t in
      let t2 = (and-eq-true_iff (clear w 26 25) (clear w 16 16)).0 t1.0 in
      let a : bits w 26 25 ≡ 0 = eqb-true (bits w 26 25) 0 t2.0 in
      let b : bits w 16 16 ≡ 0 = eqb-true (bits w 16 16) 0 t2.1 in
      let d : bits w 7 7 ≡ 0 = eqb-true (bits w 7 7) 0 t1.1 in
      from_word w (fields_of (pps_of w)) refl h (cc)

  avs_back : bits w 31 30 ≡ 3 → bits w 29 28 ≡ 2 → reserved_clear Source (avs_of w) first w ≡ true → encode_of (avs_of w) ≡ Some w
  avs_back k m t =
      let r : bits w 25 20 ≡ 0 = eqb-true (bits w 25 20) 0 t in
      from_word w (fields_of (avs_of w)) refl h (cc)

  -- what is said of each object that a word can decode to
  Back : Option Object → Type 0
  Back (Some o) = reserved_clear Source o first w ≡ true → encode_of o ≡ Some w
  Back None = Unit {0}

  augmented_back : (m : ℕ) → bits w 31 30 ≡ 3 → bits w 29 28 ≡ m → Back (by_augmented m w)
  unfolding Back
  augmented_back zero k e = pps_back k e
  augmented_back (suc zero) k e = tt
  augmented_back (suc (suc zero)) k e = avs_back k e
  augmented_back (suc (suc (suc m))) k e = tt

  kind_back : (n : ℕ) → bits w 31 30 ≡ n → n < 4 → Back (by_kind n w)
  unfolding Back
  kind_back zero e l = fixed_back e
  kind_back (suc zero) e l = λ t. battery_back e
  kind_back (suc (suc zero)) e l = λ t. variable_back e
  kind_back (suc (suc (suc zero))) e l = augmented_back (bits w 29 28) e refl
  kind_back (suc (suc (suc (suc n)))) e l = absurd (omega arith)

  -- a word of a kind that its side has, with no reserved bit set, decodes, and the object encodes back to the word
  pub decode_encode : (side : Side) (o : Object) → decode_for side w ≡ Some o → reserved_set side o first w ≡ false → encode_of o ≡ Some w
  unfolding Back decode_of reserved_set
  decode_encode side o e t =
      subst Back (known_for side (decode_of w) o e) (kind_back (bits w 31 30) refl (bits_lt w 31 30))
      (clear_for side o first w (not-false (reserved_clear side o first w) t))

-- ---- the other way: a word that was made of an object decodes to it

-- what an answer `Some w` says of the fields
pub made : (fs : List Field) (w : ℕ) → gapless 0 fs ≡ true → word_of fs ≡ Some w → retaken w fs ≡ fs
unfolding word_of
made fs w t e = go (all_fit fs) refl e where
  go : (b : Bool) → all_fit fs ≡ b → if_fit b (joined fs) ≡ Some w → retaken w fs ≡ fs
  go true q p =
      let j : joined fs ≡ w = cc in
      subst (λ (x : ℕ). retaken x fs ≡ fs) j (parted fs t q)
  go false q p = let z : ◌≡◌ {A = ℕ} 0 1 = cc in absurd (omega arith)

-- an object whose fields fit encodes, and the word decodes back to the object
pub encode_decode : (o : Object) (w : ℕ) → encode_of o ≡ Some w → decode_of w ≡ Some o
encode_decode (Fixed f p v a) w e =
    let r = made (fields_of (Fixed f p v a)) w refl e in
    let same : by_kind 0 w ≡ Some (Fixed f p (record { 0 = v.0 }) (record { 0 = a.0 })) = cc in
    kind_is w 0 (cc) ∙ same
encode_decode (Battery x m p) w e =
    let r = made (fields_of (Battery x m p)) w refl e in
    let same : by_kind 1 w ≡ Some (Battery (record { 0 = x.0 }) (record { 0 = m.0 }) (record { 0 = p.0 })) = cc in
    kind_is w 1 (cc) ∙ same
encode_decode (Variable x m a) w e =
    let r = made (fields_of (Variable x m a)) w refl e in
    let same : by_kind 2 w ≡ Some (Variable (record { 0 = x.0 }) (record { 0 = m.0 }) (record { 0 = a.0 })) = cc in
    kind_is w 2 (cc) ∙ same
encode_decode (Pps l x m a) w e =
    let r = made (fields_of (Pps l x m a)) w refl e in
    let same : by_augmented 0 w ≡ Some (Pps l (record { 0 = x.0 }) (record { 0 = m.0 }) (record { 0 = a.0 })) = cc in
    augmented_is w 0 (cc) (cc) ∙ same
encode_decode (Avs p l h) w e =
    let r = made (fields_of (Avs p l h)) w refl e in
    let same : by_augmented 2 w ≡ Some (Avs p (record { 0 = l.0 }) (record { 0 = h.0 })) = cc in
    augmented_is w 2 (cc) (cc) ∙ same
