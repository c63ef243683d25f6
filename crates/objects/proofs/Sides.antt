-- What a sink's list may hold is what a source's may hold too: a word that has its object there has it here, and with more bits clear.
-- Assumes nothing.
use Rattle.std.specs.Prelude.{Option, Some, None}
use mathlib.Core.Path.{◌≡◌, refl, subst}
use mathlib.Core.Bool.{Bool, true, false, ◌&&◌, and-eq-true_iff}
use Prim.Native.Nat.{ℕ, zero, suc}
use lib.Dec.{leb}
use borrow.Author.Tests.{eq-eqb, eqb-true, leb-true, not-false}
use Rattle.objects.specs.Bits.{bits}
use Rattle.objects.specs.Decode.{by_kind, by_augmented, decode_of, decode_for, allowed_for}
use Rattle.objects.specs.Reserved.{clear, fixed_clear, limited_clear, pps_clear, reserved_clear, reserved_set}
use Rattle.objects.specs.declared.Side.{Side}
use Rattle.objects.specs.declared.Side.TheVariants.{Source, Sink}
use Rattle.objects.specs.declared.Object.{Object}
use Rattle.objects.specs.declared.Object.TheVariants.{Fixed, Battery, Variable, Pps, Avs}
use Rattle.objects.proofs.SetBits.{clear_within}

pub known_for : (side : Side) (d : Option Object) (o : Object) → allowed_for side d ≡ Some o → d ≡ Some o
known_for Source d o e = e
known_for Sink (Some (Fixed f p v a)) o e = e
known_for Sink (Some (Battery x m p)) o e = e
known_for Sink (Some (Variable x m a)) o e = e
known_for Sink (Some (Pps l x m a)) o e = e
known_for Sink (Some (Avs p l h)) o e = cc
known_for Sink None o e = e

-- what is clear in more bits is clear in fewer
abbrev within : ℕ → ℕ → ℕ → ℕ → Bool
within hi lo up down = leb down lo && leb lo hi && leb hi up

fewer : (w hi lo up down : ℕ) → within hi lo up down ≡ true → clear w up down ≡ true → clear w hi lo ≡ true
fewer w hi lo up down t e =
    let u = (and-eq-true_iff (leb down lo && leb lo hi) (leb hi up)).0 t in
    let v = (and-eq-true_iff (leb down lo) (leb lo hi)).0 u.0 in
    eq-eqb (bits w hi lo) 0 (clear_within w hi lo up down (leb-true down lo v.0) (leb-true lo hi v.1) (leb-true hi up u.1) (eqb-true (bits w up down) 0 e))

fixed_for : (side : Side) (first : Bool) (w : ℕ) → fixed_clear side first w ≡ true → fixed_clear Source first w ≡ true
fixed_for Source first w t = t
fixed_for Sink true w t = fewer w 22 22 22 20 refl t
fixed_for Sink false w t = fewer w 29 22 29 20 refl t

limited_for : (side : Side) (w : ℕ) → limited_clear side w ≡ true → limited_clear Source w ≡ true
limited_for Source w t = t
limited_for Sink w t = fewer w 26 25 27 25 refl t

pub clear_for : (side : Side) (o : Object) (first : Bool) (w : ℕ) → reserved_clear side o first w ≡ true → reserved_clear Source o first w ≡ true
clear_for side (Fixed f p v a) first w t = fixed_for side first w t
clear_for side (Battery x m p) first w t = refl
clear_for side (Variable x m a) first w t = refl
clear_for side (Pps l x m a) first w t =
    let u = (and-eq-true_iff (limited_clear side w && clear w 16 16) (clear w 7 7)).0 t in
    let v = (and-eq-true_iff (limited_clear side w) (clear w 16 16)).0 u.0 in
    rw (limited_for side w v.0, v.1, u.1)
clear_for side (Avs p l h) first w t = t

-- ---- what a sink does not have is zero

no_peak : (first : Bool) (w : ℕ) → fixed_clear Sink first w ≡ true → bits w 21 20 ≡ 0
no_peak true w t = eqb-true (bits w 21 20) 0 (fewer w 21 20 22 20 refl t)
no_peak false w t = eqb-true (bits w 21 20) 0 (fewer w 21 20 29 20 refl t)

no_limited : (w : ℕ) → pps_clear Sink w ≡ true → bits w 27 27 ≡ 0
no_limited w t =
    let u = (and-eq-true_iff (limited_clear Sink w && clear w 16 16) (clear w 7 7)).0 t in
    let v = (and-eq-true_iff (limited_clear Sink w) (clear w 16 16)).0 u.0 in
    eqb-true (bits w 27 27) 0 (fewer w 27 27 27 25 refl v.0)

-- no peak current and no power limited
abbrev pub Bare : Object → Type 0
Bare (Fixed f p v a) = p ≡ 0
Bare (Battery x m p) = Unit {0}
Bare (Variable x m a) = Unit {0}
Bare (Pps l x m a) = l ≡ 0
Bare (Avs p l h) = Unit {0}

-- so it is with each object that a word can decode to
module _ (first : Bool) (w : ℕ) where
  abbrev BareIf : Option Object → Type 0
  BareIf (Some o) = reserved_clear Sink o first w ≡ true → Bare o
  BareIf None = Unit {0}

  augmented_bare : (m : ℕ) → BareIf (by_augmented m w)
  augmented_bare zero = no_limited w
  augmented_bare (suc zero) = tt
  augmented_bare (suc (suc zero)) = λ t. tt
  augmented_bare (suc (suc (suc m))) = tt

  kind_bare : (n : ℕ) → BareIf (by_kind n w)
  kind_bare zero = no_peak first w
  kind_bare (suc zero) = λ t. tt
  kind_bare (suc (suc zero)) = λ t. tt
  kind_bare (suc (suc (suc n))) = augmented_bare (bits w 29 28)

  pub sink_bare : (o : Object) → decode_for Sink w ≡ Some o → reserved_set Sink o first w ≡ false → Bare o
  unfolding decode_of reserved_set
  sink_bare o e t = subst BareIf (known_for Sink (decode_of w) o e) (kind_bare (bits w 31 30)) (not-false (reserved_clear Sink o first w) t)
