-- An object fits no slot of another kind: fixed, AVS and PPS slots are for their own kinds.
-- Assumes nothing.
use mathlib.Core.Path.{◌≡◌, refl, ap, ap₂, ◌∙◌}
use mathlib.Core.Bool.{Bool, true, false, ◌&&◌, ◌||◌, true≢false}
use mathlib.Core.List.{List, [], ◌∷◌, ◌++◌}
use Prim.Native.Nat.{ℕ}
use lib.Dec.{ltb}
use Rattle.objects.specs.declared.Object.{Object}
use Rattle.objects.specs.declared.Object.TheVariants as object
use Rattle.rules.specs.declared.tables.Rail.{Rail}
use Rattle.rules.specs.Tables.{Slot, Fixed, Avs, Prog, slot_if, fixed_slots, avs_slots, prog_slots}
use Rattle.rules.specs.Sets.{fits, fits_one, is_fixed, is_avs, is_pps}
use Rattle.rules.proofs.Listed.{fits_append}

-- ---- one slot

not_fixed : (volts : ℕ) (o : Object) → is_fixed o ≡ false → fits (Fixed volts) o ≡ false
unfolding fits
not_fixed volts (object.Fixed f p v a) e = absurd (true≢false e)
not_fixed volts (object.Battery x m p) e = refl
not_fixed volts (object.Variable x m a) e = refl
not_fixed volts (object.Pps l x m a) e = refl
not_fixed volts (object.Avs p l h) e = refl

not_avs : (past15V : Bool) (o : Object) → is_avs o ≡ false → fits (Avs past15V) o ≡ false
unfolding fits
not_avs past15V (object.Fixed f p v a) e = refl
not_avs past15V (object.Battery x m p) e = refl
not_avs past15V (object.Variable x m a) e = refl
not_avs past15V (object.Pps l x m a) e = refl
not_avs past15V (object.Avs p l h) e = absurd (true≢false e)

not_pps : (volts top : ℕ) (o : Object) → is_pps o ≡ false → fits (Prog volts top) o ≡ false
unfolding fits
not_pps volts top (object.Fixed f p v a) e = refl
not_pps volts top (object.Battery x m p) e = refl
not_pps volts top (object.Variable x m a) e = refl
not_pps volts top (object.Pps l x m a) e = absurd (true≢false e)
not_pps volts top (object.Avs p l h) e = refl

-- ---- the slots of a kind

slot_if_lem : (b : Bool) (s : Slot) (o : Object) → fits s o ≡ false → fits_one (slot_if b s) o ≡ false
slot_if_lem true s o e = ap (λ (c : Bool). c || false) e
slot_if_lem false s o e = refl

pub fixed_others : (m : ℕ) (rs : List Rail) (o : Object) → is_fixed o ≡ false → fits_one (fixed_slots m rs) o ≡ false
fixed_others m [] o e = refl
fixed_others m (r ∷ rs) o e =
    fits_append (slot_if (ltb r.above.0 m) (Fixed r.volts)) (fixed_slots m rs) o
    ∙ ap₂ ◌||◌ (slot_if_lem (ltb r.above.0 m) (Fixed r.volts) o (not_fixed r.volts o e)) (fixed_others m rs o e)

pub avs_others : (m : ℕ) (o : Object) → is_avs o ≡ false → fits_one (avs_slots m) o ≡ false
avs_others m o e = slot_if_lem (ltb 54 m) (Avs (ltb 90 m)) o (not_avs (ltb 90 m) o e)

-- these slots are for PPS
abbrev pub ForPps : List Slot → Type 0
ForPps qs = (o : Object) → is_pps o ≡ false → fits_one qs o ≡ false

pub prog_others : (m : ℕ) → ForPps (prog_slots m)
unfolding prog_slots
prog_others m o e =
    let s9 = slot_if (ltb 30 m && ltb m 90) (Prog 9 110) in
    let s15 = slot_if (ltb 54 m && ltb m 120) (Prog 15 160) in
    let s20 = slot_if (ltb 90 m) (Prog 20 210) in
    fits_append (s9 ++ s15) s20 o
    ∙ ap₂ ◌||◌
    (fits_append s9 s15 o ∙ ap₂ ◌||◌ (slot_if_lem (ltb 30 m && ltb m 90) _ o (not_pps 9 110 o e)) (slot_if_lem (ltb 54 m && ltb m 120) _ o (not_pps 15 160 o e)))
    (slot_if_lem (ltb 90 m) _ o (not_pps 20 210 o e))
