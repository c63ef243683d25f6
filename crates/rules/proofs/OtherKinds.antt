-- What is asked of an object of one kind is answered no for every other kind: `let .. else` tells which kind an object is not.
-- Assumes nothing.
use mathlib.Core.Path.{◌≡◌, refl}
use mathlib.Core.Bool.{Bool, false}
use Prim.Native.Nat.{ℕ}
use Rattle.steps.specs.declared.Mv50.{Mv50}
use Rattle.steps.specs.declared.Mv100.{Mv100}
use Rattle.steps.specs.declared.Ma10.{Ma10}
use Rattle.steps.specs.declared.Ma50.{Ma50}
use Rattle.objects.specs.declared.Object.{Object}
use Rattle.objects.specs.declared.Object.TheVariants.{Fixed, Battery, Variable, Pps, Avs}
use Rattle.objects.specs.Asking.{of_fixed, of_pps, of_avs}

pub fixed_only : (asked : Mv50 → Ma10 → Bool) (o : Object) → ((f p : ℕ) (v : Mv50) (a : Ma10) → o ≡ Fixed f p v a → ⊥) → of_fixed asked o ≡ false
fixed_only asked (Fixed f p v a) h = absurd (h f p v a refl)
fixed_only asked (Battery x m p) h = refl
fixed_only asked (Variable x m a) h = refl
fixed_only asked (Pps l x m a) h = refl
fixed_only asked (Avs p l h) g = refl

pub pps_only : (asked : Mv100 → Mv100 → Ma50 → Bool) (o : Object) → ((l : ℕ) (x m : Mv100) (a : Ma50) → o ≡ Pps l x m a → ⊥) → of_pps asked o ≡ false
pps_only asked (Fixed f p v a) h = refl
pps_only asked (Battery x m p) h = refl
pps_only asked (Variable x m a) h = refl
pps_only asked (Pps l x m a) h = absurd (h l x m a refl)
pps_only asked (Avs p l h) g = refl

pub avs_only : (asked : Ma10 → Ma10 → Bool) (o : Object) → ((p : ℕ) (l h : Ma10) → o ≡ Avs p l h → ⊥) → of_avs asked o ≡ false
avs_only asked (Fixed f p v a) h = refl
avs_only asked (Battery x m p) h = refl
avs_only asked (Variable x m a) h = refl
avs_only asked (Pps l x m a) h = refl
avs_only asked (Avs p l h) g = absurd (g p l h refl)
