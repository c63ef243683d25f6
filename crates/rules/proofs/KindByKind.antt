-- Each kind of object right by itself, and the whole list of slots right at once, are the same.
-- Assumes nothing.
use mathlib.Core.Path.{◌≡◌, refl, sym, ap, ap₂, ◌∙◌}
use mathlib.Core.Bool.{Bool, true, false, not, ◌&&◌, ◌||◌, and-false, or-false}
use mathlib.Core.List.{List, ◌++◌}
use Prim.Native.Nat.{ℕ}
use Rattle.objects.specs.declared.Object.{Object}
use Rattle.objects.specs.declared.Object.TheVariants as object
use Rattle.lists.specs.declared.Words.{Words}
use Rattle.rules.specs.Tables.{Slot, rails, fixed_slots, avs_slots, base_slots}
use Rattle.rules.specs.Sets.{fits_one, none, each_once, exactly, is_fixed, is_avs, is_pps, is_battery_or_variable, right_base}
use Rattle.rules.proofs.Counting.{none_same, none_either}
use Rattle.rules.proofs.Listed.{stray, once_append, fits_append}
use Rattle.rules.proofs.OtherSlots.{fixed_others, avs_others, ForPps}

-- each and none of a kind, kind by kind, and then each of all and none of all
regroup : (a b c r s t u : Bool) → (((a && r) && ((b && s) && t)) && (c && u)) ≡ (((a && b) && c) && (r && (s && (t && u))))
regroup false b c r s t u = refl
regroup true b c false s t u = sym (and-false (b && c))
regroup true false c true s t u = refl
regroup true true c true false t u = sym (and-false c)
regroup true true c true true false u = sym (and-false c)
regroup true true c true true true u = refl

-- ---- an object that fits no slot at all

-- of a kind, and fits none of that kind's slots
abbrev stray_of : (Object → Bool) → List Slot → Object → Bool
stray_of kind ss o = kind o && not (fits_one ss o)

module _ (m : ℕ) (qs : List Slot) (for-pps : ForPps qs) where
  all_slots : (o : Object) → fits_one (base_slots m ++ qs) o ≡ ((fits_one (fixed_slots m rails) o || fits_one (avs_slots m) o) || fits_one qs o)
  unfolding base_slots
  all_slots o = fits_append (base_slots m) qs o ∙ ap (λ (b : Bool). b || fits_one qs o) (fits_append (fixed_slots m rails) (avs_slots m) o)

  -- the same, by its kind
  abbrev strayed : Object → Bool
  strayed o = stray_of is_fixed (fixed_slots m rails) o || (stray_of is_avs (avs_slots m) o || (is_battery_or_variable o || stray_of is_pps qs o))

  by_kind_lem : (o : Object) → stray (base_slots m ++ qs) o ≡ strayed o
  by_kind_lem o = ap not (all_slots o) ∙ each o where
    each : (o : Object) → not ((fits_one (fixed_slots m rails) o || fits_one (avs_slots m) o) || fits_one qs o) ≡ strayed o
    each (object.Fixed f p v a) = let o = object.Fixed f p v a in simp (avs_others m o refl, for-pps o refl, or-false)
    each (object.Battery x low p) = let o = object.Battery x low p in rw (fixed_others m rails o refl, avs_others m o refl, for-pps o refl)
    each (object.Variable x low a) = let o = object.Variable x low a in rw (fixed_others m rails o refl, avs_others m o refl, for-pps o refl)
    each (object.Pps l x low a) = let o = object.Pps l x low a in rw (fixed_others m rails o refl, avs_others m o refl)
    each (object.Avs p l h) = let o = object.Avs p l h in simp (fixed_others m rails o refl, for-pps o refl, or-false)

  -- ---- the whole list

  stray_parts : (l : Words) → none (stray (base_slots m ++ qs)) l
      ≡ (none (stray_of is_fixed (fixed_slots m rails)) l && (none (stray_of is_avs (avs_slots m)) l && (none is_battery_or_variable l && none (stray_of is_pps qs) l)))
  stray_parts l =
      none_same (stray (base_slots m ++ qs)) strayed l by_kind_lem
      ∙ none_either (stray_of is_fixed (fixed_slots m rails)) (λ o. stray_of is_avs (avs_slots m) o || (is_battery_or_variable o || stray_of is_pps qs o)) l
      ∙ ap (λ (b : Bool). none (stray_of is_fixed (fixed_slots m rails)) l && b)
      (none_either (stray_of is_avs (avs_slots m)) (λ o. is_battery_or_variable o || stray_of is_pps qs o) l
      ∙ ap (λ (b : Bool). none (stray_of is_avs (avs_slots m)) l && b) (none_either is_battery_or_variable (stray_of is_pps qs) l))

  once_parts : (l : Words) → each_once (base_slots m ++ qs) l ≡ ((each_once (fixed_slots m rails) l && each_once (avs_slots m) l) && each_once qs l)
  unfolding base_slots
  once_parts l = once_append (base_slots m) qs l ∙ ap (λ (b : Bool). b && each_once qs l) (once_append (fixed_slots m rails) (avs_slots m) l)

  pub all_at_once : (l : Words) → (right_base m l && exactly is_pps qs l) ≡ (each_once (base_slots m ++ qs) l && none (stray (base_slots m ++ qs)) l)
  all_at_once l =
      regroup (each_once (fixed_slots m rails) l) (each_once (avs_slots m) l) (each_once qs l) _ _ _ _
      ∙ sym (ap₂ ◌&&◌ (once_parts l) (stray_parts l))
