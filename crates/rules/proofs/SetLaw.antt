-- Refusal 18, stated as a set of objects, and what the code decides by walking along the tables: they say the same of a profile and a
-- list shape that pass.
-- Assumes nothing.
use mathlib.Core.Path.{◌≡◌, refl, sym, ap, ap₂, ◌∙◌}
use mathlib.Core.Bool.{Bool, true, false, not, ◌&&◌, ◌||◌, and-true, and_comm}
use mathlib.Core.List.{List, [], ◌++◌, append-nil}
use Prim.Native.Nat.{ℕ, ◌≤◌}
use native.Mathlib.Omega.{arith}
use lib.Dec.{ltb, eqb}
use lib.ListN.{length}
use borrow.Author.Tests.{eqb-true}
use Rattle.verdicts.specs.Refusals.{NoneApply}
use Rattle.lists.specs.declared.Words.{Words}
use Rattle.lists.specs.Shape.{shape_refusals}
use Rattle.rules.specs.declared.Profile.{Profile}
use Rattle.rules.specs.Profiles.{profile_refusals}
use Rattle.rules.specs.Tables.{Slot, base_slots, prog_slots, slots}
use Rattle.rules.specs.Sets.{none, exactly, is_pps, right_base, wrong_set}
use Rattle.rules.specs.Following.{all_fit, right_walk}
use Rattle.rules.proofs.ProfileCases.{max_high}
use Rattle.rules.proofs.Counting.{none_same}
use Rattle.rules.proofs.Rising.{Rising, slots_rise, rising_left}
use Rattle.rules.proofs.Listed.{fit_append}
use Rattle.rules.proofs.OtherSlots.{ForPps, prog_others}
use Rattle.rules.proofs.KindByKind.{all_at_once}
use Rattle.rules.proofs.SetOrPlaces.{set_or_places}

-- ---- two ways to be right, the second with a condition c

share : (r a b c : Bool) → (r && (a || (c && b))) ≡ ((r && a) || (c && (r && b)))
share true a b c = refl
share false a b true = refl
share false a b false = refl

two_ways : (r a b c s t f : Bool) → (r && a) ≡ (s && f) → (r && b) ≡ (t && f) → (r && (a || (c && b))) ≡ ((s || (c && t)) && f)
two_ways r a b c s t f first second =
    share r a b c
    ∙ ap₂ (λ (u v : Bool). u || (c && v)) (first ∙ and_comm s f) (second ∙ and_comm t f)
    ∙ sym (share f s t c)
    ∙ and_comm f (s || (c && t))

-- ---- without PPS, or with all of it

-- as many words as there are slots to count, each at its slot
abbrev in_places : List Slot → List Slot → Words → Bool
in_places counted ss l = eqb l.count (length counted) && all_fit ss l.words l.count

module _ (m : ℕ) (high : m ≤ 200) (l : Words) (y : NoneApply (shape_refusals l)) where
  with_slots : (qs : List Slot) → ForPps qs → Rising (base_slots m ++ qs)
      → (right_base m l && exactly is_pps qs l) ≡ in_places (base_slots m ++ qs) (base_slots m ++ qs) l
  with_slots qs f r = all_at_once m qs f l ∙ set_or_places l y (base_slots m ++ qs) r

  all_pps : (right_base m l && exactly is_pps (prog_slots m) l) ≡ in_places (slots m) (slots m) l
  all_pps = with_slots (prog_slots m) (prog_others m) (slots_rise m high)

  base_alone : (right_base m l && exactly is_pps [] l) ≡ in_places (base_slots m) (base_slots m) l
  base_alone =
      rw (append-nil (base_slots m)) at
      (with_slots [] (λ o e. refl) (rw (append-nil (base_slots m)) (rising_left (base_slots m) (prog_slots m) (slots_rise m high))))

  -- the walk goes along the full list
  base_first : in_places (base_slots m) (base_slots m) l ≡ in_places (base_slots m) (slots m) l
  base_first = go (eqb l.count (length (base_slots m))) refl where
    go : (b : Bool) → eqb l.count (length (base_slots m)) ≡ b
        → (b && all_fit (base_slots m) l.words l.count) ≡ (b && all_fit (slots m) l.words l.count)
    go true e =
        let q : l.count ≡ length (base_slots m) = eqb-true l.count (length (base_slots m)) e in
        sym (fit_append (base_slots m) l.words (prog_slots m) l.count (omega arith))
    go false e = refl

  no_pps : (right_base m l && none is_pps l) ≡ in_places (base_slots m) (slots m) l
  no_pps =
      ap (λ (b : Bool). right_base m l && b) (none_same is_pps (λ o. is_pps o && true) l (λ o. sym (and-true (is_pps o))))
      ∙ base_alone
      ∙ base_first

-- ---- 18

module _ (p : Profile) (l : Words) (x : NoneApply (profile_refusals p)) (y : NoneApply (shape_refusals l)) where
  pub set_law : wrong_set p l ≡ not (right_walk p l)
  unfolding wrong_set
  set_law =
      let m = p.max.0 in
      ap not (two_ways (right_base m l) (none is_pps l) (exactly is_pps (prog_slots m) l) (not (ltb p.present.0 m))
      (eqb l.count (length (base_slots m))) (eqb l.count (length (slots m))) (all_fit (slots m) l.words l.count)
      (no_pps m (max_high p x) l y) (all_pps m (max_high p x) l y))
