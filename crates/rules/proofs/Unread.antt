-- Places past the count are not read: lists that agree up to the count are checked alike.
-- Assumes nothing.
use mathlib.Core.Path.{◌≡◌, refl, sym, ap, ap₂, ◌∙◌}
use mathlib.Core.Bool.{Bool, not, ◌&&◌, ◌||◌, cond}
use mathlib.Core.List.{List, [], ◌∷◌}
use Prim.Native.Nat.{ℕ, zero, suc, ◌+◌, ◌<◌}
use native.Mathlib.Nat.{lt-suc_self}
use native.Mathlib.Omega.{arith}
use lib.Dec.{ltb, eqb}
use lib.ListN.{get_or}
use Rattle.verdicts.specs.Refusals.{Refusal, refusal, each_place, first_of, verdict, success, verdict_of}
use Rattle.verdicts.proofs.First.{onward, same_places}
use Rattle.objects.specs.declared.Side.TheVariants.{Source}
use Rattle.objects.specs.declared.Object.{Object}
use Rattle.objects.specs.Asking.{of_object}
use Rattle.objects.specs.Decode.{decode_of}
use Rattle.lists.specs.declared.Words.{Words}
use Rattle.lists.specs.Unread.{AgreeWords}
use Rattle.lists.proofs.Unread.{counting, recounted, same_past_shape}
use Rattle.rules.specs.declared.Profile.{Profile}
use Rattle.rules.specs.Profiles.{profile_refusals}
use Rattle.rules.specs.Tables.{Slot, Nothing, rails, fixed_slots, avs_slots, prog_slots, slots}
use Rattle.rules.specs.Sets.{fits, fits_one, how_many, each_once, exactly, is_fixed, is_avs, is_pps, is_battery_or_variable, right_base, right_pps, wrong_set}
use Rattle.rules.specs.Checking.{current_refused, current_rows, checked_of}
use Rattle.rules.proofs.Checks.{after_shape}

-- among the first n words
same_many : (ws vs : List ℕ) (n : ℕ) → ((k : ℕ) → k < n → get_or ws k 0 ≡ get_or vs k 0) → (asked : Object → Bool) → how_many asked ws n ≡ how_many asked vs n
unfolding how_many
same_many ws vs zero e asked = refl
same_many ws vs (suc n) e asked =
    ap₂ (λ (h w : ℕ). h + cond (of_object asked (decode_of w)) 1 0)
    (same_many ws vs n (λ k h. e k (omega arith)) asked) (e n (lt-suc_self n))

module _ (ws vs : List ℕ) (n : ℕ) (e : (k : ℕ) → k < n → get_or ws k 0 ≡ get_or vs k 0) where
  -- ---- 18: what the set asks of a list is how many objects are so

  same_once : (ss : List Slot) → each_once ss (counting ws n) ≡ each_once ss (counting vs n)
  same_once [] = refl
  same_once (s ∷ ss) = ap₂ (λ (h : ℕ) (b : Bool). eqb h 1 && b) (same_many ws vs n e (fits s)) (same_once ss)

  same_exactly : (kind : Object → Bool) (ss : List Slot) → exactly kind ss (counting ws n) ≡ exactly kind ss (counting vs n)
  same_exactly kind ss =
      ap₂ (λ (b : Bool) (h : ℕ). b && eqb h 0) (same_once ss) (same_many ws vs n e (λ (o : Object). kind o && not (fits_one ss o)))

  same_base : (m : ℕ) → right_base m (counting ws n) ≡ right_base m (counting vs n)
  same_base m =
      ap₂ ◌&&◌ (same_exactly is_fixed (fixed_slots m rails))
      (ap₂ (λ (b : Bool) (h : ℕ). b && eqb h 0) (same_exactly is_avs (avs_slots m)) (same_many ws vs n e is_battery_or_variable))

  module _ (p : Profile) where
    same_pps : right_pps p (counting ws n) ≡ right_pps p (counting vs n)
    same_pps =
        ap₂ (λ (h : ℕ) (b : Bool). eqb h 0 || (not (ltb p.present.0 p.max.0) && b))
        (same_many ws vs n e is_pps) (same_exactly is_pps (prog_slots p.max.0))

    same_set : wrong_set p (counting ws n) ≡ wrong_set p (counting vs n)
    unfolding wrong_set
    same_set = ap₂ (λ (a b : Bool). not (a && b)) (same_base p.max.0) same_pps

    -- ---- 19

    same_currents : each_place (current_rows p ws) n ≡ each_place (current_rows p vs) n
    same_currents = same_places (current_rows p ws) (current_rows p vs) n (λ k h. ap (current_row k) (e k h)) where
      current_row : ℕ → ℕ → List Refusal
      current_row k w = refusal (of_object (current_refused p (get_or (slots p.max.0) k Nothing)) (decode_of w)) 19 (k + 1) ∷ []

    same_after : after_shape p (counting ws n) ≡ after_shape p (counting vs n)
    same_after = ap₂ (λ (b : Bool) (rs : List Refusal). refusal b 18 0 ∷ rs) same_set same_currents

    same_check : checked_of p (counting ws n) ≡ checked_of p (counting vs n)
    unfolding checked_of
    same_check =
        onward verdict success (profile_refusals p) _
        ∙ ap (first_of verdict (profile_refusals p))
        (same_past_shape Source ws vs n e verdict success (after_shape p (counting ws n)) (after_shape p (counting vs n)) (ap verdict_of same_after))
        ∙ sym (onward verdict success (profile_refusals p) _)

pub check_unread : (p : Profile) (l m : Words) → AgreeWords l m → checked_of p l ≡ checked_of p m
check_unread p l m a = same_check l.words m.words l.count a.words p ∙ recounted (checked_of p) l m a
