-- One step along the tables: what stands at the next place decides it. And what each kind of slot asks of an object, in the object's own step.
-- Assumes nothing.
use Rattle.std.specs.Prelude.{Option, Some, None}
use mathlib.Core.Path.{◌≡◌, refl, sym, ap, ap₂, ◌∙◌}
use mathlib.Core.Bool.{Bool, true, false, ◌&&◌, cond}
use Prim.Native.Nat.{ℕ, zero, suc, ◌+◌, ◌*◌, ◌≤◌, ◌<◌}
use mathlib.Core.Logic.{⊎_elim}
use native.Mathlib.Nat.{mul_assoc, eq-or-lt_of_le, le_of_suc-le-suc}
use native.Mathlib.Numerals.{add-one}
use native.Mathlib.Omega.{arith}
use lib.Dec.{ltb, eqb}
use lib.ListN.{get_or, length}
use borrow.Author.Tests.{lt-ltb, le-ltb, ltb-true, ltb-false}
use Rattle.steps.proofs.StepTests.{at}
use Rattle.steps.specs.declared.Mv50.{Mv50}
use Rattle.steps.specs.declared.Mv100.{Mv100}
use Rattle.steps.specs.declared.Ma10.{Ma10}
use Rattle.steps.specs.declared.Ma50.{Ma50}
use Rattle.objects.specs.declared.Object.{Object}
use Rattle.objects.specs.declared.Object.TheVariants as object
use Rattle.objects.specs.Decode.{decode_of}
use Rattle.lists.specs.declared.Words.{Words}
use Rattle.rules.specs.declared.Profile.{Profile}
use Rattle.rules.specs.declared.checking.Found.{Found}
use Rattle.rules.specs.declared.checking.Found.TheVariants.{Other, Allowed}
use Rattle.rules.specs.declared.checking.Found.TheVariants as found
use Rattle.rules.specs.declared.checking.Walk.{Walk}
use Rattle.rules.specs.Tables.{Slot, Nothing, Fixed, Avs, Prog, row, rails, holds, base_slots, slots}
use Rattle.rules.specs.Sets.{fits}
use Rattle.rules.specs.Checking.{current_refused}
use Rattle.rules.specs.Following.{walk, object_at, found_of, step_by, step_of, step_if, and_on, followed}
use Rattle.rules.proofs.TableWalk.{Stands, rails_to, rail_stands, rail_on, rail_skipped, after_rails, avs_stands, avs_on, avs_skipped, supply, supplies, supplies_to, supply_stands, supply_on, supply_skipped}

some_not_none : {A : Type 0} {x : A} → Some x ≡ None → ⊥
some_not_none e = cc

pub same_walk : {v w : Walk} → Some v ≡ Some w → v ≡ w
same_walk e = cc

-- ---- the object at a place

module _ (l : Words) (k : ℕ) where
  pub counted : k < l.count → object_at l k ≡ decode_of (get_or l.words k 0)
  unfolding object_at
  counted h = rw (lt-ltb k l.count h)

  pub past : l.count ≤ k → object_at l k ≡ None
  unfolding object_at
  past h = rw (le-ltb k l.count h)

  -- an object stands only before the count
  pub before : {o : Object} → Some o ≡ object_at l k → k < l.count
  unfolding object_at
  before {o} e = go (ltb k l.count) refl e where
    go : (b : Bool) → ltb k l.count ≡ b → Some o ≡ cond b (decode_of (get_or l.words k 0)) None → k < l.count
    go true t f = ltb-true k l.count t
    go false t f = absurd (some_not_none f)

-- ---- what stands there

module _ (p : Profile) (s : Slot) where
  pub found_none : found_of p s None ≡ Other
  unfolding found_of
  found_none = refl

  pub found_other : (o : Object) → fits s o ≡ false → found_of p s (Some o) ≡ Other
  unfolding found_of
  found_other o e = rw e

  pub found_right : (o : Object) (refused : Bool) → fits s o ≡ true → current_refused p s o ≡ refused → found_of p s (Some o) ≡ cond refused found.NotAllowed Allowed
  unfolding found_of
  found_right o refused e f = rw (e, f)

-- ---- one place further

pub step_is : (p : Profile) (l : Words) (s : Slot) (w : Walk) (d : Option Object) (f : Found) → d ≡ object_at l w.at → f ≡ found_of p s d → step_by w f ≡ step_of p l s w
unfolding step_of
step_is p l s w d f e g = ap (step_by w) (g ∙ ap (found_of p s) e)

-- where nothing stands there is no step
pub step_past : (p : Profile) (l : Words) (s : Slot) (w : Walk) → object_at l w.at ≡ None → None ≡ step_of p l s w
unfolding step_of step_by found_of
step_past p l s w e = rw e

-- ---- one slot further

pub none_followed : (p : Profile) (l : Words) → followed p l 0 ≡ Some (walk 0 None)
unfolding followed
none_followed p l = refl

pub followed_on : (p : Profile) (l : Words) (n : ℕ) (s : Slot) (w : Walk) → get_or (slots p.max.0) n Nothing ≡ s → followed p l n ≡ Some w
    → step_of p l s w ≡ followed p l (n + 1)
unfolding followed
followed_on p l n s w e f =
    rw (add-one n)
    (sym (ap (λ (o : Option Walk). and_on o (step_of p l (get_or (slots p.max.0) n Nothing))) f ∙ ap (λ (t : Slot). step_of p l t w) e))

-- a walk that is lost stays lost
pub lost_on : (p : Profile) (l : Words) (n k : ℕ) → n ≤ k → followed p l n ≡ None → followed p l k ≡ None
unfolding followed
lost_on p l n zero h e = let q : 0 ≡ n = omega arith in ap (followed p l) q ∙ e
lost_on p l n (suc k) h e = ⊎_elim
    (λ q. ap (followed p l) (sym q) ∙ e)
    (λ t. ap (λ (o : Option Walk). and_on o (step_of p l (get_or (slots p.max.0) k Nothing))) (lost_on p l n k (le_of_suc-le-suc t) e))
    (eq-or-lt_of_le h)

-- a row of the fixed part, AVS, a programmable supply: each goes on from the place that has been reached
module _ (p : Profile) (l : Words) (w : Walk) where
  abbrev m : ℕ
  m = p.max.0

  gone_on : (goes : Bool) (s : Slot) (n k : ℕ) → followed p l n ≡ Some w → (goes ≡ true → Stands m n s × (k ≡ n + 1)) → (goes ≡ false → k ≡ n)
      → step_if goes p l s w ≡ followed p l k
  gone_on true s n k e t f = followed_on p l n s w (t refl).0.slot e ∙ ap (followed p l) (sym (t refl).1)
  gone_on false s n k e t f = sym e ∙ ap (followed p l) (sym (f refl))

  pub rail_followed : (i : ℕ) → i < 4 → followed p l (rails_to m i) ≡ Some w
      → step_if (ltb (get_or rails i (row 0 0)).above.0 m) p l (Fixed (get_or rails i (row 0 0)).volts) w ≡ followed p l (rails_to m (i + 1))
  rail_followed i h e =
      gone_on (ltb (get_or rails i (row 0 0)).above.0 m) (Fixed (get_or rails i (row 0 0)).volts) (rails_to m i) (rails_to m (i + 1)) e
      (λ t. (rail_stands m i h (ltb-true _ m t), rail_on m i h (ltb-true _ m t))) (λ t. rail_skipped m i h (ltb-false _ m t))

  pub avs_followed : followed p l (after_rails m) ≡ Some w → step_if (ltb 54 m) p l (Avs (ltb 90 m)) w ≡ followed p l (length (base_slots m))
  avs_followed e =
      gone_on (ltb 54 m) (Avs (ltb 90 m)) (after_rails m) (length (base_slots m)) e
      (λ t. (avs_stands m (ltb-true 54 m t), avs_on m (ltb-true 54 m t))) (λ t. avs_skipped m (ltb-false 54 m t))

  pub supply_followed : m ≤ 200 → (i : ℕ) → i < 3 → followed p l (supplies_to m i) ≡ Some w
      → step_if (holds m (get_or supplies i (supply 0 0 0 0))) p l (Prog (get_or supplies i (supply 0 0 0 0)).volts (get_or supplies i (supply 0 0 0 0)).top.0) w
      ≡ followed p l (supplies_to m (i + 1))
  supply_followed high i h e =
      gone_on (holds m (get_or supplies i (supply 0 0 0 0))) (Prog (get_or supplies i (supply 0 0 0 0)).volts (get_or supplies i (supply 0 0 0 0)).top.0)
      (supplies_to m i) (supplies_to m (i + 1)) e
      (λ t. (supply_stands m high i h t, supply_on m high i h t)) (λ t. supply_skipped m high i h t)

-- ---- what a slot asks, in the object's own step

-- a volt is 20 steps of 50 mV
pub fits_fixed : (volts f k : ℕ) (v : Mv50) (a : Ma10) → fits (Fixed volts) (object.Fixed f k v a) ≡ eqb v.0 (volts * 20)
unfolding fits
fits_fixed volts f k v a =
    sym (at 50 (volts * 20) v.0 (omega arith) ∙ ap (λ (n : ℕ). eqb (v.0 * 50) n) (mul_assoc volts 20 50))

-- 5 V is 50 steps of 100 mV
pub fits_pps : (volts top k : ℕ) (x m : Mv100) (a : Ma50) → fits (Prog volts top) (object.Pps k x m a) ≡ (eqb x.0 top && eqb m.0 50)
unfolding fits
fits_pps volts top k x m a = sym (ap₂ ◌&&◌ (at 100 top x.0 (omega arith)) (at 100 50 m.0 (omega arith)))
