-- What stands at the slots of a port's list, computed for each port maximum from 1 to 200, and the objects built for them.
-- Assumes nothing.
use mathlib.Core.Path.{◌≡◌, refl, sym, ap, ◌∙◌, subst}
use mathlib.Core.Bool.{Bool, true, false, ◌&&◌, ◌||◌, and-eq-true_iff}
use mathlib.Core.List.{List, [], ◌∷◌}
use Prim.Native.Nat.{ℕ, zero, suc, ◌*◌, ◌≤◌, ◌<◌}
use native.Mathlib.Omega.{arith}
use lib.Dec.{leb, ltb, eqb}
use lib.ListN.{length, get_or}
use borrow.Author.Tests.{leb-true, ltb-true, le-ltb, eqb-true}
use Rattle.lists.specs.ObjectRules.{rank_of, key_of, keys_may_follow, may_follow}
use Rattle.rules.specs.declared.Profile.{Profile}
use Rattle.rules.specs.Tables.{Slot, Nothing, Fixed, Avs, Prog, base_slots, prog_slots, slots}
use Rattle.rules.specs.Building.{object_for}
use Rattle.steps.proofs.Computed.{every_below, at_each}

-- ---- slots that a list can have

-- a fixed slot has 1 to 20 volts, and a range ends at 5 to 21 V
abbrev pub slot_good : Slot → Bool
slot_good Nothing = false
slot_good (Fixed volts) = leb 1 volts && leb volts 20
slot_good (Avs past15V) = true
slot_good (Prog volts top) = leb 50 top && leb top 210

abbrev pub all_good : List Slot → Bool
all_good [] = true
all_good (s ∷ ss) = slot_good s && all_good ss

each_good : (ss : List Slot) → all_good ss ≡ true → (k : ℕ) → k < length ss → slot_good (get_or ss k Nothing) ≡ true
each_good [] t k h = absurd (omega arith)
each_good (s ∷ ss) t zero h = ((and-eq-true_iff (slot_good s) (all_good ss)).0 t).0
each_good (s ∷ ss) t (suc k) h = each_good ss ((and-eq-true_iff (slot_good s) (all_good ss)).0 t).1 k (omega arith)

pub good_at : (m : ℕ) → m ≤ 200 → (k : ℕ) → k < length (slots m) → slot_good (get_or (slots m) k Nothing) ≡ true
unfolding every_below base_slots prog_slots
good_at m h k l = each_good (slots m) (at_each (λ (n : ℕ). all_good (slots n)) 201 m refl (omega arith)) k l

-- ---- the first slot, and how many there are

or_right : (a b : Bool) → (a || b) ≡ true → a ≡ false → b ≡ true
or_right a b e f = sym (ap (λ (x : Bool). x || b) f) ∙ e

pub base_not_empty : (m : ℕ) → 1 ≤ m → m ≤ 200 → 1 ≤ length (base_slots m)
unfolding every_below base_slots prog_slots
base_not_empty m l h =
    leb-true 1 (length (base_slots m)) (or_right (ltb m 1) _ (at_each (λ (n : ℕ). ltb n 1 || leb 1 (length (base_slots n))) 201 m refl (omega arith)) (le-ltb m 1 l))

abbrev pub is_fixed : ℕ → Slot → Bool
is_fixed volts Nothing = false
is_fixed volts (Fixed v) = eqb v volts
is_fixed volts (Avs past15V) = false
is_fixed volts (Prog v top) = false

pub fixed_is : (volts : ℕ) (s : Slot) → is_fixed volts s ≡ true → s ≡ Fixed volts
fixed_is volts Nothing e = let z : false ≡ true = e in cc
fixed_is volts (Fixed v) e = ap Fixed (eqb-true v volts e)
fixed_is volts (Avs past15V) e = let z : false ≡ true = e in cc
fixed_is volts (Prog v top) e = let z : false ≡ true = e in cc

pub first_is_5_V : (m : ℕ) → 1 ≤ m → m ≤ 200 → get_or (slots m) 0 Nothing ≡ Fixed 5
unfolding every_below base_slots prog_slots
first_is_5_V m l h =
    fixed_is 5 _ (or_right (ltb m 1) _ (at_each (λ (n : ℕ). ltb n 1 || is_fixed 5 (get_or (slots n) 0 Nothing)) 201 m refl (omega arith)) (le-ltb m 1 l))

-- ---- where there is an AVS slot, there are its fixed ones

abbrev served : List Slot → ℕ → Slot → Bool
served ss base Nothing = true
served ss base (Fixed volts) = true
served ss base (Avs true) = (is_fixed 15 (get_or ss 2 Nothing) && ltb 2 base) && (is_fixed 20 (get_or ss 3 Nothing) && ltb 3 base)
served ss base (Avs false) = is_fixed 15 (get_or ss 2 Nothing) && ltb 2 base
served ss base (Prog volts top) = true

abbrev all_served : List Slot → ℕ → List Slot → Bool
all_served ss base [] = true
all_served ss base (s ∷ rest) = served ss base s && all_served ss base rest

each_served : (ss : List Slot) (base : ℕ) (rest : List Slot) → all_served ss base rest ≡ true → (k : ℕ) → served ss base (get_or rest k Nothing) ≡ true
each_served ss base [] t k = refl
each_served ss base (s ∷ rest) t zero = ((and-eq-true_iff (served ss base s) (all_served ss base rest)).0 t).0
each_served ss base (s ∷ rest) t (suc k) = each_served ss base rest ((and-eq-true_iff (served ss base s) (all_served ss base rest)).0 t).1 k

served_at : (m : ℕ) → m ≤ 200 → (k : ℕ) → served (slots m) (length (base_slots m)) (get_or (slots m) k Nothing) ≡ true
unfolding every_below base_slots prog_slots
served_at m h k =
    each_served (slots m) (length (base_slots m)) (slots m)
    (at_each (λ (n : ℕ). all_served (slots n) (length (base_slots n)) (slots n)) 201 m refl (omega arith)) k

pub record Served15 (m : ℕ) : Type 0 where
  pub slot : get_or (slots m) 2 Nothing ≡ Fixed 15
  pub below : 2 < length (base_slots m)

pub record Served20 (m : ℕ) : Type 0 where
  pub slot : get_or (slots m) 3 Nothing ≡ Fixed 20
  pub below : 3 < length (base_slots m)

pub has_15_V : (m : ℕ) → m ≤ 200 → (k : ℕ) (past15V : Bool) → get_or (slots m) k Nothing ≡ Avs past15V → Served15 m
has_15_V m h k past15V e = go past15V (subst (λ (s : Slot). served (slots m) (length (base_slots m)) s ≡ true) e (served_at m h k)) where
  pair : (is_fixed 15 (get_or (slots m) 2 Nothing) && ltb 2 (length (base_slots m))) ≡ true → Served15 m
  pair t =
      let s = (and-eq-true_iff (is_fixed 15 (get_or (slots m) 2 Nothing)) (ltb 2 (length (base_slots m)))).0 t in
      record { slot = fixed_is 15 _ s.0; below = ltb-true 2 _ s.1 }

  go : (b : Bool) → served (slots m) (length (base_slots m)) (Avs b) ≡ true → Served15 m
  go true t = pair ((and-eq-true_iff (is_fixed 15 (get_or (slots m) 2 Nothing) && ltb 2 (length (base_slots m))) _).0 t).0
  go false t = pair t

pub has_20_V : (m : ℕ) → m ≤ 200 → (k : ℕ) → get_or (slots m) k Nothing ≡ Avs true → Served20 m
has_20_V m h k e =
    let t = subst (λ (s : Slot). served (slots m) (length (base_slots m)) s ≡ true) e (served_at m h k) in
    let u = ((and-eq-true_iff (is_fixed 15 (get_or (slots m) 2 Nothing) && ltb 2 (length (base_slots m))) _).0 t).1 in
    let s = (and-eq-true_iff (is_fixed 20 (get_or (slots m) 3 Nothing)) (ltb 3 (length (base_slots m)))).0 u in
    record { slot = fixed_is 20 _ s.0; below = ltb-true 3 _ s.1 }

-- ---- their order

abbrev pub slot_rank : Slot → ℕ
slot_rank Nothing = 0
slot_rank (Fixed volts) = 0
slot_rank (Avs past15V) = 3
slot_rank (Prog volts top) = 4

abbrev pub slot_key : Slot → ℕ
slot_key Nothing = 0
slot_key (Fixed volts) = volts * 20
slot_key (Avs past15V) = 0
slot_key (Prog volts top) = top

abbrev pub slot_keys : Slot → ℕ → ℕ → Bool
slot_keys Nothing k l = ltb k l
slot_keys (Fixed volts) k l = ltb k l
slot_keys (Avs past15V) k l = false
slot_keys (Prog volts top) k l = leb k l

abbrev pub follows : Slot → Slot → Bool
follows s t = ltb (slot_rank s) (slot_rank t) || (eqb (slot_rank s) (slot_rank t) && slot_keys t (slot_key s) (slot_key t))

rank_is : (p : Profile) (f : Bool) (s : Slot) → rank_of (object_for p f s) ≡ slot_rank s
unfolding object_for
rank_is p f Nothing = refl
rank_is p f (Fixed volts) = refl
rank_is p f (Avs past15V) = refl
rank_is p f (Prog volts top) = refl

key_is : (p : Profile) (f : Bool) (s : Slot) → key_of (object_for p f s) ≡ slot_key s
unfolding object_for
key_is p f Nothing = refl
key_is p f (Fixed volts) = refl
key_is p f (Avs past15V) = refl
key_is p f (Prog volts top) = refl

keys_are : (p : Profile) (f : Bool) (s : Slot) (k l : ℕ) → keys_may_follow (object_for p f s) k l ≡ slot_keys s k l
unfolding object_for
keys_are p f Nothing k l = refl
keys_are p f (Fixed volts) k l = refl
keys_are p f (Avs past15V) k l = refl
keys_are p f (Prog volts top) k l = refl

pub follow_is : (p : Profile) (f g : Bool) (s t : Slot) → may_follow (object_for p f s) (object_for p g t) ≡ follows s t
unfolding may_follow
follow_is p f g s t =
    rw (rank_is p f s, rank_is p g t, key_is p f s, key_is p g t) (ap (λ (b : Bool). ltb (slot_rank s) (slot_rank t) || (eqb (slot_rank s) (slot_rank t) && b)) (keys_are p g t (slot_key s) (slot_key t)))

abbrev all_follow : List Slot → Bool
all_follow [] = true
all_follow (s ∷ []) = true
all_follow (s ∷ t ∷ ss) = follows s t && all_follow (t ∷ ss)

each_follows : (ss : List Slot) → all_follow ss ≡ true → (k : ℕ) → suc k < length ss → follows (get_or ss k Nothing) (get_or ss (suc k) Nothing) ≡ true
each_follows [] e k h = absurd (omega arith)
each_follows (s ∷ []) e k h = absurd (omega arith)
each_follows (s ∷ t ∷ ss) e zero h = ((and-eq-true_iff (follows s t) (all_follow (t ∷ ss))).0 e).0
each_follows (s ∷ t ∷ ss) e (suc k) h = each_follows (t ∷ ss) ((and-eq-true_iff (follows s t) (all_follow (t ∷ ss))).0 e).1 k (omega arith)

pub follows_at : (m : ℕ) → m ≤ 200 → (k : ℕ) → suc k < length (slots m) → follows (get_or (slots m) k Nothing) (get_or (slots m) (suc k) Nothing) ≡ true
unfolding every_below base_slots prog_slots
follows_at m h k l = each_follows (slots m) (at_each (λ (n : ℕ). all_follow (slots n)) 201 m refl (omega arith)) k l
