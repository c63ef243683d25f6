-- The word at a place of a built list, found by counting along the tables.
-- Assumes nothing.
use Rattle.std.specs.Prelude.{Option, Some, None}
use mathlib.Core.Path.{◌≡◌, refl, sym, ap, ◌∙◌, subst}
use mathlib.Core.Bool.{Bool, true, false, cond, ◌&&◌, and-eq-true_iff, false≢true}
use mathlib.Core.List.{List, [], ◌∷◌}
use Prim.Native.Nat.{ℕ, zero, suc, ◌-◌, ◌≤◌, ◌<◌}
use native.Mathlib.Omega.{arith}
use lib.Dec.{leb, ltb, eqb}
use lib.ListN.{get_or, length}
use borrow.Author.Tests.{leb-true, lt-ltb, le-ltb, ltb-true, ltb-false, le-leb, lt-leb, eq-eqb, ne_eqb}
use Rattle.steps.proofs.Computed.{every_below, at_each}
use Rattle.lists.specs.declared.Words.{Words}
use Rattle.lists.specs.Writing.{no_words}
use Rattle.lists.proofs.Sevens.{filled_at}
use Rattle.rules.specs.declared.tables.Rail.{Rail}
use Rattle.rules.specs.declared.Profile.{Profile}
use Rattle.rules.specs.Tables.{Slot, Nothing, Fixed, Avs, row, rails, base_slots, prog_slots, slots}
use Rattle.rules.specs.Building.{slot_word, word_for, built_count, built_words}
use Rattle.rules.specs.Placing.{placed_in, full_at, placed_at}
use Rattle.rules.proofs.EachMaximum.{base_within}
use Rattle.rules.proofs.TableWalk.{Stands, rails_to, after_rails, avs_stands, avs_on, avs_skipped, supplies_to}
use Rattle.rules.proofs.Slots.{is_fixed, fixed_is}

-- ---- how far the rows of a table go

abbrev all_left : ℕ → Bool
all_left m = every_below (λ (i : ℕ). leb (rails_to m i) (after_rails m)) 5 && every_below (λ (i : ℕ). leb (supplies_to m i) (length (slots m))) 4

all_left_at : (m : ℕ) → m ≤ 200 → all_left m ≡ true
unfolding every_below base_slots prog_slots
all_left_at m high = at_each all_left 201 m refl (omega arith)

module _ (m i : ℕ) (high : m ≤ 200) where
  pub rails_left : i ≤ 4 → rails_to m i ≤ after_rails m
  rails_left h =
      leb-true _ _ (at_each (λ (k : ℕ). leb (rails_to m k) (after_rails m)) 5 i ((and-eq-true_iff _ _).0 (all_left_at m high)).0 (omega arith))

  pub supplies_left : i ≤ 3 → supplies_to m i ≤ length (slots m)
  supplies_left h =
      leb-true _ _ (at_each (λ (k : ℕ). leb (supplies_to m k) (length (slots m))) 4 i ((and-eq-true_iff _ _).0 (all_left_at m high)).1 (omega arith))

-- a slot at the place that is asked for
pub stands_at : (m n asked : ℕ) (s : Slot) → n ≡ asked → Stands m n s → Stands m asked s
stands_at m n asked s e st = subst (λ (k : ℕ). Stands m k s) e st

-- ---- the fixed part: the row of a place has the place's own number

abbrev rails_first : List Rail → List Slot → ℕ → Bool
rails_first rs ss zero = true
rails_first [] ss (suc n) = false
rails_first (r ∷ rs) [] (suc n) = false
rails_first (r ∷ rs) (s ∷ ss) (suc n) = is_fixed r.volts s && rails_first rs ss n

record RailAt (rs : List Rail) (ss : List Slot) (k : ℕ) : Type 0 where
  row_there : k < length rs
  slot_there : k < length ss
  same : get_or ss k Nothing ≡ Fixed (get_or rs k (row 0 0)).volts

each_rail : (rs : List Rail) (ss : List Slot) (n k : ℕ) → rails_first rs ss n ≡ true → k < n → RailAt rs ss k
each_rail rs ss zero k t h = absurd (omega arith)
each_rail [] ss (suc n) k t h = absurd (false≢true t)
each_rail (r ∷ rs) [] (suc n) k t h = absurd (false≢true t)
each_rail (r ∷ rs) (s ∷ ss) (suc n) zero t h =
    record {
      row_there = omega arith;
      slot_there = omega arith;
      same = fixed_is r.volts s ((and-eq-true_iff (is_fixed r.volts s) (rails_first rs ss n)).0 t).0;
    }
each_rail (r ∷ rs) (s ∷ ss) (suc n) (suc k) t h =
    let x = each_rail rs ss n k ((and-eq-true_iff (is_fixed r.volts s) (rails_first rs ss n)).0 t).1 (omega arith) in
    record { row_there = omega (arith, x.row_there); slot_there = omega (arith, x.slot_there); same = x.same }

module _ (m k : ℕ) (high : m ≤ 200) (h : k < after_rails m) where
  here : RailAt rails (slots m) k
  unfolding every_below base_slots prog_slots
  here = each_rail rails (slots m) (after_rails m) k (at_each (λ (n : ℕ). rails_first rails (slots n) (after_rails n)) 201 m refl (omega arith)) h

  pub rail_there : k < 4
  rail_there = here.row_there

  pub rail_at : Stands m k (Fixed (get_or rails k (row 0 0)).volts)
  rail_at = record { slot = here.same; within = here.slot_there }

-- ---- a word at its place, and a place past the last

module _ (p : Profile) (n at : ℕ) where
  abbrev chosen : Bool → Option ℕ
  chosen b = cond b (Some (word_for p at)) None

  pub word_there : (s : Slot) (word : ℕ) → Stands p.max.0 at s → at < n → word ≡ slot_word p (eqb at 0) s → Some word ≡ full_at p n at
  unfolding full_at
  word_there s word st h e = ap Some (e ∙ ap (slot_word p (eqb at 0)) (sym st.slot)) ∙ ap chosen (sym (lt-ltb at n h))

  pub none_there : n ≤ at → None ≡ full_at p n at
  unfolding full_at
  none_there h = ap chosen (sym (le-ltb at n h))

pub rails_in_base_lem : (m : ℕ) → after_rails m ≤ length (base_slots m)
rails_in_base_lem m = go (ltb 54 m) refl where
  go : (b : Bool) → ltb 54 m ≡ b → after_rails m ≤ length (base_slots m)
  go true t = omega (arith, avs_on m (ltb-true 54 m t))
  go false t = omega (arith, avs_skipped m (ltb-false 54 m t))

pub rails_in_base : (m k : ℕ) → k < after_rails m → k < length (base_slots m)
rails_in_base m k h = omega (arith, rails_in_base_lem m)

-- the AVS place is the only one after the fixed part and before the supplies
pub avs_at : (m k : ℕ) → after_rails m ≤ k → k < length (base_slots m) → Stands m k (Avs (ltb 90 m))
avs_at m k low high = go (ltb 54 m) refl where
  go : (b : Bool) → ltb 54 m ≡ b → Stands m k (Avs (ltb 90 m))
  go true t =
      let above = ltb-true 54 m t in
      let e : after_rails m ≡ k = omega (arith, avs_on m above, low, high) in
      subst (λ (n : ℕ). Stands m n (Avs (ltb 90 m))) e (avs_stands m above)
  go false t = absurd (omega (arith, avs_skipped m (ltb-false 54 m t), low, high))

-- "when W is 1, the programmable supplies"
module _ (p : Profile) where
  abbrev counted : Bool → ℕ
  counted wanted = cond wanted (length (slots p.max.0)) (length (base_slots p.max.0))

  pub with_pps : p.pps ≡ 1 → built_count p ≡ length (slots p.max.0)
  with_pps e = ap counted (eq-eqb p.pps 1 e)

  pub without_pps : (p.pps ≡ 1 → ⊥) → built_count p ≡ length (base_slots p.max.0)
  without_pps f = ap counted (ne_eqb p.pps 1 f)

  pub base_counted : (k : ℕ) → k < length (base_slots p.max.0) → k < built_count p
  base_counted k h = go (eqb p.pps 1) where
    go : (b : Bool) → k < counted b
    go true = omega (arith, h, base_within p.max.0)
    go false = h

-- ---- places of a list, from 1

pub place_0 : (l : Words) (place : ℕ) → place < 1 → placed_in l place ≡ None
unfolding placed_in
place_0 l place h = rw (lt-leb 1 place h)

pub past_count : (l : Words) (place : ℕ) → l.count < place → placed_in l place ≡ None
unfolding placed_in
past_count l place h = rw (le-leb 1 place (omega arith), lt-leb place l.count h)

pub at_place : (l : Words) (place : ℕ) → 1 ≤ place → place ≤ l.count → placed_in l place ≡ Some (get_or l.words (place - 1) 0)
unfolding placed_in
at_place l place h k = rw (le-leb 1 place h, le-leb place l.count k)

pub none_placed : (place : ℕ) → placed_in no_words place ≡ None
none_placed zero = place_0 no_words 0 (omega arith)
none_placed (suc place) = past_count no_words (suc place) (omega arith)

module _ (p : Profile) (place : ℕ) (seven : built_count p ≤ 7) (h : 1 ≤ place) where
  pub placed_there : placed_at p (place - 1) ≡ placed_in (built_words p) place
  unfolding full_at
  placed_there = go (ltb (place - 1) (built_count p)) refl where
    go : (b : Bool) → ltb (place - 1) (built_count p) ≡ b → placed_at p (place - 1) ≡ placed_in (built_words p) place
    go true t =
        let l = ltb-true (place - 1) (built_count p) t in
        ap (chosen p (built_count p) (place - 1)) t
        ∙ ap Some (sym (filled_at (word_for p) 0 (built_count p) (place - 1) seven l))
        ∙ sym (at_place (built_words p) place h (omega (arith, h, l)))
    go false t =
        let l = ltb-false (place - 1) (built_count p) t in
        ap (chosen p (built_count p) (place - 1)) t ∙ sym (past_count (built_words p) place (omega (arith, h, l)))
