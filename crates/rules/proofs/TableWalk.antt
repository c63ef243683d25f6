-- Walking a table row by row: which place of the port's list has been reached, and what stands there. Said once for both tables.
-- Assumes nothing.
use mathlib.Core.Path.{◌≡◌, refl, sym, ap, ◌∙◌}
use mathlib.Core.Bool.{Bool, true, false, ◌&&◌, cond}
use Rattle.std.specs.List.{count_by, filter}
use Rattle.std.proofs.lemmas.List.Sums.{length-filter}
use mathlib.Core.List.{List, [], ◌∷◌, ◌++◌, append_assoc, append-nil}
use Prim.Native.Nat.{ℕ, zero, suc, ◌+◌, ◌≤◌, ◌<◌}
use native.Mathlib.Omega.{arith}
use native.Mathlib.Numerals.{add-one}
use lib.Dec.{ltb}
use lib.ListN.{length, get_or, take, drop, length-append}
use borrow.Author.Tests.{lt-ltb, le-ltb}
use Rattle.rules.specs.declared.tables.Rail.{Rail}
use Rattle.rules.specs.declared.tables.Supply.{Supply}
use Rattle.rules.specs.Tables.{Slot, Nothing, Fixed, Avs, Prog, slot_if, row, rails, exceeds, fixed_slots, avs_slots, base_slots, prog_slots, slots, holds}

-- the slots that the rows of a table choose
abbrev pub chosen : {A : Type 0} → (A → List Slot) → List A → List Slot
chosen f [] = []
chosen f (r ∷ rs) = f r ++ chosen f rs

-- the slot right after some others
after : (xs ys : List Slot) (s : Slot) → get_or (xs ++ (s ∷ ys)) (length xs) Nothing ≡ s
after [] ys s = refl
after (x ∷ xs) ys s = after xs ys s

-- a table whose slots follow some others in a list
module _ {A : Type 0} (f : A → List Slot) (blank : A) (table : List A) (before later : List Slot) where
  abbrev pub reached : ℕ → ℕ
  reached i = length (before ++ chosen f (take i table))

  more : (rs : List A) (i : ℕ) → i < length rs → chosen f (take (suc i) rs) ≡ chosen f (take i rs) ++ f (get_or rs i blank)
  more [] i h = absurd (omega arith)
  more (r ∷ rs) zero h = append-nil (f r)
  more (r ∷ rs) (suc i) h = ap (λ (l : List Slot). f r ++ l) (more rs i (omega arith)) ∙ sym (append_assoc (f r) (chosen f (take i rs)) (f (get_or rs i blank)))

  split : (rs : List A) (i : ℕ) → i < length rs → chosen f rs ≡ chosen f (take i rs) ++ (f (get_or rs i blank) ++ chosen f (drop (suc i) rs))
  split [] i h = absurd (omega arith)
  split (r ∷ rs) zero h = refl
  split (r ∷ rs) (suc i) h =
      ap (λ (l : List Slot). f r ++ l) (split rs i (omega arith))
      ∙ sym (append_assoc (f r) (chosen f (take i rs)) (f (get_or rs i blank) ++ chosen f (drop (suc i) rs)))

  module _ (i : ℕ) (h : i < length table) where
    abbrev rest : List Slot
    rest = chosen f (drop (suc i) table) ++ later

    parted : (s : Slot) → f (get_or table i blank) ≡ s ∷ [] → before ++ (chosen f table ++ later) ≡ (before ++ chosen f (take i table)) ++ (s ∷ rest)
    parted s e =
        ap (λ (l : List Slot). before ++ (l ++ later)) (split table i h ∙ ap (λ (l : List Slot). chosen f (take i table) ++ (l ++ chosen f (drop (suc i) table))) e)
        ∙ ap (λ (l : List Slot). before ++ l) (append_assoc (chosen f (take i table)) (s ∷ chosen f (drop (suc i) table)) later)
        ∙ sym (append_assoc before (chosen f (take i table)) (s ∷ rest))

    -- a row that chooses a slot: it stands at the place reached, and the next row goes on after it
    pub here : (s : Slot) → f (get_or table i blank) ≡ s ∷ [] → get_or (before ++ (chosen f table ++ later)) (reached i) Nothing ≡ s
    here s e = ap (λ (l : List Slot). get_or l (reached i) Nothing) (parted s e) ∙ after (before ++ chosen f (take i table)) rest s

    pub inside : (s : Slot) → f (get_or table i blank) ≡ s ∷ [] → reached i < length (before ++ (chosen f table ++ later))
    inside s e = omega (arith, ap length (parted s e), length-append (before ++ chosen f (take i table)) (s ∷ rest))

    next : (l : List Slot) → f (get_or table i blank) ≡ l → before ++ chosen f (take (suc i) table) ≡ (before ++ chosen f (take i table)) ++ l
    next l e =
        ap (λ (x : List Slot). before ++ x) (more table i h ∙ ap (λ (x : List Slot). chosen f (take i table) ++ x) e)
        ∙ sym (append_assoc before (chosen f (take i table)) l)

    pub on : (s : Slot) → f (get_or table i blank) ≡ s ∷ [] → reached (i + 1) ≡ reached i + 1
    on s e =
        ap reached (add-one i) ∙ ap length (next (s ∷ []) e)
        ∙ length-append (before ++ chosen f (take i table)) (s ∷ [])

    -- a row that chooses none
    pub skipped : f (get_or table i blank) ≡ [] → reached (i + 1) ≡ reached i
    skipped e = ap reached (add-one i) ∙ ap length (next [] e ∙ append-nil (before ++ chosen f (take i table)))

-- ---- the fixed part

abbrev pub rail_slots : ℕ → Rail → List Slot
rail_slots m r = slot_if (exceeds m r) (Fixed r.volts)

-- the place after the first i rows
abbrev pub rails_to : ℕ → ℕ → ℕ
rails_to m i = length (chosen (rail_slots m) (take i rails))

-- a place of the full list, and the slot that stands there
pub record Stands (m place : ℕ) (s : Slot) : Type 0 where
  pub slot : get_or (slots m) place Nothing ≡ s
  pub within : place < length (slots m)

by_rails : (m : ℕ) → fixed_slots m rails ++ (avs_slots m ++ prog_slots m) ≡ slots m
unfolding base_slots
by_rails m = sym (append_assoc (fixed_slots m rails) (avs_slots m) (prog_slots m))

module _ (m i : ℕ) (h : i < 4) where
  abbrev rail : Rail
  rail = get_or rails i (row 0 0)

  abbrev others : List Slot
  others = avs_slots m ++ prog_slots m

  taken : rail.above.0 < m → rail_slots m rail ≡ Fixed rail.volts ∷ []
  taken t = ap (λ (b : Bool). slot_if b (Fixed rail.volts)) (lt-ltb rail.above.0 m t)

  pub rail_stands : rail.above.0 < m → Stands m (rails_to m i) (Fixed rail.volts)
  rail_stands t = record {
    slot = ap (λ (l : List Slot). get_or l (rails_to m i) Nothing) (sym (by_rails m)) ∙ here (rail_slots m) (row 0 0) rails [] others i h _ (taken t);
    within = omega (arith, ap length (by_rails m), inside (rail_slots m) (row 0 0) rails [] others i h _ (taken t));
  }

  pub rail_on : rail.above.0 < m → rails_to m (i + 1) ≡ rails_to m i + 1
  rail_on t = on (rail_slots m) (row 0 0) rails [] others i h _ (taken t)

  pub rail_skipped : m ≤ rail.above.0 → rails_to m (i + 1) ≡ rails_to m i
  rail_skipped t = skipped (rail_slots m) (row 0 0) rails [] others i h (ap (λ (b : Bool). slot_if b (Fixed rail.volts)) (le-ltb rail.above.0 m t))

pub rail_volts : (i : ℕ) → (get_or rails i (row 0 0)).volts ≤ 20
rail_volts zero = omega arith
rail_volts (suc zero) = omega arith
rail_volts (suc (suc zero)) = omega arith
rail_volts (suc (suc (suc zero))) = omega arith
rail_volts (suc (suc (suc (suc i)))) = omega arith

pub rail_volts_above_0 : (i : ℕ) → i < 4 → 0 < (get_or rails i (row 0 0)).volts
rail_volts_above_0 zero h = omega arith
rail_volts_above_0 (suc zero) h = omega arith
rail_volts_above_0 (suc (suc zero)) h = omega arith
rail_volts_above_0 (suc (suc (suc zero))) h = omega arith
rail_volts_above_0 (suc (suc (suc (suc i)))) h = absurd (omega arith)

-- so many rows, so many slots
kept_rows : (m : ℕ) (rs : List Rail) → length (filter (exceeds m) rs) ≡ length (fixed_slots m rs)
kept_rows m [] = refl
kept_rows m (r ∷ rs) = go (exceeds m r) (kept_rows m rs) where
  go : (b : Bool) → length (filter (exceeds m) rs) ≡ length (fixed_slots m rs)
      → length (cond b (r ∷ filter (exceeds m) rs) (filter (exceeds m) rs)) ≡ length (slot_if b (Fixed r.volts) ++ fixed_slots m rs)
  go true e = omega arith
  go false e = e

pub exceeded : (m : ℕ) (rs : List Rail) → count_by (exceeds m) rs ≡ length (fixed_slots m rs)
exceeded m rs = sym (length-filter (exceeds m) rs) ∙ kept_rows m rs

-- ---- AVS, after the fixed part

abbrev pub after_rails : ℕ → ℕ
after_rails m = length (fixed_slots m rails)

module _ (m : ℕ) where
  parted_avs : (l : List Slot) → avs_slots m ≡ l → slots m ≡ fixed_slots m rails ++ (l ++ prog_slots m)
  parted_avs l e = sym (by_rails m) ∙ ap (λ (x : List Slot). fixed_slots m rails ++ (x ++ prog_slots m)) e

  base_is : (l : List Slot) → avs_slots m ≡ l → base_slots m ≡ fixed_slots m rails ++ l
  unfolding base_slots
  base_is l e = ap (λ (x : List Slot). fixed_slots m rails ++ x) e

  present : 54 < m → avs_slots m ≡ Avs (ltb 90 m) ∷ []
  present t = ap (λ (b : Bool). slot_if b (Avs (ltb 90 m))) (lt-ltb 54 m t)

  pub avs_stands : 54 < m → Stands m (after_rails m) (Avs (ltb 90 m))
  avs_stands t =
      let e = parted_avs _ (present t) in
      record {
        slot = ap (λ (l : List Slot). get_or l (after_rails m) Nothing) e ∙ after (fixed_slots m rails) (prog_slots m) (Avs (ltb 90 m));
        within = omega (arith, ap length e, length-append (fixed_slots m rails) (Avs (ltb 90 m) ∷ prog_slots m));
      }

  pub avs_on : 54 < m → length (base_slots m) ≡ after_rails m + 1
  avs_on t = ap length (base_is _ (present t)) ∙ length-append (fixed_slots m rails) (Avs (ltb 90 m) ∷ [])

  pub avs_skipped : m ≤ 54 → length (base_slots m) ≡ after_rails m
  avs_skipped t =
      ap length (base_is [] (ap (λ (b : Bool). slot_if b (Avs (ltb 90 m))) (le-ltb 54 m t)) ∙ append-nil (fixed_slots m rails))

-- ---- programmable supplies, after the base

-- the rows as the code has them: the M that each must exceed, and the M that it must stay below
abbrev pub supply : ℕ → ℕ → ℕ → ℕ → Supply
supply volts top above below = record { volts = volts; top = record { 0 = top }; above = record { 0 = above }; below = record { 0 = below } }

abbrev pub supplies : List Supply
supplies = supply 9 110 30 90 ∷ supply 15 160 54 120 ∷ supply 20 210 90 201 ∷ []

abbrev pub supply_slots : ℕ → Supply → List Slot
supply_slots m r = slot_if (holds m r) (Prog r.volts r.top.0)

-- the place after the first i rows
abbrev pub supplies_to : ℕ → ℕ → ℕ
supplies_to m i = length (base_slots m ++ chosen (supply_slots m) (take i supplies))

whole : (b : Bool) (s : Slot) → slot_if (b && true) s ++ [] ≡ slot_if b s
whole true s = refl
whole false s = refl

-- these rows are those of `prog_slots`. 20 V Prog is "there when" M > 90: no M is above 200, so none reaches 201
supplies_are : (m : ℕ) → m ≤ 200 → chosen (supply_slots m) supplies ≡ prog_slots m
unfolding prog_slots
supplies_are m h =
    rw (lt-ltb m 201 (omega arith))
    (ap (λ (l : List Slot). supply_slots m (supply 9 110 30 90) ++ (supply_slots m (supply 15 160 54 120) ++ l)) (whole (ltb 90 m) (Prog 20 210))
    ∙ sym (append_assoc (supply_slots m (supply 9 110 30 90)) (supply_slots m (supply 15 160 54 120)) (slot_if (ltb 90 m) (Prog 20 210))))

pub no_supplies : (m : ℕ) → supplies_to m 0 ≡ length (base_slots m)
no_supplies m = ap length (append-nil (base_slots m))

module _ (m : ℕ) (high : m ≤ 200) where
  by_supplies : base_slots m ++ (chosen (supply_slots m) supplies ++ []) ≡ slots m
  by_supplies = ap (λ (l : List Slot). base_slots m ++ l) (append-nil (chosen (supply_slots m) supplies) ∙ supplies_are m high)

  pub all_supplies : supplies_to m 3 ≡ length (slots m)
  all_supplies = ap (λ (l : List Slot). length (base_slots m ++ l)) (supplies_are m high)

  module _ (i : ℕ) (h : i < 3) where
    abbrev supplied : Supply
    supplied = get_or supplies i (supply 0 0 0 0)

    chosen_as : (b : Bool) → holds m supplied ≡ b
        → supply_slots m supplied ≡ slot_if b (Prog supplied.volts supplied.top.0)
    chosen_as b e = ap (λ (x : Bool). slot_if x (Prog supplied.volts supplied.top.0)) e

    pub supply_stands : holds m supplied ≡ true → Stands m (supplies_to m i) (Prog supplied.volts supplied.top.0)
    supply_stands t = record {
      slot = ap (λ (l : List Slot). get_or l (supplies_to m i) Nothing) (sym by_supplies)
          ∙ here (supply_slots m) (supply 0 0 0 0) supplies (base_slots m) [] i h _ (chosen_as true t);
      within = omega (arith, ap length by_supplies, inside (supply_slots m) (supply 0 0 0 0) supplies (base_slots m) [] i h _ (chosen_as true t));
    }

    pub supply_on : holds m supplied ≡ true → supplies_to m (i + 1) ≡ supplies_to m i + 1
    supply_on t = on (supply_slots m) (supply 0 0 0 0) supplies (base_slots m) [] i h _ (chosen_as true t)

    pub supply_skipped : holds m supplied ≡ false → supplies_to m (i + 1) ≡ supplies_to m i
    supply_skipped t = skipped (supply_slots m) (supply 0 0 0 0) supplies (base_slots m) [] i h (chosen_as false t)
