-- The slots of a port's list stand at rising positions, computed for each port maximum up to 200.
-- Assumes nothing.
use mathlib.Core.Path.{◌≡◌, refl}
use mathlib.Core.Bool.{Bool, true, ◌&&◌, and-eq-true_iff}
use mathlib.Core.List.{List, [], ◌∷◌, ◌++◌}
use Prim.Native.Nat.{ℕ, zero, suc, ◌≤◌, ◌<◌}
use native.Mathlib.Omega.{arith}
use lib.Dec.{leb}
use lib.ListN.{get_or, length, length-append, get_or-append}
use borrow.Author.Tests.{leb-true}
use Rattle.rules.specs.Tables.{Slot, Nothing, base_slots, prog_slots, slots}
use Rattle.steps.proofs.Computed.{every_below, at_each}
use Rattle.rules.proofs.Positions.{slot_position}

-- each stands at the least position or after it, and after those before it
abbrev rising_from : ℕ → List Slot → Bool
rising_from least [] = true
rising_from least (s ∷ ss) = leb least (slot_position s) && rising_from (suc (slot_position s)) ss

abbrev pub Rising : List Slot → Type 0
Rising ss = (i j : ℕ) → i < j → j < length ss → slot_position (get_or ss i Nothing) < slot_position (get_or ss j Nothing)

from_least : (least : ℕ) (ss : List Slot) → rising_from least ss ≡ true → (j : ℕ) → j < length ss → least ≤ slot_position (get_or ss j Nothing)
from_least least [] t j h = absurd (omega arith)
from_least least (s ∷ ss) t zero h = leb-true least (slot_position s) ((and-eq-true_iff (leb least (slot_position s)) (rising_from (suc (slot_position s)) ss)).0 t).0
from_least least (s ∷ ss) t (suc j) h =
    let r = (and-eq-true_iff (leb least (slot_position s)) (rising_from (suc (slot_position s)) ss)).0 t in
    omega (arith, leb-true least (slot_position s) r.0, from_least (suc (slot_position s)) ss r.1 j (omega arith))

rises : (least : ℕ) (ss : List Slot) → rising_from least ss ≡ true → Rising ss
rises least [] t i j h l = absurd (omega arith)
rises least (s ∷ ss) t i zero h l = absurd (omega arith)
rises least (s ∷ ss) t zero (suc j) h l =
    from_least (suc (slot_position s)) ss ((and-eq-true_iff (leb least (slot_position s)) (rising_from (suc (slot_position s)) ss)).0 t).1 j (omega arith)
rises least (s ∷ ss) t (suc i) (suc j) h l =
    rises (suc (slot_position s)) ss ((and-eq-true_iff (leb least (slot_position s)) (rising_from (suc (slot_position s)) ss)).0 t).1 i j (omega arith) (omega arith)

pub slots_rise : (m : ℕ) → m ≤ 200 → Rising (slots m)
unfolding every_below base_slots prog_slots
slots_rise m h = rises 0 (slots m) (at_each (λ (n : ℕ). rising_from 0 (slots n)) 201 m refl (omega arith))

pub rising_left : (ss ts : List Slot) → Rising (ss ++ ts) → Rising ss
rising_left ss ts r i j h l =
    let e = r i j h (omega (arith, length-append ss ts)) in
    rw (get_or-append ss ts Nothing i (omega arith), get_or-append ss ts Nothing j l) at e
