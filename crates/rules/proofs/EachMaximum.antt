-- What is computed for each port maximum up to 200: no list has more than seven places.
-- Assumes nothing.
use mathlib.Core.Path.{refl}
use Prim.Native.Nat.{ℕ, ◌≤◌}
use native.Mathlib.Omega.{arith}
use lib.Dec.{leb}
use lib.ListN.{length, length-append}
use borrow.Author.Tests.{leb-true}
use Rattle.steps.proofs.Computed.{every_below, at_each}
use Rattle.rules.specs.Tables.{base_slots, prog_slots, slots}

pub at_most_seven : (m : ℕ) → m ≤ 200 → length (slots m) ≤ 7
unfolding every_below base_slots prog_slots
at_most_seven m h = leb-true (length (slots m)) 7 (at_each (λ (n : ℕ). leb (length (slots n)) 7) 201 m refl (omega arith))

pub base_within : (m : ℕ) → length (base_slots m) ≤ length (slots m)
base_within m = omega (arith, length-append (base_slots m) (prog_slots m))
