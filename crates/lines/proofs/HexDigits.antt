-- The table of hex digits has at each place the digit of that number: one test, computed over the whole table.
-- Assumes nothing.
use mathlib.Core.Path.{◌≡◌, refl}
use mathlib.Core.List.{List, [], ◌∷◌}
use Prim.Native.Nat.{ℕ, ◌<◌}
use lib.Dec.{eqb}
use lib.ListN.{get_or}
use borrow.Author.Tests.{eqb-true}
use Rattle.steps.proofs.Computed.{every_below, at_each}
use Rattle.lines.specs.Text.{hex_digit}

abbrev pub table : List ℕ
table = 48 ∷ 49 ∷ 50 ∷ 51 ∷ 52 ∷ 53 ∷ 54 ∷ 55 ∷ 56 ∷ 57 ∷ 65 ∷ 66 ∷ 67 ∷ 68 ∷ 69 ∷ 70 ∷ []

pub digit_at : (d : ℕ) → d < 16 → get_or table d 0 ≡ hex_digit d
unfolding every_below
digit_at d h = eqb-true (get_or table d 0) (hex_digit d) (at_each (λ (k : ℕ). eqb (get_or table k 0) (hex_digit k)) 16 d refl h)
