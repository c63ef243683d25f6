-- Whether a list has a fixed object: a word that is found, and any of its words.
-- Assumes nothing.
use Rattle.std.specs.List.{list_any}
use mathlib.Core.Path.{◌≡◌, refl, sym, ap, ◌∙◌}
use mathlib.Core.Bool.{Bool, true, false, ◌||◌, or-true, or_comm, or_assoc}
use mathlib.Core.List.{List, [], ◌∷◌}
use mathlib.Core.Logic.{⊎_elim}
use Prim.Native.Nat.{ℕ, zero, suc, ◌<◌}
use native.Mathlib.Nat.{eq-or-lt_of_le, le_of_suc-le-suc}
use native.Mathlib.Omega.{arith}
use lib.ListN.{get_or, length}
use Rattle.steps.specs.declared.Ma10.{Ma10}
use Rattle.objects.specs.Asking.{of_object}
use Rattle.objects.specs.Decode.{decode_of}
use Rattle.lists.specs.Shape.{fixed_with, has_fixed}

module _ (ws : List ℕ) (mv : ℕ) (current : Ma10) where
  pub found_at : (n k : ℕ) → k < n → of_object (fixed_with mv current) (decode_of (get_or ws k 0)) ≡ true → has_fixed ws n mv current ≡ true
  unfolding has_fixed
  found_at zero k h f = absurd (omega arith)
  found_at (suc n) k h f = ⊎_elim
      (λ e. ap (λ (b : Bool). has_fixed ws n mv current || b) (ap (λ (j : ℕ). of_object (fixed_with mv current) (decode_of (get_or ws j 0))) (sym e) ∙ f)
      ∙ or-true (has_fixed ws n mv current))
      (λ l. ap (λ (b : Bool). b || of_object (fixed_with mv current) (decode_of (get_or ws n 0))) (found_at n k l f))
      (eq-or-lt_of_le (le_of_suc-le-suc h))

-- the list has such an object where any of its words is one
module _ (mv : ℕ) (current : Ma10) where
  abbrev pub is_such : ℕ → Bool
  is_such w = of_object (fixed_with mv current) (decode_of w)

  one_before : (w : ℕ) (ws : List ℕ) (n : ℕ) → has_fixed (w ∷ ws) (suc n) mv current ≡ (is_such w || has_fixed ws n mv current)
  unfolding has_fixed
  one_before w ws zero = or_comm false (is_such w)
  one_before w ws (suc n) =
      ap (λ (b : Bool). b || is_such (get_or ws n 0)) (one_before w ws n) ∙ or_assoc (is_such w) (has_fixed ws n mv current) (is_such (get_or ws n 0))

  pub any_such : (ws : List ℕ) → list_any is_such ws ≡ has_fixed ws (length ws) mv current
  unfolding has_fixed
  any_such [] = refl
  any_such (w ∷ ws) = ap (λ (b : Bool). is_such w || b) (any_such ws) ∙ sym (one_before w ws (length ws))
