-- Every current that is built is allowed.
-- Assumes nothing.
use mathlib.Core.Path.{◌≡◌, refl, sym, ap, ◌∙◌}
use mathlib.Core.Bool.{Bool, true, false, not, ◌||◌, or-true, and-eq-true_iff}
use Prim.Native.Nat.{ℕ, zero, suc, ◌*◌, ◌≤◌, min}
use native.Mathlib.Nat.{min-eq_right, min-le_left}
use native.Mathlib.Omega.{arith}
use lib.Dec.{leb, eqb}
use borrow.Author.Tests.{leb-true, eq-eqb}
use Rattle.steps.proofs.RoundingLaws.{down_le_up}
use Rattle.rules.specs.declared.Profile.{Profile}
use Rattle.rules.specs.Tables.{Slot, Nothing, Fixed, Avs, Prog}
use Rattle.rules.specs.Currents.{built_current, fixed_allowed, prog_current, above_3_A, either_rounding, rounded_as, down_at, up_at}
use Rattle.rules.specs.Building.{object_for}
use Rattle.rules.specs.Checking.{current_refused}
use Rattle.rules.proofs.Allowed.{above_3_A_means, limit_3_A, down_from_3_A, up_from_3_A, above_3_A_lem, just_low, not_above_3_A, cut_to_cable, built_figure}
use Rattle.rules.proofs.Slots.{slot_good}

module _ (p : Profile) (volts : ℕ) (pos : 1 ≤ volts) where
  abbrev rounded : ℕ → ℕ
  rounded r = rounded_as r (down_at p volts) (up_at p volts)

  abbrev down : ℕ
  down = min (down_at p volts) p.cable.0

  abbrev up : ℕ
  up = min (up_at p volts) p.cable.0

  no_less : (r : ℕ) → down_at p volts ≤ rounded r
  no_less zero = omega arith
  no_less (suc r) = down_le_up (50 * p.present.0) volts

  no_more : (r : ℕ) → rounded r ≤ up_at p volts
  no_more zero = down_le_up (50 * p.present.0) volts
  no_more (suc r) = omega arith

  -- where P is above 3 A the built current is the smaller of 3 A and the cable
  past_3_A : above_3_A p volts ≡ true → fixed_allowed p volts (built_current p volts) ≡ true
  unfolding built_current
  past_3_A e =
      let s = above_3_A_means p volts e in
      let low = min 300 p.cable.0 in
      let built : built_current p volts ≡ low =
      ap (min (rounded p.rounding)) (limit_3_A volts 300 p.cable.0 s.0)
      ∙ min-eq_right (omega (arith, no_less p.rounding, down_from_3_A p volts pos s.1, min-le_left 300 p.cable.0)) in
      ap (fixed_allowed p volts) built ∙ above_3_A_lem p volts low e ∙ sym (just_low p volts low refl (up_from_3_A p volts pos s.1))

  -- elsewhere it is the quotient rounded one way, cut to the cable: a limit of 3 A cuts nothing off there
  one_rounding : above_3_A p volts ≡ false → fixed_allowed p volts (built_current p volts) ≡ true
  unfolding built_current
  one_rounding e =
      not_above_3_A p volts (built_current p volts) e
      ∙ ap (either_rounding p volts) (cut_to_cable p volts (rounded p.rounding) pos e (no_more p.rounding))
      ∙ go p.rounding
    where
      go : (r : ℕ) → either_rounding p volts (min (rounded r) p.cable.0) ≡ true
      go zero = ap (λ (b : Bool). b || eqb down up) (eq-eqb down down refl)
      go (suc r) = ap (λ (b : Bool). eqb up down || b) (eq-eqb up up refl) ∙ or-true (eqb up down)

  pub built_allowed : fixed_allowed p volts (built_current p volts) ≡ true
  built_allowed = go (above_3_A p volts) refl where
    go : (b : Bool) → above_3_A p volts ≡ b → fixed_allowed p volts (built_current p volts) ≡ true
    go true e = past_3_A e
    go false e = one_rounding e

-- at every slot
pub allowed_at : (p : Profile) (first : Bool) (s : Slot) → slot_good s ≡ true → current_refused p s (object_for p first s) ≡ false
unfolding object_for current_refused
allowed_at p first Nothing g = refl
allowed_at p first (Fixed volts) g = ap not (built_allowed p volts (leb-true 1 volts ((and-eq-true_iff (leb 1 volts) (leb volts 20)).0 g).0))
allowed_at p first (Avs past15V) g = refl
allowed_at p first (Prog volts top) g = ap not (built_figure p volts (prog_current p volts) refl)
