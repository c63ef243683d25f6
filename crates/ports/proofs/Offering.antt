-- A port that is offered power (STATEMENT, "Calls": attach and advertise answer with "its rule list"): its list can be built.
-- Assumes nothing.
use mathlib.Core.Path.{◌≡◌, refl, ap}
use mathlib.Core.Bool.{Bool, true, false}
use mathlib.Core.List.{List}
use Prim.Native.Nat.{ℕ, ◌≤◌}
use native.Mathlib.Nat.{min-le_left, le-min}
use native.Mathlib.Omega.{arith}
use lib.Dec.{eqb}
use Rattle.verdicts.specs.declared.Verdict.{Verdict}
use Rattle.verdicts.specs.Refusals.{success, NoneApply}
use Rattle.lists.specs.declared.Listing.{Listing}
use Rattle.rules.specs.Profiles.{bad_cable}
use Rattle.rules.specs.Building.{built_of}
use Rattle.ports.specs.declared.Row.{Row}
use Rattle.ports.specs.Rows.{port_row, left_for, present_for, offering, offered}
use Rattle.ports.specs.Soundness.{sound_row}
use Rattle.ports.specs.RuleLists.{rule_profile, rule_list, Offerable}
use Rattle.ports.specs.Refusing.{port_refusals}
use Rattle.ports.proofs.Sound.{sound_empty_lem, sound_attached_lem, limits_of_lem}
use Rattle.ports.proofs.RuleLists.{rule_list_built}
use Rattle.ports.proofs.Passing.{row_sound, own_fits}

-- every row of sound rows holds at least 15
pub held_from_15 : (y : Row) → sound_row y ≡ true → 15 ≤ y.held.0
held_from_15 y s = go (eqb y.cable.0 0) refl where
  go : (b : Bool) → eqb y.cable.0 0 ≡ b → 15 ≤ y.held.0
  go true e = omega (arith, (sound_empty_lem y s e).held_15)
  go false e = (sound_attached_lem y s e).held_low

module _ (capacity : ℕ) (ys : List Row) (port : ℕ) (x : NoneApply (port_refusals capacity ys port)) where
  pub left_from_15 : 15 ≤ left_for capacity ys port
  left_from_15 =
      let a = own_fits capacity ys port x in
      let b = held_from_15 (port_row ys port) (row_sound capacity ys port x) in
      omega (arith, a, b)

  -- the P that is offered is 15 or more, and no more than M
  pub offered_from_15 : 15 ≤ present_for capacity ys port
  unfolding present_for
  offered_from_15 = le-min (limits_of_lem (port_row ys port) (row_sound capacity ys port x)).max_low left_from_15

  pub offered_to_max : present_for capacity ys port ≤ (port_row ys port).max.0
  unfolding present_for
  offered_to_max = min-le_left (port_row ys port).max.0 (left_for capacity ys port)

  module _ (cable : ℕ) (good : bad_cable cable ≡ false) where
    pub offerable : Offerable (offered capacity ys port cable)
    unfolding offering present_for
    offerable = record {
      max_high = (limits_of_lem (port_row ys port) (row_sound capacity ys port x)).max_high;
      present_low = let a = offered_from_15 in omega (arith, a);
      present_high = offered_to_max;
      good_cable = good;
    }

    pub list_offered : built_of (rule_profile (offered capacity ys port cable)) ≡ record {
      verdict = success;
      list = rule_list
          (offered capacity ys port cable);
    }
    list_offered =
        ap (λ (v : Verdict). record { verdict = v; list = rule_list (offered capacity ys port cable) })
        (ap (λ (l : Listing). l.verdict) (rule_list_built (offered capacity ys port cable) offerable))
