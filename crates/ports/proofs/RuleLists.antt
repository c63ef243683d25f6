-- A row that a list can be built for (STATEMENT, "Rows"): its profile passes the builder, and the list its shape.
-- Assumes nothing.
use mathlib.Core.Path.{◌≡◌, refl, sym, ap, subst}
use mathlib.Core.Bool.{Bool, true, false, cond, ◌&&◌, ◌||◌}
use Prim.Native.Nat.{◌≤◌}
use native.Mathlib.Omega.{arith}
use lib.Dec.{ltb, eqb}
use borrow.Author.Tests.{le-ltb, eqb-true}
use Rattle.verdicts.specs.Refusals.{success, NoneApply}
use Rattle.steps.proofs.RangeLaws.{inside}
use Rattle.lists.specs.declared.Words.{Words}
use Rattle.lists.specs.declared.Listing.{Listing}
use Rattle.lists.specs.Shape.{shape_refusals}
use Rattle.rules.specs.Profiles.{build_refusals}
use Rattle.rules.specs.Building.{built_words, built_of}
use Rattle.rules.proofs.Builds.{build_clear}
use Rattle.rules.proofs.BuiltPasses.{shape_clear}
use Rattle.ports.specs.declared.Row.{Row}
use Rattle.ports.specs.RuleLists.{rule_pps, rule_profile, rule_list, Offerable}
use Rattle.ports.proofs.Sound.{SoundAttached}

-- an attached port of sound rows is one, with a P of at least 15
pub attached_from_15 : (y : Row) → SoundAttached y → 15 ≤ y.present.0
attached_from_15 y a = omega (arith, a.held_low, a.held_high)

pub attached_offerable : (y : Row) → SoundAttached y → Offerable y
attached_offerable y a = record {
  max_high = a.limits.max_high;
  present_low = omega (arith, a.held_low, a.held_high);
  present_high = a.present_high;
  good_cable = a.good_cable;
}

module _ (y : Row) (o : Offerable y) where
  -- "rounding down, without flags, and with PPS wherever PPS is wanted and P is equal to M": no refusal of the builder applies
  pub rule_profile_passes : NoneApply (build_refusals (rule_profile y))
  unfolding rule_profile rule_pps
  rule_profile_passes = (
    inside 1 200 y.max.0 (omega (arith, o.present_low, o.present_high)) o.max_high,
    (
      inside 1 y.max.0 y.present.0 o.present_low o.present_high,
      (o.good_cable, (pps_0_or_1 (eqb y.pps 1 && eqb y.present.0 y.max.0), (refl, (at_maximum, tt)))),
    ),
  ) where
    pps_0_or_1 : (b : Bool) → (ltb 1 0 || ltb 1 (cond b 1 0)) ≡ false
    pps_0_or_1 true = refl
    pps_0_or_1 false = refl

    at_maximum : (eqb (cond (eqb y.pps 1 && eqb y.present.0 y.max.0) 1 0) 1 && ltb y.present.0 y.max.0) ≡ false
    at_maximum = go (eqb y.pps 1) (eqb y.present.0 y.max.0) refl where
      go : (a b : Bool) → eqb y.present.0 y.max.0 ≡ b → (eqb (cond (a && b) 1 0) 1 && ltb y.present.0 y.max.0) ≡ false
      go true true e = le-ltb y.present.0 y.max.0 (omega (arith, eqb-true y.present.0 y.max.0 e))
      go true false e = refl
      go false b e = refl

  pub rule_list_built : built_of (rule_profile y) ≡ record { verdict = success; list = built_words (rule_profile y) }
  rule_list_built = build_clear (rule_profile y) rule_profile_passes

  -- "It is not stored: it follows from the row."
  pub rule_list_is : rule_list y ≡ built_words (rule_profile y)
  rule_list_is = ap (λ (l : Listing). l.list) rule_list_built

  -- it passes its shape
  pub rule_list_clear : NoneApply (shape_refusals (rule_list y))
  rule_list_clear = subst (λ (l : Words). NoneApply (shape_refusals l)) (sym rule_list_is) (shape_clear (rule_profile y) rule_profile_passes)
