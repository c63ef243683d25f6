-- A list that is built for some profile with a port's M: its shape passes, and where M is above 30 it has more than the 5 V object.
-- Assumes nothing.
use mathlib.Core.Path.{◌≡◌, refl, sym, subst}
use Prim.Native.Nat.{ℕ, ◌<◌}
use native.Mathlib.Omega.{arith}
use lib.ListN.{length}
use borrow.Author.Tests.{lt-ltb}
use Rattle.verdicts.specs.Refusals.{NoneApply}
use Rattle.lists.specs.declared.Words.{Words}
use Rattle.lists.specs.Shape.{shape_refusals}
use Rattle.lists.specs.Kept.{Words32}
use Rattle.rules.specs.declared.Profile.{Profile}
use Rattle.rules.specs.Profiles.{build_refusals}
use Rattle.rules.specs.Tables.{base_slots}
use Rattle.rules.specs.Building.{built_words}
use Rattle.rules.proofs.BuiltPasses.{shape_clear, built_fits}
use Rattle.rules.proofs.Places.{base_counted}
use Rattle.ports.specs.declared.Row.{Row}
use Rattle.ports.specs.RuleLists.{rule_profile, rule_list, Offerable}
use Rattle.ports.proofs.RuleLists.{rule_profile_passes, rule_list_is}

pub record BuiltFor (m : ℕ) (w : Words) : Type 0 where
  pub profile : Profile
  pub max_is : profile.max.0 ≡ m
  pub passes : NoneApply (build_refusals profile)
  pub list_is : w ≡ built_words profile

-- the rule list of a row is built for its M
pub rule_list_for : (y : Row) → Offerable y → BuiltFor y.max.0 (rule_list y)
unfolding rule_profile
rule_list_for y o = record { profile = rule_profile y; max_is = refl; passes = rule_profile_passes y o; list_is = rule_list_is y o }

-- above M 30 the tables have 5 V and 9 V
two_slots : (m : ℕ) → 30 < m → 1 < length (base_slots m)
unfolding base_slots
two_slots m h = rw (lt-ltb 0 m (omega arith), lt-ltb 30 m h) (omega arith)

module _ (m : ℕ) (w : Words) (b : BuiltFor m w) where
  pub for_shaped : NoneApply (shape_refusals w)
  for_shaped = subst (λ (x : Words). NoneApply (shape_refusals x)) (sym b.list_is) (shape_clear b.profile b.passes)

  pub for_typed : Words32 w
  for_typed = subst Words32 (sym b.list_is) (built_fits b.profile b.passes)

  pub for_past_5_V : 30 < m → 1 < w.count
  for_past_5_V h =
      subst (λ (x : Words). 1 < x.count) (sym b.list_is)
      (base_counted b.profile 1 (two_slots b.profile.max.0 (omega (arith, b.max_is))))
