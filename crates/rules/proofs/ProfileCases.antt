-- The refusals of a profile, case by case, and what a profile that passes says.
-- Assumes nothing.
use mathlib.Core.Path.{◌≡◌, refl, ap}
use mathlib.Core.Bool.{true}
use Prim.Native.Nat.{◌≤◌}
use native.Mathlib.Omega.{arith}
use lib.Dec.{ltb}
use borrow.Author.Tests.{ltb-false}
use Rattle.verdicts.specs.declared.Verdict.{Verdict}
use Rattle.verdicts.specs.Refusals.{verdict, success, verdict_of, NoneApply}
use Rattle.verdicts.proofs.First.{all_missed, numbered, none_applied}
use Rattle.rules.specs.declared.Profile.{Profile}
use Rattle.rules.specs.declared.port.Port.{Port}
use Rattle.rules.specs.Profiles.{profile_refusals, Within}
use Rattle.steps.proofs.RangeLaws.{at_least, at_most}
use Rattle.verdicts.proofs.Bools.{either_false}

pub profile_numbered : (p : Profile) → numbered (profile_refusals p) ≡ true
profile_numbered p = refl

-- a port: none of the refusals of its profile applies
pub port_fine : (port : Port) → NoneApply (profile_refusals port.profile)
port_fine port = none_applied (profile_refusals port.profile) (profile_numbered port.profile) port.passed

-- a profile that passes
module _ (p : Profile) (x : NoneApply (profile_refusals p)) where
  pub max_high : p.max.0 ≤ 200
  max_high = at_most 1 200 p.max.0 x.0

  pub max_low : 1 ≤ p.max.0
  max_low = at_least 1 200 p.max.0 x.0

  pub present_high : p.present.0 ≤ p.max.0
  present_high = at_most 1 p.max.0 p.present.0 x.1.0

  pub present_low : 1 ≤ p.present.0
  present_low = at_least 1 p.max.0 p.present.0 x.1.0

  pub cable_low : 100 ≤ p.cable.0
  cable_low = at_least 100 500 p.cable.0 x.1.1.0

  pub cable_high : p.cable.0 ≤ 500
  cable_high = at_most 100 500 p.cable.0 x.1.1.0

  pub rounding_high : p.rounding ≤ 1
  rounding_high = ltb-false 1 p.rounding (either_false (ltb 1 p.rounding) (ltb 1 p.pps) x.1.1.1.0).0

  pub pps_high : p.pps ≤ 1
  pps_high = ltb-false 1 p.pps (either_false (ltb 1 p.rounding) (ltb 1 p.pps) x.1.1.1.0).1

  pub flags_high : p.flags ≤ 63
  flags_high = ltb-false 63 p.flags x.1.1.1.1.0

  pub within_bounds_lem : Within p
  within_bounds_lem = record { max = max_high; present = omega (arith, present_high, max_high); flags = flags_high }

-- what the verdict on a profile that passes is
pub passed_number : (p : Profile) → NoneApply (profile_refusals p) → (verdict_of (profile_refusals p)).number ≡ 0
passed_number p x = ap (λ (v : Verdict). v.number) (all_missed verdict success (profile_refusals p) x)
