-- `rules::profiles::PortTryFromProfile::try_from` meets its contract: none of the refusals applies, and what that says of the profile.
-- Assumes nothing.
use mathlib.Core.Path.{sym, ◌∙◌}
use Rattle.verdicts.proofs.Results.{none_applied}
use Rattle.rules.specs.Profiles.{profile_refusals}
use Rattle.rules.proofs.ProfileCases.{passed_number, within_bounds_lem}
use Rattle.rules.proofs.profiles.PortTryFromProfile.try_from.Goals as goal

pub invariant_of-result : goal.invariant_of-result
invariant_of-result c =
    let p = c.args.p in
    let clear = none_applied tt (profile_refusals p) (sym c.judge_profile.ensures ∙ c.in_ok-judge_profile.was) in
    record { passed = passed_number p clear; within = within_bounds_lem p clear }
