-- The verdict of the default profile, and what a refusal gives.
-- Assumes nothing.
use mathlib.Core.Path.{◌≡◌, refl, ap, ◌∙◌}
use Rattle.verdicts.specs.Refusals.{success, verdict_of}
use Rattle.verdicts.proofs.First.{onto, refused_so, passes}
use Rattle.steps.specs.declared.HalfWatts.{HalfWatts}
use Rattle.rules.specs.declared.Profiled.{Profiled}
use Rattle.rules.specs.Profiles.{defaults, no_profile, profile_refused, default_refusals, default_of}

abbrev default_as : HalfWatts → Profiled
default_as m = record { verdict = success; profile = defaults m }

module _ (m : HalfWatts) where
  pub default_verdict : (default_of m).verdict ≡ verdict_of (default_refusals m)
  unfolding default_of
  default_verdict = onto (λ (r : Profiled). r.verdict) profile_refused (default_refusals m) (default_as m)

  pub default_empty : ((default_of m).verdict ≡ success → ⊥) → (default_of m).profile ≡ no_profile
  unfolding default_of
  default_empty f =
      ap (λ (r : Profiled). r.profile)
      (refused_so profile_refused (default_refusals m) (λ z. f (default_verdict ∙ passes (default_refusals m) refl z)) (default_as m))
