-- The profile of a port (STATEMENT, "The profile" and "Refusal numbers").
-- Assumes nothing.
use Rattle.std.specs.Prelude.{Bool, not, ◌&&◌, ◌||◌, List, [], ◌∷◌, ◌++◌, ℕ, ◌≤◌, ltb, eqb}
use Rattle.verdicts.specs.Refusals.{Refusal, refusal, first_of, verdict, success}
use Rattle.steps.specs.Ranges.{within}
use Rattle.steps.specs.declared.HalfWatts.{HalfWatts}
use Rattle.steps.specs.declared.Ma10.{Ma10}
use Rattle.rules.specs.declared.Profile.{Profile}
use Rattle.rules.specs.declared.Profiled.{Profiled}

-- R: "0 down, 1 up"
abbrev pub round_down : ℕ
round_down = 0

abbrev pub round_up : ℕ
round_up = 1

-- 3: "cable outside 100 to 500"
abbrev pub bad_cable : ℕ → Bool
bad_cable cable = not (within 100 500 cable)

-- 1 to 5, in order: M, P, cable, rounding, PPS wanted, F
abbrev pub profile_rows : ℕ → ℕ → ℕ → ℕ → ℕ → ℕ → List Refusal
profile_rows m p cable rounding pps flags =
    refusal (not (within 1 200 m)) 1 0
    ∷ refusal (not (within 1 m p)) 2 0
    ∷ refusal (bad_cable cable) 3 0
    ∷ refusal (ltb 1 rounding || ltb 1 pps) 4 0
    ∷ refusal (ltb 63 flags) 5 0
    ∷ []

abbrev pub profile_refusals : Profile → List Refusal
profile_refusals p = profile_rows p.max.0 p.present.0 p.cable.0 p.rounding p.pps p.flags

-- 6: "PPS wanted while P is below M; the builder alone"
abbrev pub pps_below_maximum : Profile → Bool
pps_below_maximum p = eqb p.pps 1 && ltb p.present.0 p.max.0

abbrev pub build_refusals : Profile → List Refusal
build_refusals p = profile_refusals p ++ (refusal (pps_below_maximum p) 6 0 ∷ [])

-- what the private functions use of a profile that passes
pub record Within (p : Profile) : Type 0 where
  pub max : p.max.0 ≤ 200
  pub present : p.present.0 ≤ 200
  pub flags : p.flags ≤ 63

-- ---- the default profile

abbrev pub half_watts : ℕ → HalfWatts
half_watts n = record { 0 = n }

abbrev pub in_10_mA : ℕ → Ma10
in_10_mA n = record { 0 = n }

-- "P equal to M, a 3 A cable, rounding down, no PPS and no flags"
abbrev pub defaults : HalfWatts → Profile
defaults m = record { max = m; present = m; cable = in_10_mA 300; rounding = 0; pps = 0; flags = 0 }

abbrev pub no_profile : Profile
no_profile = record { max = half_watts 0; present = half_watts 0; cable = in_10_mA 0; rounding = 0; pps = 0; flags = 0 }

abbrev pub profile_refused : ℕ → ℕ → Profiled
profile_refused n p = record { verdict = verdict n p; profile = no_profile }

abbrev pub default_refusals : HalfWatts → List Refusal
default_refusals m = refusal (not (within 1 200 m.0)) 1 0 ∷ []

unfoldable pub default_of : HalfWatts → Profiled
default_of m = first_of profile_refused (default_refusals m) (record { verdict = success; profile = defaults m })
