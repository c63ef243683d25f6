-- What each public call of this crate promises of its answer (STATEMENT, "Power rules"). The contracts cite these names, and so do the
-- theorems over them.
-- Assumes nothing.
use Rattle.std.specs.Prelude.{◌≡◌, Bool, ℕ, Option}
use Rattle.verdicts.specs.declared.Verdict.{Verdict}
use Rattle.steps.specs.declared.HalfWatts.{HalfWatts}
use Rattle.steps.specs.declared.Ma10.{Ma10}
use Rattle.lists.specs.declared.Words.{Words}
use Rattle.lists.specs.declared.Listing.{Listing}
use Rattle.rules.specs.declared.Profile.{Profile}
use Rattle.rules.specs.declared.Profiled.{Profiled}
use Rattle.rules.specs.Profiles.{bad_cable, default_of}
use Rattle.rules.specs.Building.{built_of}
use Rattle.rules.specs.Placing.{placed_says, place_says}
use Rattle.rules.specs.Checking.{checked_of}

abbrev pub TellsBadCable : Ma10 → Bool → Type 0
TellsBadCable cable r = r ≡ bad_cable cable.0

abbrev pub Defaults : HalfWatts → Profiled → Type 0
Defaults m r = r ≡ default_of m

abbrev pub Builds : Profile → Listing → Type 0
Builds p r = r ≡ built_of p

abbrev pub PlacesWord : Profile → ℕ → Option ℕ → Type 0
PlacesWord p place r = placed_says r ≡ place_says (built_of p).list place

abbrev pub Checks : Profile → Words → Verdict → Type 0
Checks p l r = r ≡ checked_of p l
