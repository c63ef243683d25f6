-- Demand 2, the power rules: every list that is built for a profile passes the rule check for that profile, and reads and writes back to
-- itself. Of each current it is said plainly when the rule check allows it, over the tests that its contract cites. Each claim is proved by the
-- theorem of its name in small letters (`built_passes` is `BuiltPasses`) in proofs/PowerRules.antt (docs/STATEMENT.md, "Power rules").
-- Assumes nothing.
use Rattle.std.specs.Prelude.{◌≡◌, true, ◌↔◌, ◌⊎◌, ℕ, ◌*◌, ◌≤◌, ◌<◌, min}
use Rattle.verdicts.specs.declared.Verdict.{Verdict}
use Rattle.verdicts.specs.Refusals.{success}
use Rattle.lists.specs.declared.Reading.{Reading}
use Rattle.lists.specs.declared.Listing.{Listing}
use Rattle.rules.specs.declared.Profile.{Profile}
use Rattle.rules.specs.Currents.{down_at, up_at, fixed_allowed, prog_down, cable_in_whole_50_mA, prog_current, may_exceed, prog_allowed}
use Rattle.demands.specs.CallContracts.{ReadAnswers, WriteAnswers, BuildAnswers, CheckAnswers}

-- ---- what is built

-- every list built for a profile passes the rule check for that profile
abbrev pub BuiltPasses : Type 0
BuiltPasses =
    (p : Profile) (b : Listing) → BuildAnswers p b → b.verdict ≡ success → (v : Verdict) → CheckAnswers p b.list v → v ≡ success

-- and reads, and writes back to the same list
abbrev pub BuiltReturns : Type 0
BuiltReturns =
    (p : Profile) (b : Listing) → BuildAnswers p b → b.verdict ≡ success
    → (r : Reading) → ReadAnswers b.list r → (w : Listing) → WriteAnswers r.list w → (r.verdict ≡ success) × (w ≡ b)

-- ---- which currents are allowed, exactly when: a is a current in 10 mA, for PPS in 50 mA; `down_at` and `up_at` are the quotient 50 P / V rounded

-- 20 V: the quotient rounded down or up, and no more than the cable carries
abbrev pub AllowedAt20V : Type 0
AllowedAt20V =
    (p : Profile) (volts a : ℕ) → volts ≡ 20
    → (fixed_allowed p volts a ≡ true) ↔ ((a ≡ min (down_at p volts) p.cable.0) ⊎ (a ≡ min (up_at p volts) p.cable.0))

-- 5, 9 and 15 V where the quotient is above 3 A, that is with P more than 6 times the volts: anything from the smaller of 3 A and the cable up to
-- the quotient rounded up, as far as the cable carries it
abbrev pub AllowedPast3A : Type 0
AllowedPast3A =
    (p : Profile) (volts a : ℕ) → (volts ≡ 20 → ⊥) → 6 * volts < p.present.0
    → (fixed_allowed p volts a ≡ true) ↔ ((min 300 p.cable.0 ≤ a) × (a ≤ min p.cable.0 (up_at p volts)))

-- the same voltages where it is not: the quotient rounded down or up, and no more than the cable carries
abbrev pub AllowedTo3A : Type 0
AllowedTo3A =
    (p : Profile) (volts a : ℕ) → (volts ≡ 20 → ⊥) → p.present.0 ≤ 6 * volts
    → (fixed_allowed p volts a ≡ true) ↔ ((a ≡ min (down_at p volts) p.cable.0) ⊎ (a ≡ min (up_at p volts) p.cable.0))

-- PPS: the current that is built; or, in the two ranges of M that `may_exceed` has, anything from there up to the quotient rounded down, as far as
-- the cable carries it in whole 50 mA
abbrev pub ProgAllowedExactly : Type 0
ProgAllowedExactly =
    (p : Profile) (volts a : ℕ)
    → (prog_allowed p volts a ≡ true)
    ↔ ((a ≡ prog_current p volts) ⊎ ((may_exceed p.max.0 volts ≡ true) × ((prog_current p volts ≤ a) × (a ≤ min (prog_down p volts) (cable_in_whole_50_mA p)))))
