-- Captive cables (T-05): no current that is built or allowed passes what the cable carries; what the cable in whole 50 mA is; that a cable below 3 A leaves
-- one figure past 3 A, and that one of 3 A or more changes nothing at 5, 9 and 15 V but the upper end of what is allowed past 3 A; and which bytes of a
-- record are a cable. What is said of single currents is said of the definitions that `build` and `check` answer by. Each claim is proved by the
-- theorem of its name in small letters in proofs/Cables.antt (docs/STATEMENT.md, "The builder", "The rule check" and "The listing program"). Words are looked
-- up from 0 on.
-- Assumes nothing.
use Rattle.std.specs.Prelude.{◌≡◌, true, not, List, ◌↔◌, ◌⊎◌, ℕ, ◌+◌, ◌*◌, ◌≤◌, ◌<◌, min, get_or, Option, Some, None}
use Rattle.verdicts.specs.Refusals.{success}
use Rattle.steps.specs.Ranges.{within}
use Rattle.steps.specs.Units.{ma10, ma50}
use Rattle.steps.specs.declared.Ma10.{Ma10}
use Rattle.objects.specs.declared.Object.{Object}
use Rattle.objects.specs.declared.Object.TheVariants.{Fixed, Battery, Variable, Pps, Avs}
use Rattle.lists.specs.declared.Words.{Words}
use Rattle.lists.specs.declared.Listing.{Listing}
use Rattle.rules.specs.declared.Profile.{Profile}
use Rattle.rules.specs.Profiles.{in_10_mA, bad_cable}
use Rattle.rules.specs.Currents.{down_at, up_at, rounded_as, built_current, fixed_allowed, prog_down, cable_in_whole_50_mA, prog_current, prog_allowed}
use Rattle.ports.specs.declared.Row.{Row}
use Rattle.ports.specs.Rows.{port_row}
use Rattle.board.specs.Promises.{SharesAttach, SharesAdvertise}
use Rattle.printed.specs.Records.{profile_at}
use Rattle.demands.specs.CallContracts.{DecodeAnswers, BuildAnswers}

-- ---- "No built current, fixed, AVS or programmable, passes the cable."

-- each current of an object is at most the cable, in milliamperes. Battery and variable objects are never built
abbrev pub CarriedBy : Ma10 → Object → Type 0
CarriedBy cable (Fixed f p v a) = ma10 a ≤ ma10 cable
CarriedBy cable (Battery x m p) = ⊥
CarriedBy cable (Variable x m a) = ⊥
CarriedBy cable (Pps l x m a) = ma50 a ≤ ma10 cable
CarriedBy cable (Avs p l h) = (ma10 l ≤ ma10 cable) × (ma10 h ≤ ma10 cable)

-- and the same of what a word is decoded to
abbrev pub Carried : Ma10 → Option Object → Type 0
Carried cable (Some o) = CarriedBy cable o
Carried cable None = ⊥

-- of every word of a list
abbrev pub EachCarried : Ma10 → Words → Type 0
EachCarried cable l = (k : ℕ) → k < l.count → (d : Option Object) → DecodeAnswers (get_or l.words k 0) d → Carried cable d

abbrev pub BuiltWithinCable : Type 0
BuiltWithinCable = (p : Profile) (b : Listing) → BuildAnswers p b → b.verdict ≡ success → EachCarried p.cable b.list

-- so is every list that a port is given, by the cable that it came with
abbrev pub AttachedWithinCable : Type 0
AttachedWithinCable =
    (ys : List Row) (capacity port cable : ℕ) (r : Listing) (zs : List Row) → SharesAttach ys capacity port cable r zs
    → r.verdict ≡ success → EachCarried (in_10_mA cable) r.list

abbrev pub AdvertisedWithinCable : Type 0
AdvertisedWithinCable =
    (ys : List Row) (capacity port : ℕ) (r : Listing) (zs : List Row) → SharesAdvertise ys capacity port r zs
    → r.verdict ≡ success → EachCarried (port_row ys port).cable r.list

-- ---- "So no allowed current passes the cable either": a is a current in 10 mA, of PPS in 50 mA. Those of AVS are fixed ones (17)

abbrev pub AllowedWithinCable : Type 0
AllowedWithinCable = (p : Profile) (volts a : ℕ) → fixed_allowed p volts a ≡ true → a * 10 ≤ ma10 p.cable

abbrev pub ProgAllowedWithinCable : Type 0
ProgAllowedWithinCable = (p : Profile) (volts a : ℕ) → prog_allowed p volts a ≡ true → a * 50 ≤ ma10 p.cable

-- ---- "the greatest figure of 50 mA that is not above the cable"

abbrev pub GreatestIn50mA : Type 0
GreatestIn50mA = (p : Profile) (n : ℕ) → (n ≤ cable_in_whole_50_mA p) ↔ (n * 50 ≤ ma10 p.cable)

-- ---- "With a cable below 3 A, the first row leaves one figure, the cable."

abbrev pub OneFigureBelow3A : Type 0
OneFigureBelow3A =
    (p : Profile) (volts a : ℕ) → p.cable.0 < 300 → (volts ≡ 20 → ⊥) → 0 < volts → 6 * volts < p.present.0
    → (fixed_allowed p volts a ≡ true) ↔ (a ≡ p.cable.0)

-- ---- "With a cable of 3 A or more": 5, 9 and 15 V, which are the voltages of a list that are not 20; a is a current in 10 mA

-- "what is built is the quotient rounded as R says and at most 3 A"
abbrev pub BuiltFrom3A : Type 0
BuiltFrom3A =
    (p : Profile) (volts : ℕ) → 300 ≤ p.cable.0 → (volts ≡ 20 → ⊥)
    → built_current p volts ≡ min (rounded_as p.rounding (down_at p volts) (up_at p volts)) 300

-- "allowed is, where P is above six times the volts, from 3 A up to the smaller of the cable and the quotient rounded up"
abbrev pub AllowedFrom3A : Type 0
AllowedFrom3A =
    (p : Profile) (volts a : ℕ) → 300 ≤ p.cable.0 → (volts ≡ 20 → ⊥) → 6 * volts < p.present.0
    → (fixed_allowed p volts a ≡ true) ↔ ((300 ≤ a) × (a ≤ min p.cable.0 (up_at p volts)))

-- "and otherwise the quotient rounded down, or rounded up"
abbrev pub AllowedUncut : Type 0
AllowedUncut =
    (p : Profile) (volts a : ℕ) → 300 ≤ p.cable.0 → (volts ≡ 20 → ⊥) → 0 < volts → p.present.0 ≤ 6 * volts
    → (fixed_allowed p volts a ≡ true) ↔ ((a ≡ down_at p volts) ⊎ (a ≡ up_at p volts))

-- 9 V Prog and 15 V Prog, in 50 mA: the figure of the table, rounded down, and at most 3 A
abbrev pub ProgFrom3A : Type 0
ProgFrom3A = (p : Profile) (volts : ℕ) → 300 ≤ p.cable.0 → (volts ≡ 20 → ⊥) → prog_current p volts ≡ min (prog_down p volts) 60

-- ---- "10 to 50 stand for 1 A to 5 A": the cable of a record is out of range exactly where its byte is. That it is refused with 3, in its turn, is
-- `BuildRefusals` (Refusals)

abbrev pub CableByte : Type 0
CableByte = (s : List ℕ) (at : ℕ) → bad_cable (profile_at s at).cable.0 ≡ not (within 10 50 (get_or s (at + 4) 0))
