-- What the two roundings mean for the rating (T-07): with down no fixed or AVS current that is built is above what P gives at its voltage, with up it
-- is less than one step above; programmable supplies are the same with either. The list of a shared port is the one that is built with down. Each
-- claim is proved by the theorem of its name in small letters in proofs/Ratings.antt (docs/STATEMENT.md, "The profile", "The builder" and "Rows").
-- Assumes nothing.
use Rattle.std.specs.Prelude.{◌≡◌, cond, ◌&&◌, List, ℕ, ◌+◌, ◌*◌, ◌≤◌, ◌<◌, eqb, get_or, Some}
use Rattle.verdicts.specs.declared.Verdict.{Verdict}
use Rattle.verdicts.specs.Refusals.{success}
use Rattle.steps.specs.Units.{mv50, ma10, mw500}
use Rattle.steps.specs.declared.HalfWatts.{HalfWatts}
use Rattle.steps.specs.declared.Mv100.{Mv100}
use Rattle.steps.specs.declared.Ma10.{Ma10}
use Rattle.steps.specs.declared.Ma50.{Ma50}
use Rattle.objects.specs.declared.Object.{Object}
use Rattle.objects.specs.declared.Object.TheVariants.{Fixed, Battery, Variable, Pps, Avs}
use Rattle.lists.specs.declared.Listing.{Listing}
use Rattle.rules.specs.declared.Profile.{Profile}
use Rattle.rules.specs.declared.Profiled.{Profiled}
use Rattle.rules.specs.Profiles.{round_down}
use Rattle.rules.specs.Building.{built_of}
use Rattle.ports.specs.declared.Row.{Row}
use Rattle.ports.specs.Rows.{port_row}
use Rattle.ports.specs.RuleLists.{rule_profile}
use Rattle.ports.specs.Requests.{power_of}
use Rattle.board.specs.Promises.{SharesAttach, SharesAdvertise}
use Rattle.demands.specs.CallContracts.{DecodeAnswers, DefaultAnswers, BuildAnswers, AnswerAnswers}
use Rattle.demands.specs.EachObject.{EachObject}

-- ---- a current at a voltage, against the exact quotient of P by that voltage

-- A current is not above the quotient exactly where voltage times current is not above P: nothing is divided, so nothing is rounded. Millivolts times
-- milliamperes are microwatts
abbrev pub NotAbove : HalfWatts → ℕ → Ma10 → Type 0
NotAbove p mv a = mv * ma10 a ≤ mw500 p * 1000

-- less than one step of 10 mA above it: by less than the voltage times 10 mA
abbrev pub LessThanAStepAbove : HalfWatts → ℕ → Ma10 → Type 0
LessThanAStepAbove p mv a = mv * ma10 a < mw500 p * 1000 + mv * 10

-- of an object that is built: the voltage of a fixed object times its current, 15 V times the first AVS current and 20 V times the second. Of a
-- programmable supply nothing is said here, and battery and variable objects are never built
abbrev pub AtCurrents : (ℕ → Ma10 → Type 0) → Object → Type 0
AtCurrents Q (Fixed f p v a) = Q (mv50 v) a
AtCurrents Q (Battery x m p) = ⊥
AtCurrents Q (Variable x m a) = ⊥
AtCurrents Q (Pps l x m a) = Unit {0}
AtCurrents Q (Avs p l h) = Q 15000 l × Q 20000 h

-- ---- With rounding down a built fixed current is never above the quotient, R 0

abbrev pub BuiltDown : Type 0
BuiltDown =
    (p : Profile) (b : Listing) → BuildAnswers p b → b.verdict ≡ success → p.rounding ≡ 0
    → EachObject (AtCurrents (NotAbove p.present)) b.list

-- ---- with rounding up it is less than one step of 10 mA above it, R 1; and so it is with either

abbrev pub BuiltUp : Type 0
BuiltUp =
    (p : Profile) (b : Listing) → BuildAnswers p b → b.verdict ≡ success
    → EachObject (AtCurrents (LessThanAStepAbove p.present)) b.list

-- so no request that is accepted on a list built with down takes more than P; one for PPS counts as at most P, whose power limited bit is set
abbrev pub AcceptedDown : Type 0
AcceptedDown =
    (p : Profile) (b : Listing) → BuildAnswers p b → b.verdict ≡ success → p.rounding ≡ 0
    → (w : ℕ) (v : Verdict) → AnswerAnswers b.list w v → v ≡ success → power_of b.list p.present.0 w ≤ p.present.0

-- ---- asking for down by name: R down, and all else as it is

abbrev pub asked_for_down : Profile → Profile
asked_for_down p =
    record { max = p.max; present = p.present; cable = p.cable; rounding = round_down; pps = p.pps; flags = p.flags }

-- ---- The programmable supplies of a list are the same with either rounding.

abbrev pub PpsEitherWay : Type 0
PpsEitherWay =
    (p : Profile) (b c : Listing) → BuildAnswers p b → b.verdict ≡ success → BuildAnswers (asked_for_down p) c → c.verdict ≡ success
    → (k : ℕ) → k < b.list.count → (limited : ℕ) (x m : Mv100) (a : Ma50)
    → DecodeAnswers (get_or b.list.words k 0) (Some (Pps limited x m a)) → get_or c.list.words k 0 ≡ get_or b.list.words k 0

-- ---- the default profile

-- A caller that must not pass the rating asks for down by name: the default profile with R down, and all else as it is.
abbrev pub DefaultDown : Type 0
DefaultDown =
    (m : HalfWatts) (d : Profiled) → DefaultAnswers m d → d.verdict ≡ success
    → (b : Listing) → BuildAnswers (asked_for_down d.profile) b → (b.verdict ≡ success) × EachObject (AtCurrents (NotAbove m)) b.list

-- ---- shared ports

-- what the list of a row is built for, figure by figure; 0 is down
abbrev pub shared_profile : Row → Profile
shared_profile y = record {
  max = y.max;
  present = y.present;
  cable = y.cable;
  rounding = 0;
  pps = cond (eqb y.pps 1 && eqb y.present.0 y.max.0) 1 0;
  flags = 0;
}

-- every rule list is built so. What a request is judged on, and demand 3, go by the rule list
abbrev pub RuleListDown : Type 0
RuleListDown = (y : Row) → built_of (rule_profile y) ≡ built_of (shared_profile y)

-- and so is each list that a port is given, for the row that the call leaves
abbrev pub AttachedDown : Type 0
AttachedDown =
    (ys : List Row) (capacity port cable : ℕ) (r : Listing) (zs : List Row) → SharesAttach ys capacity port cable r zs
    → r.verdict ≡ success → r ≡ built_of (shared_profile (port_row zs port))

abbrev pub AdvertisedDown : Type 0
AdvertisedDown =
    (ys : List Row) (capacity port : ℕ) (r : Listing) (zs : List Row) → SharesAdvertise ys capacity port r zs
    → r.verdict ≡ success → r ≡ built_of (shared_profile (port_row zs port))

-- no fixed object of it has a voltage times current above P
abbrev pub AttachedWithinP : Type 0
AttachedWithinP =
    (ys : List Row) (capacity port cable : ℕ) (r : Listing) (zs : List Row) → SharesAttach ys capacity port cable r zs
    → r.verdict ≡ success → EachObject (AtCurrents (NotAbove (port_row zs port).present)) r.list

abbrev pub AdvertisedWithinP : Type 0
AdvertisedWithinP =
    (ys : List Row) (capacity port : ℕ) (r : Listing) (zs : List Row) → SharesAdvertise ys capacity port r zs
    → r.verdict ≡ success → EachObject (AtCurrents (NotAbove (port_row zs port).present)) r.list
