-- Proves the claims of specs/Ratings.antt.
-- Assumes nothing.
use Rattle.std.specs.Prelude.{Some}
use mathlib.Core.Path.{◌≡◌, refl, sym, ap, ◌∙◌, subst}
use mathlib.Core.Bool.{Bool, true, false, cond, true≢false, and-eq-true_iff}
use Prim.Native.Nat.{ℕ, zero, suc, ◌+◌, ◌*◌, ◌≤◌, ◌<◌}
use native.Mathlib.Nat.{min-le_left, mul-le-mul_right, mul_assoc, mul_comm}
use native.Mathlib.Omega.{arith}
use lib.Dec.{leb, eqb}
use lib.ListN.{get_or}
use borrow.Author.Tests.{leb-true}
use Rattle.verdicts.specs.Refusals.{success, NoneApply}
use Rattle.verdicts.proofs.First.{all_missed}
use Rattle.steps.specs.declared.HalfWatts.{HalfWatts}
use Rattle.steps.specs.declared.Mv100.{Mv100}
use Rattle.steps.specs.declared.Ma50.{Ma50}
use Rattle.steps.proofs.RangeLaws.{inside, at_least}
use Rattle.steps.proofs.RoundingLaws.{down_le_up, up_under}
use Rattle.steps.proofs.StepTests.{product}
use Rattle.objects.specs.declared.Object.TheVariants as object
use Rattle.objects.proofs.Saying.{decoded_is}
use Rattle.lists.specs.declared.Words.{Words}
use Rattle.lists.specs.declared.Listing.{Listing}
use Rattle.lists.proofs.Sevens.{filled_at}
use Rattle.rules.specs.declared.Profile.{Profile}
use Rattle.rules.specs.declared.Profiled.{Profiled}
use Rattle.rules.specs.Profiles.{defaults, profile_refused, default_refusals, default_of, build_refusals}
use Rattle.rules.specs.Tables.{Slot, Nothing, Fixed, Avs, Prog, slots}
use Rattle.rules.specs.Currents.{down_at, up_at, rounded_as, limit_at, built_current, prog_current}
use Rattle.rules.specs.Building.{object_for, slot_word, word_for, built_count, built_of}
use Rattle.rules.proofs.Slots.{slot_good}
use Rattle.rules.proofs.BuiltPasses.{known, built_counts}
use Rattle.requests.specs.Answering.{answer_of}
use Rattle.ports.specs.declared.Row.{Row}
use Rattle.ports.specs.Rows.{port_row}
use Rattle.ports.specs.RuleLists.{rule_pps, rule_profile}
use Rattle.ports.specs.Requests.{power_of}
use Rattle.demands.specs.CallContracts.{DecodeAnswers, DefaultAnswers, BuildAnswers}
use Rattle.demands.specs.EachObject.{EachObject}
use Rattle.demands.specs.Ratings.{
  NotAbove,
  LessThanAStepAbove,
  AtCurrents,
  BuiltDown,
  BuiltUp,
  AcceptedDown,
  asked_for_down,
  PpsEitherWay,
  DefaultDown,
  shared_profile,
  RuleListDown,
  AttachedDown,
  AdvertisedDown,
  AttachedWithinP,
  AdvertisedWithinP,
}
use Rattle.demands.proofs.Refusals.{default_refusals_lem, build_refusals_lem}
use Rattle.demands.proofs.PowerRules.{built_clear, built_list}
use Rattle.demands.proofs.EachObject.{built_each, attached_built, advertised_built}
use Rattle.demands.proofs.AcceptedPower.{current_within, second_within, built_power}

-- a fixed object has its volts in 50 mV and its current in 10 mA
in_microwatts : (volts c : ℕ) → volts * 20 * 50 * (c * 10) ≡ c * volts * 10000
in_microwatts volts c =
    ap (λ (n : ℕ). n * (c * 10)) (mul_assoc volts 20 50) ∙ product volts c 1000 10 ∙ ap (λ (n : ℕ). n * 10000) (mul_comm volts c)

-- ---- rounded down

object_down : (p : Profile) → p.rounding ≡ 0 → (first : Bool) (s : Slot) → slot_good s ≡ true
    → AtCurrents (NotAbove p.present) (object_for p first s)
unfolding object_for
object_down p down first Nothing g = absurd (true≢false (sym g))
object_down p down first (Fixed volts) g = rw (in_microwatts volts (built_current p volts)) (omega (arith, current_within p down volts))
object_down p down first (Avs past15V) g = (omega (arith, current_within p down 15), omega (arith, second_within p down past15V))
object_down p down first (Prog volts top) g = tt

pub built_down : BuiltDown
built_down p b e s down = built_each (AtCurrents (NotAbove p.present)) p (object_down p down) b e s

pub accepted_down : AcceptedDown
accepted_down p b e s down w v f t =
    let l = built_list p b e s in
    subst (λ (x : Words). power_of x p.present.0 w ≤ p.present.0) (sym l)
    (built_power p down (built_clear p b e s) w (sym (ap (λ (x : Words). answer_of x w) l) ∙ sym f ∙ t))

-- ---- rounded up, or down

module _ (p : Profile) where
  -- whichever way it is rounded, and whatever cuts it, a current is at most the quotient rounded up
  current_next : (volts : ℕ) → 0 < volts → built_current p volts * volts < 50 * p.present.0 + volts
  unfolding built_current
  current_next volts pos =
      omega (arith, mul-le-mul_right volts at_most_up, up_under (50 * p.present.0) volts pos) where
        rounded : (r : ℕ) → rounded_as r (down_at p volts) (up_at p volts) ≤ up_at p volts
        rounded zero = down_le_up (50 * p.present.0) volts
        rounded (suc r) = omega arith

        at_most_up : built_current p volts ≤ up_at p volts
        at_most_up = omega (arith, rounded p.rounding, min-le_left (rounded_as p.rounding (down_at p volts) (up_at p volts)) (limit_at p volts))

  second_next : (past15V : Bool) → cond past15V (built_current p 20) 0 * 20 < 50 * p.present.0 + 20
  second_next true = current_next 20 (omega arith)
  second_next false = omega arith

  object_up : (first : Bool) (s : Slot) → slot_good s ≡ true → AtCurrents (LessThanAStepAbove p.present) (object_for p first s)
  unfolding object_for
  object_up first Nothing g = absurd (true≢false (sym g))
  object_up first (Fixed volts) g =
      let pos : 1 ≤ volts = leb-true 1 volts ((and-eq-true_iff (leb 1 volts) (leb volts 20)).0 g).0 in
      rw (in_microwatts volts (built_current p volts)) (omega (arith, current_next volts pos))
  object_up first (Avs past15V) g = (omega (arith, current_next 15 (omega arith)), omega (arith, second_next past15V))
  object_up first (Prog volts top) g = tt

pub built_up : BuiltUp
built_up p = built_each (AtCurrents (LessThanAStepAbove p.present)) p (object_up p)

-- ---- programmable supplies

module _ (p : Profile) (limited : ℕ) (x m : Mv100) (a : Ma50) where
  same_supply : (first : Bool) (s : Slot) → Some (object.Pps limited x m a) ≡ Some (object_for p first s)
      → slot_word (asked_for_down p) first s ≡ slot_word p first s
  unfolding object_for prog_current
  same_supply first Nothing e = let z : Some (object.Pps limited x m a) ≡ Some (object.Fixed _ _ _ _) = e in cc
  same_supply first (Fixed volts) e = let z : Some (object.Pps limited x m a) ≡ Some (object.Fixed _ _ _ _) = e in cc
  same_supply first (Avs past15V) e = let z : Some (object.Pps limited x m a) ≡ Some (object.Avs _ _ _) = e in cc
  same_supply first (Prog volts top) e = refl

word_built : (p : Profile) (b : Listing) (e : BuildAnswers p b) (s : b.verdict ≡ success) (k : ℕ) → k < built_count p
    → get_or b.list.words k 0 ≡ word_for p k
word_built p b e s k h =
    ap (λ (l : Words). get_or l.words k 0) (built_list p b e s) ∙ filled_at (word_for p) 0 (built_count p) k (built_counts p (built_clear p b e s)) h

pub pps_either_way : PpsEitherWay
pps_either_way p b c e s f t k h limited x m a d =
    let l = built_list p b e s in
    let within : k < built_count p = subst (λ (y : Words). k < y.count) l h in
    let names = decoded_is _ _ (subst (λ (y : Words). DecodeAnswers (get_or y.words k 0) (Some (object.Pps limited x m a))) l d)
    ∙ known p (built_clear p b e s) k within in
    word_built (asked_for_down p) c f t k within
    ∙ same_supply p limited x m a (eqb k 0) (get_or (slots p.max.0) k Nothing) names ∙ sym (word_built p b e s k within)

-- ---- the default profile

module _ (m : HalfWatts) (d : Profiled) (e : DefaultAnswers m d) (s : d.verdict ≡ success) where
  clear : NoneApply (default_refusals m)
  clear = (default_refusals_lem m d e).0.0.0 s

  default_is : d ≡ record { verdict = success; profile = defaults m }
  unfolding default_of
  default_is = e ∙ all_missed profile_refused _ (default_refusals m) clear

  down_passes : NoneApply (build_refusals (asked_for_down (defaults m)))
  down_passes =
      let low = at_least 1 200 m.0 clear.0 in
      (clear.0, (inside 1 m.0 m.0 low (omega arith), (refl, (refl, (refl, (refl, tt))))))

pub default_down : DefaultDown
default_down m d e s b f = (given, subst (λ (q : HalfWatts). EachObject (AtCurrents (NotAbove q)) b.list) P_is_M each) where
  is : d ≡ record { verdict = success; profile = defaults m }
  is = default_is m d e s

  given : b.verdict ≡ success
  given =
      (build_refusals_lem (asked_for_down d.profile) b f).0.0.1
      (subst (λ (x : Profiled). NoneApply (build_refusals (asked_for_down x.profile))) (sym is) (down_passes m d e s))

  P_is_M : d.profile.present ≡ m
  P_is_M = ap (λ (x : Profiled). x.profile.present) is

  each : EachObject (AtCurrents (NotAbove d.profile.present)) b.list
  each = built_down (asked_for_down d.profile) b f given refl

-- ---- shared ports

rule_profile_is : (y : Row) → rule_profile y ≡ shared_profile y
unfolding rule_profile rule_pps
rule_profile_is y = refl

pub rule_list_down : RuleListDown
rule_list_down y = ap built_of (rule_profile_is y)

pub attached_down : AttachedDown
attached_down ys capacity port cable r zs e s = attached_built ys capacity port r zs cable e s ∙ rule_list_down (port_row zs port)

pub advertised_down : AdvertisedDown
advertised_down ys capacity port r zs e s = advertised_built ys capacity port r zs e s ∙ rule_list_down (port_row zs port)

pub attached_within_P : AttachedWithinP
attached_within_P ys capacity port cable r zs e s = built_down (shared_profile (port_row zs port)) r (attached_down ys capacity port cable r zs e s) s refl

pub advertised_within_P : AdvertisedWithinP
advertised_within_P ys capacity port r zs e s = built_down (shared_profile (port_row zs port)) r (advertised_down ys capacity port r zs e s) s refl
