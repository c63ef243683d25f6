-- Proves the claims of specs/RuleLists.antt on the power of a request: a built current is the quotient of P rounded down, so voltage times
-- current never passes P; a PPS request is cut to P.
-- Assumes nothing.
use Rattle.std.specs.Prelude.{Option}
use mathlib.Core.Path.{◌≡◌, refl, sym, ap, ◌∙◌, subst}
use mathlib.Core.Bool.{Bool, true, false, cond, and-eq-true_iff}
use Prim.Native.Nat.{ℕ, ◌-◌, ◌*◌, ◌≤◌, ◌<◌}
use native.Mathlib.Nat.{min-le_left, le-max_left, max-le, mul-le-mul, mul-le-mul_right, mul_comm, le_trans}
use native.Mathlib.Omega.{arith}
use lib.Dec.{leb, ltb, eqb}
use lib.ListN.{get_or}
use borrow.Author.Tests.{leb-true, leb-false, ltb-true, ltb-false}
use Rattle.verdicts.specs.Refusals.{success, NoneApply}
use Rattle.steps.specs.Rounding.{up_of}
use Rattle.steps.specs.declared.Ma10.{Ma10}
use Rattle.steps.proofs.RoundingLaws.{down_under, up_least}
use Rattle.steps.proofs.StepTests.{product}
use Rattle.objects.specs.declared.Object.{Object}
use Rattle.lists.specs.declared.Words.{Words}
use Rattle.lists.specs.Reading.{object_of}
use Rattle.rules.specs.declared.Profile.{Profile}
use Rattle.rules.specs.Profiles.{build_refusals}
use Rattle.rules.specs.Tables.{Slot, Nothing, Fixed, Avs, Prog, slots}
use Rattle.rules.specs.Currents.{down_at, up_at, rounded_as, limit_at, built_current}
use Rattle.rules.specs.Building.{object_for, built_words}
use Rattle.requests.specs.Taking.{position_of, request_of}
use Rattle.requests.specs.Limits.{volts_of, operating_of, advertised_at, in_range, avs_top, avs_limit}
use Rattle.requests.specs.Answering.{answer_of}
use Rattle.requests.proofs.Accepted.{accepted}
use Rattle.requests.proofs.AvsLimits.{limit_below, limit_above, limit_at_lem}
use Rattle.ports.specs.RuleLists.{rule_profile, rule_list}
use Rattle.ports.specs.Requests.{half_watts_for, cut_for, power_in, power_of, held_for}
use Rattle.rules.proofs.Slots.{slot_good}
use Rattle.rules.proofs.BuiltPasses.{good, known}
use Rattle.ports.proofs.RuleLists.{rule_list_is, rule_profile_passes}
use Rattle.demands.specs.RuleLists.{HeldFrom15, AcceptedPower, HeldToP}

-- ---- voltage times current

-- 1 V is 1000 mV, a step of current 10 mA, and 50 steps at 1 V are a half watt
microwatts : (volts c q : ℕ) → c * volts ≤ 50 * q → volts * 1000 * (c * 10) ≤ q * 500000
microwatts volts c q h =
    let e : volts * 1000 * (c * 10) ≡ c * volts * 10000 = product volts c 1000 10 ∙ ap (λ (n : ℕ). n * 10000) (mul_comm volts c) in
    rw e (le_trans (mul-le-mul_right 10000 h) (omega arith))

-- a voltage of at most so many volts and a current of at most the built one
within_P : (mv ma volts c q : ℕ) → mv ≤ volts * 1000 → ma ≤ c * 10 → c * volts ≤ 50 * q → up_of (mv * ma) 500000 ≤ q
within_P mv ma volts c q v a h = up_least (mv * ma) 500000 q (omega arith) (le_trans (mul-le-mul v a) (microwatts volts c q h))

-- ---- AVS

top_to_20_V : (high : Ma10) → avs_top high ≤ 20000
unfolding avs_top
top_to_20_V high = go (eqb high.0 0) where
  go : (b : Bool) → cond b 15000 20000 ≤ 20000
  go true = omega arith
  go false = omega arith

-- whichever of the two currents limits, it does so within its own voltage
avs_power : (mv ma first second q : ℕ) → mv ≤ 20000 → ma ≤ avs_limit mv (first * 10) (second * 10)
    → first * 15 ≤ 50 * q → second * 20 ≤ 50 * q → up_of (mv * ma) 500000 ≤ q
avs_power mv ma first second q to a f s = go (ltb mv 15000) refl (ltb 15000 mv) refl (leb second first) refl where
  go : (b : Bool) → ltb mv 15000 ≡ b → (c : Bool) → ltb 15000 mv ≡ c → (d : Bool) → leb second first ≡ d → up_of (mv * ma) 500000 ≤ q
  go true eb c ec d ed =
      let h = ltb-true mv 15000 eb in
      within_P mv ma 15 first q (omega arith) (omega (arith, limit_below mv (first * 10) (second * 10) h)) f
  go false eb true ec d ed =
      let h = ltb-true 15000 mv ec in
      within_P mv ma 20 second q (omega arith) (omega (arith, limit_above mv (first * 10) (second * 10) h)) s
  go false eb false ec true ed =
      let l = leb-true second first ed in
      let e : mv ≡ 15000 = omega (arith, ltb-false mv 15000 eb, ltb-false 15000 mv ec) in
      within_P mv ma 15 first q (omega arith) (omega (arith, limit_at_lem mv (first * 10) (second * 10) e)) f
  go false eb false ec false ed =
      let l = leb-false second first ed in
      let e : mv ≡ 15000 = omega (arith, ltb-false mv 15000 eb, ltb-false 15000 mv ec) in
      within_P mv ma 20 second q (omega arith) (omega (arith, limit_at_lem mv (first * 10) (second * 10) e)) s

-- ---- a list that is built, rounded down

module _ (p : Profile) (down : p.rounding ≡ 0) where
  abbrev P : ℕ
  P = p.present.0

  -- the built current is 50 P / V in 10 mA, rounded down, or cut to less
  pub current_within : (volts : ℕ) → built_current p volts * volts ≤ 50 * P
  unfolding built_current
  current_within volts =
      let e : rounded_as p.rounding (down_at p volts) (up_at p volts) ≡ down_at p volts = ap (λ (r : ℕ). rounded_as r (down_at p volts) (up_at p volts)) down in
      let l : built_current p volts ≤ down_at p volts = omega (arith, e, min-le_left (rounded_as p.rounding (down_at p volts) (up_at p volts)) (limit_at p volts)) in
      le_trans (mul-le-mul_right volts l) (down_under (50 * P) volts)

  pub second_within : (past15V : Bool) → cond past15V (built_current p 20) 0 * 20 ≤ 50 * P
  second_within true = current_within 20
  second_within false = omega arith

  -- a request that keeps to the limits of the object at a slot
  slot_power : (first : Bool) (s : Slot) → slot_good s ≡ true → (w : ℕ)
      → in_range (object_for p first s) (volts_of (request_of (object_for p first s) w)) ≡ true
      → operating_of (request_of (object_for p first s) w) ≤ advertised_at (object_for p first s) (volts_of (request_of (object_for p first s) w))
      → cut_for (object_for p first s) P (half_watts_for (object_for p first s) w) ≤ P
  unfolding object_for
  slot_power first Nothing g w r a = let z : ◌≡◌ {A = ℕ} 0 1 = ap (λ (b : Bool). cond b 1 0) g in absurd (omega arith)
  slot_power first (Fixed volts) g w r a =
      within_P (volts * 20 * 50) _ volts (built_current p volts) P (omega arith) a (current_within volts)
  slot_power first (Avs past15V) g w r a =
      let high : Ma10 = record { 0 = cond past15V (built_current p 20) 0 } in
      let mv = volts_of (request_of (object_for p first (Avs past15V)) w) in
      let to = leb-true mv (avs_top high) ((and-eq-true_iff (leb 9000 mv) (leb mv (avs_top high))).0 r).1 in
      avs_power mv _ (built_current p 15) high.0 P (omega (arith, to, top_to_20_V high)) a (current_within 15) (second_within past15V)
  slot_power first (Prog volts top) g w r a = min-le_left P _

  -- the object that an accepted request names is the one built at its position
  pub built_power : NoneApply (build_refusals p) → (w : ℕ) → answer_of (built_words p) w ≡ success → power_of (built_words p) P w ≤ P
  unfolding power_of
  built_power b w e =
      let a = accepted (built_words p) w e in
      let k = position_of w - 1 in
      let s = get_or (slots p.max.0) k Nothing in
      let h : k < (built_words p).count = omega (arith, a.from_1, a.to_count) in
      let d = known p b k h in
      let o : a.object ≡ object_for p (eqb k 0) s = ap object_of (sym a.names ∙ d) in
      subst (λ (x : Option Object). power_in x P w ≤ P) (sym d)
      (slot_power (eqb k 0) s (good p b k h) w
      (subst (λ (x : Object). in_range x (volts_of (request_of x w)) ≡ true) o a.in_range)
      (subst (λ (x : Object). operating_of (request_of x w) ≤ advertised_at x (volts_of (request_of x w))) o a.at_most))

-- ---- a row

pub held_from_15 : HeldFrom15
unfolding held_for
held_from_15 y w = le-max_left 15 (power_of (rule_list y) y.present.0 w)

pub accepted_power : AcceptedPower
unfolding rule_profile
accepted_power y o w e =
    let q = rule_list_is y o in
    subst (λ (l : Words). power_of l y.present.0 w ≤ y.present.0) (sym q)
    (built_power (rule_profile y) refl (rule_profile_passes y o) w (sym (ap (λ (l : Words). answer_of l w) q) ∙ e))

pub held_to_P : HeldToP
unfolding held_for
held_to_P y o w e h = max-le h (accepted_power y o w e)
