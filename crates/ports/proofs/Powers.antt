-- The power of a request, from the figures as they stand in their steps, and by the kind of what was asked.
-- Assumes nothing.
use Rattle.std.specs.Prelude.{Option, Some, None}
use mathlib.Core.Path.{◌≡◌, refl, sym, ap, ◌∙◌, subst}
use mathlib.Core.Logic.{◌⊎◌, ⊎_elim}
use Prim.Native.Nat.{ℕ, zero, suc, ◌*◌, ◌≤◌, ◌<◌, min}
use native.Mathlib.Nat.{zero-mul, mul-le-mul, min-le_right}
use native.Mathlib.Omega.{arith}
use Rattle.steps.specs.declared.Mv20.{Mv20}
use Rattle.steps.specs.declared.Mv25.{Mv25}
use Rattle.steps.specs.declared.Mv50.{Mv50}
use Rattle.steps.specs.declared.Ma10.{Ma10}
use Rattle.steps.specs.declared.Ma50.{Ma50}
use Rattle.steps.specs.declared.Mw250.{Mw250}
use Rattle.steps.specs.Units.{mv20, mv25, mv50, ma10, ma50}
use Rattle.steps.specs.Rounding.{up_of}
use Rattle.steps.proofs.RoundingLaws.{up_scaled, up_least}
use Rattle.steps.proofs.StepTests.{product}
use Rattle.objects.proofs.Taking.{bits_lt}
use Rattle.objects.specs.Bits.{bits}
use Rattle.objects.specs.Decode.{by_augmented, by_kind, decode_of}
use Rattle.objects.specs.declared.Object.{Object}
use Rattle.objects.specs.declared.Object.TheVariants.{Fixed, Battery, Variable, Pps, Avs}
use Rattle.requests.specs.declared.Request.{Request}
use Rattle.requests.specs.declared.Request.TheVariants as asked
use Rattle.requests.specs.Taking.{request_of}
use Rattle.requests.specs.Limits.{volts_of, operating_of}
use Rattle.ports.specs.Requests.{voltage_for, half_watts_for, cut_for}

-- ---- in the steps themselves: a half watt is 1000 times 50 mV by 10 mA, 400 times 25 mV by 50 mA, 500 times 20 mV by 50 mA

pub fixed_steps : (v : Mv50) (a : Ma10) → up_of (v.0 * a.0) 1000 ≡ up_of (mv50 v * ma10 a) 500000
fixed_steps v a = sym (ap (λ (n : ℕ). up_of n 500000) (product v.0 a.0 50 10) ∙ up_scaled (v.0 * a.0) 1000 500 (omega arith) (omega arith))

pub avs_steps : (v : Mv25) (a : Ma50) → up_of (v.0 * a.0) 400 ≡ up_of (mv25 v * ma50 a) 500000
avs_steps v a = sym (ap (λ (n : ℕ). up_of n 500000) (product v.0 a.0 25 50) ∙ up_scaled (v.0 * a.0) 400 1250 (omega arith) (omega arith))

pub pps_steps : (v : Mv20) (a : Ma50) → up_of (v.0 * a.0) 500 ≡ up_of (mv20 v * ma50 a) 500000
pps_steps v a = sym (ap (λ (n : ℕ). up_of n 500000) (product v.0 a.0 20 50) ∙ up_scaled (v.0 * a.0) 500 1000 (omega arith) (omega arith))

-- ---- by the kind of what was asked

module _ (w present : ℕ) where
  abbrev pub power : Object → ℕ
  power o = cut_for o present (half_watts_for o w)

  pub of_pps_lem : (o : Object) (v : Mv20) (a : Ma50) → request_of o w ≡ asked.Pps v a → min present (up_of (mv20 v * ma50 a) 500000) ≡ power o
  of_pps_lem (Fixed f p v a) u b e = let z : asked.Fixed _ _ ≡ asked.Pps u b = e in cc
  of_pps_lem (Battery x m p) u b e = let z : asked.Battery _ _ ≡ asked.Pps u b = e in cc
  of_pps_lem (Variable x m a) u b e = let z : asked.Variable _ _ ≡ asked.Pps u b = e in cc
  of_pps_lem (Pps l x m a) u b e = ap (λ (r : Request). min present (up_of (volts_of r * operating_of r) 500000)) (sym e)
  of_pps_lem (Avs p l h) u b e = let z : asked.Avs _ _ ≡ asked.Pps u b = e in cc

  pub of_avs_lem : (o : Object) (v : Mv25) (a : Ma50) → request_of o w ≡ asked.Avs v a → up_of (mv25 v * ma50 a) 500000 ≡ power o
  of_avs_lem (Fixed f p v a) u b e = let z : asked.Fixed _ _ ≡ asked.Avs u b = e in cc
  of_avs_lem (Battery x m p) u b e = let z : asked.Battery _ _ ≡ asked.Avs u b = e in cc
  of_avs_lem (Variable x m a) u b e = let z : asked.Variable _ _ ≡ asked.Avs u b = e in cc
  of_avs_lem (Pps l x m a) u b e = let z : asked.Pps _ _ ≡ asked.Avs u b = e in cc
  of_avs_lem (Avs p l h) u b e = ap (λ (r : Request). up_of (volts_of r * operating_of r) 500000) (sym e)

  pub of_fixed_lem : (o : Object) (f p : ℕ) (v : Mv50) (c : Ma10) (a m : Ma10) → o ≡ Fixed f p v c → request_of o w ≡ asked.Fixed a m
      → up_of (mv50 v * ma10 a) 500000 ≡ power o
  of_fixed_lem o f p v c a m g e =
      ap (λ (r : Request). up_of (mv50 v * operating_of r) 500000) (sym e ∙ ap (λ (x : Object). request_of x w) g) ∙ ap power (sym g)

  -- a request that is neither has no voltage
  pub of_others : (o : Object) → ((v : Mv20) (a : Ma50) → request_of o w ≡ asked.Pps v a → ⊥)
      → ((v : Mv25) (a : Ma50) → request_of o w ≡ asked.Avs v a → ⊥) → ((a m : Ma10) → request_of o w ≡ asked.Fixed a m → ⊥)
      → 0 ≡ power o
  unfolding up_of
  of_others (Fixed f p v a) h k l = absurd (l _ _ refl)
  of_others (Battery x m p) h k l = ap (λ (n : ℕ). up_of n 500000) (sym (zero-mul (operating_of (request_of (Battery x m p) w))))
  of_others (Variable x m a) h k l = ap (λ (n : ℕ). up_of n 500000) (sym (zero-mul (operating_of (request_of (Variable x m a) w))))
  of_others (Pps l x m a) h k n = absurd (h _ _ refl)
  of_others (Avs p l h) g k n = absurd (k _ _ refl)

  -- as one to a battery or a variable object
  pub no_voltage : (o : Object) {r : Request} → request_of o w ≡ r
      → ((a : Mw250) × (m : Mw250) × (r ≡ asked.Battery a m)) ⊎ ((a : Ma10) × (m : Ma10) × (r ≡ asked.Variable a m)) → 0 ≡ power o
  no_voltage o e = ⊎_elim
      (λ t. let z = e ∙ t.2 in of_others o (λ v a q. cc) (λ v a q. cc) (λ a m q. cc))
      (λ t. let z = e ∙ t.2 in of_others o (λ v a q. cc) (λ v a q. cc) (λ a m q. cc))

  -- only a fixed object has such a request
  pub fixed_alone : (o : Object) (a m : Ma10) → request_of o w ≡ asked.Fixed a m
      → ((f p : ℕ) (v : Mv50) (a : Ma10) → o ≡ Fixed f p v a → ⊥) → {n : ℕ} → 0 ≡ n
  fixed_alone (Fixed f p v a) b c e h = absurd (h f p v a refl)
  fixed_alone (Battery x m p) b c e h = let z : asked.Battery _ _ ≡ asked.Fixed b c = e in cc
  fixed_alone (Variable x m a) b c e h = let z : asked.Variable _ _ ≡ asked.Fixed b c = e in cc
  fixed_alone (Pps l x m a) b c e h = let z : asked.Pps _ _ ≡ asked.Fixed b c = e in cc
  fixed_alone (Avs p l g) b c e h = let z : asked.Avs _ _ ≡ asked.Fixed b c = e in cc

-- ---- an object that a word stands for: the power of a request to it fits 16 bits

abbrev voltage_in : Option Object → ℕ → ℕ
voltage_in (Some o) word = voltage_for o word
voltage_in None word = 0

-- the widest voltage that is asked for has 12 bits of 25 mV; that of a fixed object has 10 bits of 50 mV
voltage_known : (w word : ℕ) (o : Object) → decode_of w ≡ Some o → voltage_for o word ≤ 102375
unfolding decode_of
voltage_known w word o e = subst (λ (d : Option Object). voltage_in d word ≤ 102375) e (by_kind_lem (bits w 31 30)) where
  by_augmented_lem : (k : ℕ) → voltage_in (by_augmented k w) word ≤ 102375
  by_augmented_lem zero = omega (arith, bits_lt word 20 9)
  by_augmented_lem (suc zero) = omega arith
  by_augmented_lem (suc (suc zero)) = omega (arith, bits_lt word 20 9)
  by_augmented_lem (suc (suc (suc k))) = omega arith

  by_kind_lem : (k : ℕ) → voltage_in (by_kind k w) word ≤ 102375
  by_kind_lem zero = omega (arith, bits_lt w 19 10)
  by_kind_lem (suc zero) = omega arith
  by_kind_lem (suc (suc zero)) = omega arith
  by_kind_lem (suc (suc (suc k))) = by_augmented_lem (bits w 29 28)

-- the largest operating figure has 10 bits of 250 mW
operating_known : (o : Object) (word : ℕ) → operating_of (request_of o word) ≤ 255750
operating_known (Fixed f p v a) word = omega (arith, bits_lt word 19 10)
operating_known (Battery x m p) word = omega (arith, bits_lt word 19 10)
operating_known (Variable x m a) word = omega (arith, bits_lt word 19 10)
operating_known (Pps l x m a) word = omega (arith, bits_lt word 6 0)
operating_known (Avs p l h) word = omega (arith, bits_lt word 6 0)

cut_at_most : (o : Object) (present n : ℕ) → cut_for o present n ≤ n
cut_at_most (Fixed f p v a) present n = omega arith
cut_at_most (Battery x m p) present n = omega arith
cut_at_most (Variable x m a) present n = omega arith
cut_at_most (Pps l x m a) present n = min-le_right present n
cut_at_most (Avs p l h) present n = omega arith

pub power_fits : (w word present : ℕ) (o : Object) → decode_of w ≡ Some o → power word present o < 65536
power_fits w word present o e =
    let most : voltage_for o word * operating_of (request_of o word) ≤ 102375 * 255750 = mul-le-mul (voltage_known w word o e) (operating_known o word) in
    let up = up_least (voltage_for o word * operating_of (request_of o word)) 500000 65535 (omega arith) (omega (arith, most)) in
    let cut = cut_at_most o present (half_watts_for o word) in
    omega (arith, up, cut)
