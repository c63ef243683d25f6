-- Ignored bits of a request change nothing that a port holds.
-- Assumes nothing.
use Rattle.std.specs.Prelude.{Option, Some, None}
use mathlib.Core.Path.{◌≡◌, refl, ap, ap₂, ◌∙◌}
use Prim.Native.Nat.{ℕ, ◌*◌, max}
use Rattle.steps.specs.Rounding.{up_of}
use Rattle.objects.specs.declared.Object.{Object}
use Rattle.objects.specs.declared.Object.TheVariants.{Fixed, Battery, Variable, Pps, Avs}
use Rattle.lists.specs.declared.Words.{Words}
use Rattle.requests.specs.Limits.{volts_of, operating_of}
use Rattle.requests.specs.Answering.{named_by}
use Rattle.requests.specs.Ignoring.{ignored_by, ignored_for, AgreeOutside}
use Rattle.requests.proofs.Ignoring.{same_request, names_same}
use Rattle.ports.specs.Requests.{voltage_for, half_watts_for, cut_for, power_in, power_of, held_for}

module _ (w v : ℕ) where
  same_voltage : (o : Object) → AgreeOutside (ignored_by o) w v → voltage_for o w ≡ voltage_for o v
  same_voltage (Fixed f p x a) same = refl
  same_voltage (Battery x m p) same = refl
  same_voltage (Variable x m a) same = refl
  same_voltage (Pps l x m a) same = ap volts_of (same_request w v (Pps l x m a) same)
  same_voltage (Avs p l h) same = ap volts_of (same_request w v (Avs p l h) same)

  same_half_watts : (o : Object) → AgreeOutside (ignored_by o) w v → half_watts_for o w ≡ half_watts_for o v
  same_half_watts o same =
      ap₂ (λ (mv ma : ℕ). up_of (mv * ma) 500000) (same_voltage o same) (ap operating_of (same_request w v o same))

  same_power : (d : Option Object) (present : ℕ) → AgreeOutside (ignored_for d) w v → power_in d present w ≡ power_in d present v
  same_power (Some o) present same = ap (cut_for o present) (same_half_watts o same)
  same_power None present same = refl

pub held_ignores : (l : Words) (present w v : ℕ) → AgreeOutside (ignored_for (named_by l w)) w v → held_for l present w ≡ held_for l present v
unfolding held_for power_of
held_ignores l present w v same =
    ap (max 15) (same_power w v (named_by l w) present same ∙ ap (λ (d : Option Object). power_in d present v) (names_same l w v same))
