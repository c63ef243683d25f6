-- Rounding by the profile's choice, and which programmable supplies may exceed what is built.
-- Assumes nothing.
use mathlib.Core.Path.{◌≡◌, refl}
use mathlib.Core.Bool.{false, ◌&&◌, or-false}
use Prim.Native.Nat.{ℕ, zero, suc}
use lib.Dec.{ltb}
use borrow.Author.Tests.{ne_eqb}
use Rattle.rules.specs.Currents.{rounded_as, may_exceed}

pub rounds_down : {r : ℕ} (down up : ℕ) → r ≡ 0 → rounded_as r down up ≡ down
rounds_down down up e = rw e

pub rounds_up : {r : ℕ} (down up : ℕ) → (r ≡ 0 → ⊥) → rounded_as r down up ≡ up
rounds_up {r} down up f = go r f where
  go : (n : ℕ) → (n ≡ 0 → ⊥) → rounded_as n down up ≡ up
  go zero g = absurd (g refl)
  go (suc n) g = refl

module _ (m volts : ℕ) where
  pub at_9_V : volts ≡ 9 → may_exceed m volts ≡ (ltb 54 m && ltb m 90)
  at_9_V e = rw e (or-false (ltb 54 m && ltb m 90))

  pub at_15_V : volts ≡ 15 → may_exceed m volts ≡ (ltb 90 m && ltb m 120)
  at_15_V e = rw e

  pub elsewhere : (volts ≡ 9 → ⊥) → (volts ≡ 15 → ⊥) → may_exceed m volts ≡ false
  elsewhere f g = rw (ne_eqb volts 9 f, ne_eqb volts 15 g)
