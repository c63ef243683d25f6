-- What a sound row says, and back (STATEMENT, "Rows").
-- Assumes nothing.
use mathlib.Core.Path.{◌≡◌, refl, sym, ap, ◌∙◌}
use mathlib.Core.Bool.{Bool, true, false, not, cond, ◌&&◌, and-eq-true_iff}
use Prim.Native.Nat.{ℕ, ◌≤◌}
use native.Mathlib.Omega.{arith}
use lib.Dec.{leb, eqb}
use borrow.Author.Tests.{leb-true, le-leb, eqb-true, eq-eqb, ne_eqb, not-false}
use Rattle.steps.specs.Ranges.{within}
use Rattle.steps.proofs.RangeLaws.{at_least}
use Rattle.rules.specs.Profiles.{bad_cable}
use Rattle.ports.specs.declared.Row.{Row}
use Rattle.ports.specs.Soundness.{sound_empty, sound_attached, sound_row}

-- both columns: M "15 to 200", PPS wanted "0 or 1"
pub record SoundLimits (y : Row) : Type 0 where
  pub max_low : 15 ≤ y.max.0
  pub max_high : y.max.0 ≤ 200
  pub pps_high : y.pps ≤ 1

-- the column "attached port"
pub record SoundAttached (y : Row) : Type 0 where
  pub limits : SoundLimits y
  pub good_cable : bad_cable y.cable.0 ≡ false
  pub held_low : 15 ≤ y.held.0
  pub held_high : y.held.0 ≤ y.present.0
  pub present_high : y.present.0 ≤ y.max.0

-- the column "empty port"
pub record SoundEmpty (y : Row) : Type 0 where
  pub limits : SoundLimits y
  pub no_cable : y.cable.0 ≡ 0
  pub no_present : y.present.0 ≡ 0
  pub held_15 : y.held.0 ≡ 15

-- a cable that is not refused is in use
pub cable_not_0 : (cable : ℕ) → bad_cable cable ≡ false → eqb cable 0 ≡ false
cable_not_0 cable good = ne_eqb cable 0 (λ e. omega (arith, at_least 100 500 cable good))

module _ (y : Row) where
  abbrev port : Bool
  port = cond (eqb y.cable.0 0) (sound_empty y) (sound_attached y)

  pub limits_of_lem : sound_row y ≡ true → SoundLimits y
  unfolding sound_row
  limits_of_lem s =
      let a = (and-eq-true_iff (within 15 200 y.max.0) (leb y.pps 1 && port)).0 s in
      let m = (and-eq-true_iff (leb 15 y.max.0) (leb y.max.0 200)).0 a.0 in
      record {
        max_low = leb-true 15 y.max.0 m.0;
        max_high = leb-true y.max.0 200 m.1;
        pps_high = leb-true y.pps 1 ((and-eq-true_iff (leb y.pps 1) port).0 a.1).0;
      }

  port_of : sound_row y ≡ true → port ≡ true
  unfolding sound_row
  port_of s = ((and-eq-true_iff (leb y.pps 1) port).0 ((and-eq-true_iff (within 15 200 y.max.0) (leb y.pps 1 && port)).0 s).1).1

  of_both : SoundLimits y → port ≡ true → sound_row y ≡ true
  unfolding sound_row
  of_both l p =
      (and-eq-true_iff (within 15 200 y.max.0) (leb y.pps 1 && port)).1 (
        (and-eq-true_iff (leb 15 y.max.0) (leb y.max.0 200)).1 (le-leb 15 y.max.0 l.max_low, le-leb y.max.0 200 l.max_high),
        (and-eq-true_iff (leb y.pps 1) port).1 (le-leb y.pps 1 l.pps_high, p),
      )

  pub sound_attached_lem : sound_row y ≡ true → eqb y.cable.0 0 ≡ false → SoundAttached y
  sound_attached_lem s e =
      let t : sound_attached y ≡ true = sym (ap (λ (b : Bool). cond b (sound_empty y) (sound_attached y)) e) ∙ port_of s in
      let held = leb 15 y.held.0 in
      let below = leb y.held.0 y.present.0 in
      let within-max = leb y.present.0 y.max.0 in
      let a = (and-eq-true_iff (within 100 500 y.cable.0) (held && (below && within-max))).0 t in
      let b = (and-eq-true_iff held (below && within-max)).0 a.1 in
      let c = (and-eq-true_iff below within-max).0 b.1 in
      record {
        limits = limits_of_lem s;
        good_cable = ap not a.0;
        held_low = leb-true 15 y.held.0 b.0;
        held_high = leb-true y.held.0 y.present.0 c.0;
        present_high = leb-true y.present.0 y.max.0 c.1;
      }

  -- and back
  pub attached_sound : SoundAttached y → sound_row y ≡ true
  attached_sound a =
      of_both a.limits
      (ap (λ (b : Bool). cond b (sound_empty y) (sound_attached y)) (cable_not_0 y.cable.0 a.good_cable)
      ∙ rw (
        not-false (within 100 500 y.cable.0) a.good_cable,
        le-leb 15 y.held.0 a.held_low,
        le-leb y.held.0 y.present.0 a.held_high,
        le-leb y.present.0 y.max.0 a.present_high,
      ))

  pub sound_empty_lem : sound_row y ≡ true → eqb y.cable.0 0 ≡ true → SoundEmpty y
  sound_empty_lem s e =
      let t : sound_empty y ≡ true = sym (ap (λ (b : Bool). cond b (sound_empty y) (sound_attached y)) e) ∙ port_of s in
      let a = (and-eq-true_iff (eqb y.present.0 0) (eqb y.held.0 15)).0 t in
      record {
        limits = limits_of_lem s;
        no_cable = eqb-true y.cable.0 0 e;
        no_present = eqb-true y.present.0 0 a.0;
        held_15 = eqb-true y.held.0 15 a.1;
      }

  pub empty_sound : SoundEmpty y → sound_row y ≡ true
  empty_sound a =
      of_both a.limits
      (ap (λ (b : Bool). cond b (sound_empty y) (sound_attached y)) (eq-eqb y.cable.0 0 a.no_cable)
      ∙ rw (eq-eqb y.present.0 0 a.no_present, eq-eqb y.held.0 15 a.held_15))

-- every sound row holds at most 200
pub held_to_200 : (y : Row) → sound_row y ≡ true → y.held.0 ≤ 200
held_to_200 y s = go (eqb y.cable.0 0) refl where
  go : (b : Bool) → eqb y.cable.0 0 ≡ b → y.held.0 ≤ 200
  go true e = omega (arith, (sound_empty_lem y s e).held_15)
  go false e =
      let a = sound_attached_lem y s e in
      omega (arith, a.held_high, a.present_high, a.limits.max_high)
