-- Whether a row is sound, by the facts that a branch gives.
-- Assumes nothing.
use mathlib.Core.Path.{◌≡◌, refl, ap, ◌∙◌}
use mathlib.Core.Bool.{Bool, true, false, ◌&&◌, and-true, and-false}
use Prim.Native.Nat.{◌≤◌, ◌<◌}
use native.Mathlib.Omega.{arith}
use lib.Dec.{leb, eqb}
use borrow.Author.Tests.{le-leb, lt-leb, eq-eqb, ne_eqb, not-true, not-false}
use Rattle.steps.specs.Ranges.{within}
use Rattle.rules.specs.Profiles.{bad_cable}
use Rattle.ports.specs.declared.Row.{Row}
use Rattle.ports.specs.Soundness.{sound_empty, sound_attached, sound_row}

module _ (y : Row) where
  abbrev with_m : Bool → Bool
  with_m port = within 15 200 y.max.0 && port

  -- ---- an empty port

  pub max_low : y.max.0 < 15 → with_m (sound_empty y) ≡ false
  max_low h = rw (lt-leb 15 y.max.0 h) refl

  module _ (l : 15 ≤ y.max.0) where
    pub max_high : 200 < y.max.0 → with_m (sound_empty y) ≡ false
    max_high h = rw (le-leb 15 y.max.0 l, lt-leb y.max.0 200 h) refl

    module _ (k : y.max.0 ≤ 200) where
      pub present_not_0 : (y.present.0 ≡ 0 → ⊥) → with_m (sound_empty y) ≡ false
      present_not_0 f = rw (le-leb 15 y.max.0 l, le-leb y.max.0 200 k, ne_eqb y.present.0 0 f) refl

      pub present_0 : y.present.0 ≡ 0 → with_m (sound_empty y) ≡ eqb y.held.0 15
      present_0 e = rw (le-leb 15 y.max.0 l, le-leb y.max.0 200 k, eq-eqb y.present.0 0 e) refl

  -- ---- an attached one

  -- whatever M is
  not_attached_lem : sound_attached y ≡ false → with_m (sound_attached y) ≡ false
  not_attached_lem e = ap with_m e ∙ and-false (within 15 200 y.max.0)

  pub cable_bad : bad_cable y.cable.0 ≡ true → with_m (sound_attached y) ≡ false
  cable_bad e = not_attached_lem (rw (not-true (within 100 500 y.cable.0) e) refl)

  module _ (c : bad_cable y.cable.0 ≡ false) where
    abbrev cable_fits : within 100 500 y.cable.0 ≡ true
    cable_fits = not-false (within 100 500 y.cable.0) c

    pub held_low : y.held.0 < 15 → with_m (sound_attached y) ≡ false
    held_low h = not_attached_lem (rw (cable_fits, lt-leb 15 y.held.0 h) refl)

    module _ (h : 15 ≤ y.held.0) where
      pub held_high : y.present.0 < y.held.0 → with_m (sound_attached y) ≡ false
      held_high k = not_attached_lem (rw (cable_fits, le-leb 15 y.held.0 h, lt-leb y.held.0 y.present.0 k) refl)

      module _ (k : y.held.0 ≤ y.present.0) where
        pub present_high : y.max.0 < y.present.0 → with_m (sound_attached y) ≡ false
        present_high m = not_attached_lem (rw (
          cable_fits,
          le-leb 15 y.held.0 h,
          le-leb y.held.0 y.present.0 k,
          lt-leb y.present.0 y.max.0 m,
        ) refl)

        -- 15 ≤ held ≤ P ≤ M leaves of M's range its end alone
        pub by_maximum : y.present.0 ≤ y.max.0 → with_m (sound_attached y) ≡ leb y.max.0 200
        by_maximum m =
            rw (
              cable_fits,
              le-leb 15 y.held.0 h,
              le-leb y.held.0 y.present.0 k,
              le-leb y.present.0 y.max.0 m,
              le-leb 15 y.max.0 (omega arith),
            ) (and-true (leb y.max.0 200))

  -- ---- either

  pub pps_high : 1 < y.pps → sound_row y ≡ false
  unfolding sound_row
  pps_high h = rw (lt-leb y.pps 1 h) (and-false (within 15 200 y.max.0))

  module _ (p : y.pps ≤ 1) where
    pub by_empty : y.cable.0 ≡ 0 → sound_row y ≡ with_m (sound_empty y)
    unfolding sound_row
    by_empty e = rw (le-leb y.pps 1 p, eq-eqb y.cable.0 0 e) refl

    pub by_attached : (y.cable.0 ≡ 0 → ⊥) → sound_row y ≡ with_m (sound_attached y)
    unfolding sound_row
    by_attached f = rw (le-leb y.pps 1 p, ne_eqb y.cable.0 0 f) refl
