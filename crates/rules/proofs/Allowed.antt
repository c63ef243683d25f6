-- Which currents are allowed: the cases that the code tells apart.
-- Assumes nothing.
use mathlib.Core.Path.{◌≡◌, refl, ap, sym, ◌∙◌}
use mathlib.Core.Bool.{Bool, true, false, not, cond, ◌&&◌, and-false, and-eq-true_iff}
use Prim.Native.Nat.{ℕ, ◌*◌, ◌≤◌, ◌<◌, min}
use native.Mathlib.Nat.{le_antisymm, le-min, min-le_left, min-le_right}
use native.Mathlib.Omega.{arith}
use lib.Dec.{leb, ltb, eqb}
use borrow.Author.Tests.{lt-ltb, le-ltb, le-leb, lt-leb, leb-true, leb-false, ltb-true, ltb-false, eq-eqb, ne_eqb, eqb-true, eqb-false, not-true}
use Rattle.steps.proofs.RoundingLaws.{down_greatest, up_least, down_le_up}
use Rattle.rules.specs.declared.Profile.{Profile}
use Rattle.rules.specs.Currents.{down_at, up_at, limit_by, fixed_allowed, above_3_A, allowed_above_3_A, either_rounding, prog_down, cable_in_whole_50_mA, prog_current, may_exceed, prog_allowed}

-- where P is above six times the volts the quotient is at least 3 A, rounded either way, and elsewhere at most 3 A
module _ (p : Profile) (volts : ℕ) (pos : 0 < volts) where
  pub down_from_3_A : 6 * volts < p.present.0 → 300 ≤ down_at p volts
  down_from_3_A h = down_greatest (50 * p.present.0) volts 300 pos (omega arith)

  pub up_from_3_A : 6 * volts < p.present.0 → 300 ≤ up_at p volts
  up_from_3_A h = omega (arith, down_from_3_A h, down_le_up (50 * p.present.0) volts)

  pub up_to_300 : p.present.0 ≤ 6 * volts → up_at p volts ≤ 300
  up_to_300 h = up_least (50 * p.present.0) volts 300 pos (omega arith)

-- a limit that is not passed makes no difference beside another
cuts_nothing : (n limit cable : ℕ) → n ≤ limit → min n (min limit cable) ≡ min n cable
cuts_nothing n limit cable h =
    le_antisymm
    (le-min (min-le_left n (min limit cable)) (omega (arith, min-le_right n (min limit cable), min-le_right limit cable)))
    (le-min (min-le_left n cable) (le-min (omega (arith, min-le_left n cable)) (min-le_right n cable)))

-- a limit: the cable at 20 V, and elsewhere the smaller of 3 A and the cable
module _ (volts threeA cable : ℕ) where
  pub limit_20_V : volts ≡ 20 → limit_by volts threeA cable ≡ cable
  limit_20_V e = ap (λ (b : Bool). cond b cable (min threeA cable)) (eq-eqb volts 20 e)

  pub limit_3_A : (volts ≡ 20 → ⊥) → limit_by volts threeA cable ≡ min threeA cable
  limit_3_A f = ap (λ (b : Bool). cond b cable (min threeA cable)) (ne_eqb volts 20 f)

  pub limit_within_cable : limit_by volts threeA cable ≤ cable
  limit_within_cable = go (eqb volts 20) where
    go : (b : Bool) → cond b cable (min threeA cable) ≤ cable
    go true = omega arith
    go false = min-le_right threeA cable

  -- and it is no less than what both are no less than
  pub limit_from : (n : ℕ) → n ≤ threeA → n ≤ cable → n ≤ limit_by volts threeA cable
  limit_from n h k = go (eqb volts 20) where
    go : (b : Bool) → n ≤ cond b cable (min threeA cable)
    go true = k
    go false = le-min h k

module _ (p : Profile) (volts : ℕ) where
  pub above_3_A_means : above_3_A p volts ≡ true → (volts ≡ 20 → ⊥) × (6 * volts < p.present.0)
  above_3_A_means e =
      let s = (and-eq-true_iff (not (eqb volts 20)) (ltb (6 * volts) p.present.0)).0 e in
      (eqb-false volts 20 (not-true (eqb volts 20) s.0), ltb-true _ _ s.1)

  pub is_above_3_A : (volts ≡ 20 → ⊥) → 6 * volts < p.present.0 → above_3_A p volts ≡ true
  is_above_3_A f h = rw (ne_eqb volts 20 f, lt-ltb (6 * volts) p.present.0 h)

  pub not_above_at_20_V : volts ≡ 20 → above_3_A p volts ≡ false
  not_above_at_20_V e = rw (eq-eqb volts 20 e)

  pub not_above_up_to : p.present.0 ≤ 6 * volts → above_3_A p volts ≡ false
  not_above_up_to h = ap (λ (b : Bool). not (eqb volts 20) && b) (le-ltb (6 * volts) p.present.0 h) ∙ and-false (not (eqb volts 20))

-- the two cases of the page
module _ (p : Profile) (volts a : ℕ) where
  pub above_3_A_lem : above_3_A p volts ≡ true → fixed_allowed p volts a ≡ allowed_above_3_A p volts a
  unfolding fixed_allowed
  above_3_A_lem e = rw e

  pub not_above_3_A : above_3_A p volts ≡ false → fixed_allowed p volts a ≡ either_rounding p volts a
  unfolding fixed_allowed
  not_above_3_A e = rw e

  -- the second: a limit of 3 A cuts nothing off a quotient that is not above it
  pub cut_to_cable : 0 < volts → above_3_A p volts ≡ false → a ≤ up_at p volts → min a (limit_by volts 300 p.cable.0) ≡ min a p.cable.0
  cut_to_cable pos e h = go (eqb volts 20) refl e where
    go : (b : Bool) → eqb volts 20 ≡ b → (not b && ltb (6 * volts) p.present.0) ≡ false
        → min a (limit_by volts 300 p.cable.0) ≡ min a p.cable.0
    go true g t = ap (min a) (limit_20_V volts 300 p.cable.0 (eqb-true volts 20 g))
    go false g t =
        ap (min a) (limit_3_A volts 300 p.cable.0 (eqb-false volts 20 g))
        ∙ cuts_nothing a 300 p.cable.0 (omega (arith, up_to_300 p volts pos (ltb-false _ _ t)))

  -- the first: what 3 A and the cable decide, and what is left to the quotient
  abbrev low : ℕ
  low = min 300 p.cable.0

  abbrev top : ℕ
  top = min p.cable.0 (up_at p volts)

  pub under_low : a < low → false ≡ allowed_above_3_A p volts a
  under_low h = sym (ap (λ (b : Bool). b && leb a top) (lt-leb low a h))

  pub past_cable : p.cable.0 < a → false ≡ allowed_above_3_A p volts a
  past_cable h =
      let less : top < a = omega (arith, min-le_left p.cable.0 (up_at p volts)) in
      sym (ap (λ (b : Bool). leb low a && b) (lt-leb a top less) ∙ and-false (leb low a))

  pub by_quotient : low ≤ a → a ≤ p.cable.0 → leb a (up_at p volts) ≡ allowed_above_3_A p volts a
  by_quotient from high = go (leb a (up_at p volts)) refl ∙ sym (ap (λ (b : Bool). b && leb a top) (le-leb low a from)) where
    go : (b : Bool) → leb a (up_at p volts) ≡ b → leb a (up_at p volts) ≡ leb a top
    go true e = e ∙ sym (le-leb a _ (le-min high (leb-true a (up_at p volts) e)))
    go false e = e ∙ sym (lt-leb a _ (omega (arith, min-le_right p.cable.0 (up_at p volts), leb-false a (up_at p volts) e)))

  pub just_low : a ≡ low → 300 ≤ up_at p volts → true ≡ allowed_above_3_A p volts a
  just_low e h =
      sym (le-leb a (up_at p volts) (omega (arith, min-le_left 300 p.cable.0)))
      ∙ by_quotient (omega arith) (omega (arith, min-le_right 300 p.cable.0))

-- the lower end needs no quotient
pub low_allowed : (p : Profile) (volts a : ℕ) → 0 < volts → 6 * volts < p.present.0 → a ≡ min 300 p.cable.0 → true ≡ allowed_above_3_A p volts a
low_allowed p volts a pos h e = just_low p volts a e (up_from_3_A p volts pos h)

-- programmable supplies
module _ (p : Profile) (volts a : ℕ) where
  pub built_figure : a ≡ prog_current p volts → prog_allowed p volts a ≡ true
  unfolding prog_allowed
  built_figure e = rw (eq-eqb a (prog_current p volts) e)

  pub not_above : (a ≡ prog_current p volts → ⊥) → may_exceed p.max.0 volts ≡ false → prog_allowed p volts a ≡ false
  unfolding prog_allowed
  not_above f e = rw (ne_eqb a (prog_current p volts) f, e)

  pub below_built : (a ≡ prog_current p volts → ⊥) → may_exceed p.max.0 volts ≡ true → a < prog_current p volts → prog_allowed p volts a ≡ false
  unfolding prog_allowed
  below_built f e h = rw (ne_eqb a (prog_current p volts) f, e, lt-leb (prog_current p volts) a h)

  pub by_cable : (a ≡ prog_current p volts → ⊥) → may_exceed p.max.0 volts ≡ true → prog_current p volts ≤ a
      → prog_allowed p volts a ≡ leb a (min (prog_down p volts) (cable_in_whole_50_mA p))
  unfolding prog_allowed
  by_cable f e h = rw (ne_eqb a (prog_current p volts) f, e, le-leb (prog_current p volts) a h)
