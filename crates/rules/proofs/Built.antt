-- The objects that are built for a profile that passes: their currents, their words, and what the shape asks of each by itself.
-- Assumes nothing.
use Rattle.std.specs.Prelude.{Some}
use mathlib.Core.Path.{◌≡◌, refl, ap}
use mathlib.Core.Bool.{Bool, true, false, not, cond, and-eq-true_iff}
use Prim.Native.Nat.{ℕ, zero, suc, ◌*◌, ◌≤◌, ◌<◌}
use native.Mathlib.Nat.{min-le_right, le-min, mul-le-mul}
use native.Mathlib.Omega.{arith}
use lib.Dec.{leb}
use borrow.Author.Tests.{leb-true, lt-ltb, le-leb}
use Rattle.verdicts.specs.Refusals.{NoneApply}
use Rattle.steps.proofs.RoundingLaws.{down_under, down_greatest, down_le_up}
use Rattle.objects.specs.Layout.{all_fit}
use Rattle.objects.specs.Encode.{fields_of, word_of, encode_of}
use Rattle.objects.proofs.Made.{flagless}
use Rattle.lists.specs.ObjectRules.{out_of_bounds, over_100_W}
use Rattle.lists.specs.Writing.{word_in}
use Rattle.rules.specs.declared.Profile.{Profile}
use Rattle.rules.specs.Profiles.{profile_refusals}
use Rattle.rules.specs.Tables.{Slot, Nothing, Fixed, Avs, Prog}
use Rattle.rules.specs.Currents.{limit_at, built_current, prog_limit, prog_current, rounded_as, down_at, up_at, prog_down, cable_in_whole_50_mA}
use Rattle.rules.specs.Building.{flags_at, object_for}
use Rattle.rules.proofs.ProfileCases.{flags_high, present_low, cable_low, cable_high}
use Rattle.rules.proofs.Allowed.{limit_within_cable, limit_from}
use Rattle.rules.proofs.Slots.{slot_good}

-- no current that is built passes the cable, which 50 mA count as five times 10
module _ (p : Profile) (volts : ℕ) where
  pub current_within_cable : built_current p volts ≤ p.cable.0
  unfolding built_current
  current_within_cable =
      omega (
        arith,
        min-le_right (rounded_as p.rounding (down_at p volts) (up_at p volts)) (limit_at p volts),
        limit_within_cable volts 300 p.cable.0,
      )

  pub prog_within_cable : prog_current p volts * 5 ≤ p.cable.0
  unfolding prog_current
  prog_within_cable =
      omega (
        arith,
        min-le_right (prog_down p volts) (prog_limit p volts),
        limit_within_cable volts 60 (cable_in_whole_50_mA p),
        down_under p.cable.0 5,
      )

module _ (p : Profile) (x : NoneApply (profile_refusals p)) where
  -- ---- currents

  pub current_high : (volts : ℕ) → built_current p volts ≤ 500
  current_high volts = omega (arith, current_within_cable p volts, cable_high p x)

  pub prog_high : (volts : ℕ) → prog_current p volts ≤ 100
  prog_high volts = omega (arith, prog_within_cable p volts, cable_high p x)

  -- at 20 V there is always some current
  pub some_at_20_V : 1 ≤ built_current p 20
  unfolding built_current
  some_at_20_V = le-min (rounded p.rounding) (limit_from 20 300 p.cable.0 1 (omega arith) (omega (arith, cable_low p x))) where
    down : 1 ≤ down_at p 20
    down = down_greatest (50 * p.present.0) 20 1 (omega arith) (omega (arith, present_low p x))

    rounded : (r : ℕ) → 1 ≤ rounded_as r (down_at p 20) (up_at p 20)
    rounded zero = down
    rounded (suc r) = omega (arith, down, down_le_up (50 * p.present.0) 20)

  -- ---- words

  flags_fit : (first : Bool) → flags_at first p.flags < 128
  flags_fit true = omega (arith, flags_high p x)
  flags_fit false = omega arith

  second_high : (past15V : Bool) → cond past15V (built_current p 20) 0 < 1024
  second_high true = omega (arith, current_high 20)
  second_high false = omega arith

  fields_fit : (first : Bool) (s : Slot) → slot_good s ≡ true → all_fit (fields_of (object_for p first s)) ≡ true
  unfolding object_for
  fields_fit first Nothing g = let z : false ≡ true = g in cc
  fields_fit first (Fixed volts) g =
      let v : volts ≤ 20 = leb-true volts 20 ((and-eq-true_iff (leb 1 volts) (leb volts 20)).0 g).1 in
      rw (
        lt-ltb (built_current p volts) 1024 (omega (arith, current_high volts)),
        lt-ltb (volts * 20) 1024 (omega arith),
        lt-ltb (flags_at first p.flags) 128 (flags_fit first),
      )
  fields_fit first (Avs past15V) g =
      rw (
        lt-ltb (cond past15V (built_current p 20) 0) 1024 (second_high past15V),
        lt-ltb (built_current p 15) 1024 (omega (arith, current_high 15)),
      )
  fields_fit first (Prog volts top) g =
      let t : top ≤ 210 = leb-true top 210 ((and-eq-true_iff (leb 50 top) (leb top 210)).0 g).1 in
      rw (lt-ltb (prog_current p volts) 128 (omega (arith, prog_high volts)), lt-ltb top 256 (omega arith))

  -- each object that is built has a word
  pub has_word : (first : Bool) (s : Slot) → slot_good s ≡ true
      → encode_of (object_for p first s) ≡ Some (word_in (encode_of (object_for p first s)))
  unfolding word_of
  has_word first s g = rw (fields_fit first s g)

  -- ---- what the shape asks of each

  pub no_flags_later : (first : Bool) (s : Slot) → flagless first (object_for p first s)
  unfolding object_for
  no_flags_later true s = tt
  no_flags_later false Nothing = refl
  no_flags_later false (Fixed volts) = refl
  no_flags_later false (Avs past15V) = tt
  no_flags_later false (Prog volts top) = tt

  pub in_bounds : (first : Bool) (s : Slot) → slot_good s ≡ true → out_of_bounds (object_for p first s) ≡ false
  unfolding object_for out_of_bounds
  in_bounds first Nothing g = let z : false ≡ true = g in cc
  in_bounds first (Fixed volts) g =
      let v : volts ≤ 20 = leb-true volts 20 ((and-eq-true_iff (leb 1 volts) (leb volts 20)).0 g).1 in
      ap not (le-leb (volts * 20 * 50) 20000 (omega arith))
  in_bounds first (Avs past15V) g = refl
  in_bounds first (Prog volts top) g =
      let s = (and-eq-true_iff (leb 50 top) (leb top 210)).0 g in
      let l : 50 ≤ top = leb-true 50 top s.0 in
      let h : top ≤ 210 = leb-true top 210 s.1 in
      rw (le-leb (top * 100) 21000 (omega arith), le-leb 5000 (top * 100) (omega arith))

  pub in_power : (first : Bool) (s : Slot) → slot_good s ≡ true → over_100_W (object_for p first s) ≡ false
  unfolding object_for over_100_W
  in_power first Nothing g = let z : false ≡ true = g in cc
  in_power first (Fixed volts) g =
      let v : volts ≤ 20 = leb-true volts 20 ((and-eq-true_iff (leb 1 volts) (leb volts 20)).0 g).1 in
      let a : volts * 20 * 50 ≤ 20000 = omega arith in
      let b : built_current p volts * 10 ≤ 5000 = omega (arith, current_high volts) in
      ap not (le-leb (volts * 20 * 50 * (built_current p volts * 10)) 100000000 (mul-le-mul a b))
  in_power first (Avs past15V) g = refl
  in_power first (Prog volts top) g = refl
