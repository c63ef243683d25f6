-- The fixed part as it is put down: at the place of each row that M exceeds there is its current, in bits 9..0, and at that of any other 0.
-- AVS has its currents from there.
-- Assumes nothing.
use mathlib.Core.Path.{◌≡◌, refl, ap, ◌∙◌, subst}
use mathlib.Core.Bool.{Bool, true, false, cond, beq}
use mathlib.Core.List.{List}
use Prim.Native.Nat.{ℕ, ◌≤◌, ◌<◌}
use native.Mathlib.Omega.{arith}
use lib.Dec.{ltb, eqb}
use lib.ListN.{get_or}
use borrow.Author.Tests.{lt-ltb, ltb-true, ltb-false}
use Rattle.verdicts.specs.Refusals.{NoneApply}
use Rattle.steps.specs.declared.Ma10.{Ma10}
use Rattle.steps.proofs.Computed.{every_below, at_each}
use Rattle.objects.specs.declared.Object.TheVariants as object
use Rattle.objects.specs.Bits.{bits}
use Rattle.objects.specs.Encode.{fields_of, encode_of}
use Rattle.objects.proofs.RoundTrip.{made}
use Rattle.lists.specs.Seven.{seven_to}
use Rattle.lists.specs.Writing.{word_in}
use Rattle.lists.proofs.Sevens.{filled_at, past_filled}
use Rattle.rules.specs.declared.Profile.{Profile}
use Rattle.rules.specs.declared.tables.Rail.{Rail}
use Rattle.rules.specs.Profiles.{profile_refusals}
use Rattle.rules.specs.Tables.{Slot, Fixed, Avs, row, rails, exceeds}
use Rattle.rules.specs.Currents.{built_current}
use Rattle.rules.specs.Building.{object_for, slot_word, word_for, PutDown}
use Rattle.rules.proofs.Tests.{beq_same}
use Rattle.rules.proofs.ProfileCases.{max_high}
use Rattle.rules.proofs.EachMaximum.{at_most_seven}
use Rattle.rules.proofs.TableWalk.{after_rails, avs_stands}
use Rattle.rules.proofs.PutDown.{avs_is}
use Rattle.rules.proofs.Places.{rail_at}
use Rattle.rules.proofs.Slots.{slot_good, good_at}
use Rattle.rules.proofs.Built.{has_word}

abbrev rail : ℕ → Rail
rail i = get_or rails i (row 0 0)

-- the rows rise: the fixed part goes past the place of a row exactly where M exceeds the row
abbrev risen : ℕ → ℕ → Bool
risen m i = beq (ltb i (after_rails m)) (exceeds m (rail i))

rail_passed : (m i : ℕ) → m ≤ 200 → i < 4 → ltb i (after_rails m) ≡ exceeds m (rail i)
unfolding every_below
rail_passed m i high h = beq_same _ _ (at_each (risen m) 4 i (at_each (λ (n : ℕ). every_below (risen n) 4) 201 m refl (omega arith)) h)

no_current_lem : bits 0 9 0 ≡ 0
unfolding bits
no_current_lem = refl

module _ (p : Profile) (x : NoneApply (profile_refusals p)) where
  abbrev m : ℕ
  m = p.max.0

  abbrev n : ℕ
  n = after_rails m

  fixed_current : (first : Bool) (volts : ℕ) → slot_good (Fixed volts) ≡ true → bits (slot_word p first (Fixed volts)) 9 0 ≡ built_current p volts
  unfolding object_for
  fixed_current first volts g =
      let r = made (fields_of (object_for p first (Fixed volts))) (slot_word p first (Fixed volts)) refl (has_word p x first (Fixed volts) g) in
      cc

  module _ (above : 54 < m) {ws : List ℕ} {at : ℕ} (down : PutDown p n ws at) where
    rail_current : (i : ℕ) → i < 4 → bits (get_or ws i 0) 9 0 ≡ cond (exceeds m (rail i)) (built_current p (rail i).volts) 0
    rail_current i h =
        ap (λ (vs : List ℕ). bits (get_or vs i 0) 9 0) down.words ∙ go (ltb i n) refl
        ∙ ap (λ (b : Bool). cond b (built_current p (rail i).volts) 0) (rail_passed m i (max_high p x) h)
      where
        go : (b : Bool) → ltb i n ≡ b → bits (get_or (seven_to (word_for p) 0 n) i 0) 9 0 ≡ cond b (built_current p (rail i).volts) 0
        go true t =
            let l = ltb-true i n t in
            let st = rail_at m i (max_high p x) l in
            let seven : n ≤ 7 = omega (arith, (avs_stands m above).within, at_most_seven m (max_high p x)) in
            ap (λ (w : ℕ). bits w 9 0) (filled_at (word_for p) 0 n i seven l ∙ ap (slot_word p (eqb i 0)) st.slot)
            ∙ fixed_current (eqb i 0) (rail i).volts (subst (λ (s : Slot). slot_good s ≡ true) st.slot (good_at m (max_high p x) i st.within))
        go false t = ap (λ (w : ℕ). bits w 9 0) (past_filled (word_for p) 0 n i (ltb-false i n t)) ∙ no_current_lem

    -- the AVS word, with its currents from the rows of 15 V and 20 V
    pub avs_beside : (first : Bool) (low high : Ma10) → low.0 ≡ bits (get_or ws 2 0) 9 0 → high.0 ≡ bits (get_or ws 3 0) 9 0
        → word_in (encode_of (object.Avs 0 low high)) ≡ slot_word p first (Avs (ltb 90 m))
    avs_beside first low high e f =
        avs_is p first (ltb 90 m) low high
        (e ∙ rail_current 2 (omega arith) ∙ ap (λ (b : Bool). cond b (built_current p 15) 0) (lt-ltb 54 m above)) (f ∙ rail_current 3 (omega arith))
