-- Demand 1, refusals, for the calls whose answer is an enum; each of them has one refusal. What the answer says (its number and its values)
-- is that refusal exactly where it applies, and on a refusal all else is zero. `conversions` proves `Conversions`, and each other claim is proved
-- by the theorem of its name in small letters, in proofs/EnumRefusals.antt (docs/STATEMENT.md, "Steps of measure" and "Refusal numbers").
-- Assumes nothing.
use Rattle.std.specs.Prelude.{◌≡◌, Bool, true, false, ◌↔◌, ◌⊎◌, ℕ, ◌*◌, ◌<◌, Option}
use Rattle.steps.specs.declared.Mv20.{Mv20}
use Rattle.steps.specs.declared.Mv25.{Mv25}
use Rattle.steps.specs.declared.Mv50.{Mv50}
use Rattle.steps.specs.declared.Mv100.{Mv100}
use Rattle.steps.specs.declared.Ma10.{Ma10}
use Rattle.steps.specs.declared.Ma50.{Ma50}
use Rattle.steps.specs.Ranges.{within}
use Rattle.steps.specs.Measure.{mv20_says, mv25_says, mv50_says, mv100_says, ma10_says, ma50_says}
use Rattle.objects.specs.declared.Side.{Side}
use Rattle.objects.specs.declared.Object.{Object}
use Rattle.objects.specs.declared.Object.TheVariants.{Fixed, Pps, Avs}
use Rattle.objects.specs.Bits.{bits}
use Rattle.objects.specs.Layout.{all_fit}
use Rattle.objects.specs.Decode.{kind_bits, not_allowed_for, zero_object, decoded_says}
use Rattle.objects.specs.Encode.{fields_of, encoded_says}
use Rattle.rules.specs.declared.Profile.{Profile}
use Rattle.rules.specs.Building.{built_of}
use Rattle.rules.specs.Placing.{placed_says}
use Rattle.flat.specs.declared.FlatObject.{FlatObject}
use Rattle.flat.specs.Flat.{raised_says}
use Rattle.demands.specs.CallContracts.{Mv20ToMv25Answers, Mv20ToMv50Answers, Mv20ToMv100Answers, Mv25ToMv20Answers, Mv25ToMv50Answers, Mv25ToMv100Answers, Mv50ToMv20Answers, Mv50ToMv25Answers, Mv50ToMv100Answers, Mv100ToMv20Answers, Mv100ToMv25Answers, Mv100ToMv50Answers, Ma10ToMa50Answers, Ma50ToMa10Answers}
use Rattle.demands.specs.CallContracts.{DecodeForAnswers, DecodeAnswers, EncodeAnswers, FixedWordAnswers, PpsWordAnswers, AvsWordAnswers, WordAtAnswers}
use Rattle.demands.specs.FlatContracts.{RaiseAnswers}

-- ---- steps: this refusal has no number

-- a figure in steps of the size `from`, asked for in steps of the size `to`; what is said is whether it is refused, and the figure
pub record Converts (figure from to : ℕ) (said : Bool × ℕ) : Type 0 where
  -- refused exactly where no figure of 16 bits has the same measure
  pub refuses : said.0 ≡ true ↔ ((m : ℕ) → m * to ≡ figure * from → m < 65536 → ⊥)
  pub given : said.0 ≡ false → (said.1 * to ≡ figure * from) × (said.1 < 65536)
  pub empty : said.0 ≡ true → said.1 ≡ 0

-- for each of the conversions, whatever its contract allows; the theorem of one is `mv20_to_mv25_refuses` and so on
pub record Conversions : Type 0 where
  pub mv20_to_mv25 : (v : Mv20) (r : Option Mv25) → Mv20ToMv25Answers v r → Converts v.0 20 25 (mv25_says r)
  pub mv20_to_mv50 : (v : Mv20) (r : Option Mv50) → Mv20ToMv50Answers v r → Converts v.0 20 50 (mv50_says r)
  pub mv20_to_mv100 : (v : Mv20) (r : Option Mv100) → Mv20ToMv100Answers v r → Converts v.0 20 100 (mv100_says r)
  pub mv25_to_mv20 : (v : Mv25) (r : Option Mv20) → Mv25ToMv20Answers v r → Converts v.0 25 20 (mv20_says r)
  pub mv25_to_mv50 : (v : Mv25) (r : Option Mv50) → Mv25ToMv50Answers v r → Converts v.0 25 50 (mv50_says r)
  pub mv25_to_mv100 : (v : Mv25) (r : Option Mv100) → Mv25ToMv100Answers v r → Converts v.0 25 100 (mv100_says r)
  pub mv50_to_mv20 : (v : Mv50) (r : Option Mv20) → Mv50ToMv20Answers v r → Converts v.0 50 20 (mv20_says r)
  pub mv50_to_mv25 : (v : Mv50) (r : Option Mv25) → Mv50ToMv25Answers v r → Converts v.0 50 25 (mv25_says r)
  pub mv50_to_mv100 : (v : Mv50) (r : Option Mv100) → Mv50ToMv100Answers v r → Converts v.0 50 100 (mv100_says r)
  pub mv100_to_mv20 : (v : Mv100) (r : Option Mv20) → Mv100ToMv20Answers v r → Converts v.0 100 20 (mv20_says r)
  pub mv100_to_mv25 : (v : Mv100) (r : Option Mv25) → Mv100ToMv25Answers v r → Converts v.0 100 25 (mv25_says r)
  pub mv100_to_mv50 : (v : Mv100) (r : Option Mv50) → Mv100ToMv50Answers v r → Converts v.0 100 50 (mv50_says r)
  pub ma10_to_ma50 : (v : Ma10) (r : Option Ma50) → Ma10ToMa50Answers v r → Converts v.0 10 50 (ma50_says r)
  pub ma50_to_ma10 : (v : Ma50) (r : Option Ma10) → Ma50ToMa10Answers v r → Converts v.0 50 10 (ma10_says r)

-- ---- one number

-- n exactly where its refusal applies, and 0 exactly where it does not; on a refusal the value is zero
pub record OneRefusal {A : Type 0} (none : A) (n : ℕ) (Applies : Type 0) (said : ℕ × A) : Type 0 where
  pub refuses : said.0 ≡ n ↔ Applies
  pub accepts : said.0 ≡ 0 ↔ (Applies → ⊥)
  pub empty : (said.0 ≡ 0 → ⊥) → said.1 ≡ none

-- ---- objects

-- 12 exactly for the kinds 1101b and 1111b
abbrev pub Decode12 : Type 0
Decode12 =
    (w : ℕ) (r : Option Object) → DecodeAnswers w r
    → OneRefusal zero_object 12 ((bits w 31 30 ≡ 3) × ((bits w 29 28 ≡ 1) ⊎ (bits w 29 28 ≡ 3))) (decoded_says r)

-- of either side: 12 exactly for the kinds that it does not have
abbrev pub DecodeFor12 : Type 0
DecodeFor12 =
    (side : Side) (w : ℕ) (r : Option Object) → DecodeForAnswers side w r
    → OneRefusal zero_object 12 (not_allowed_for side (kind_bits w) ≡ true) (decoded_says r)

-- 7 exactly where a field does not fit its bits
abbrev pub Encode7 : Type 0
Encode7 = (o : Object) (r : Option ℕ) → EncodeAnswers o r → OneRefusal 0 7 (all_fit (fields_of o) ≡ false) (encoded_says r)

abbrev pub FixedWord7 : Type 0
FixedWord7 =
    (flags peak : ℕ) (volts : Mv50) (current : Ma10) (r : Option ℕ) → FixedWordAnswers flags peak volts current r
    → OneRefusal 0 7 (all_fit (fields_of (Fixed flags peak volts current)) ≡ false) (encoded_says r)

abbrev pub PpsWord7 : Type 0
PpsWord7 =
    (limited : ℕ) (max min : Mv100) (current : Ma50) (r : Option ℕ) → PpsWordAnswers limited max min current r
    → OneRefusal 0 7 (all_fit (fields_of (Pps limited max min current)) ≡ false) (encoded_says r)

abbrev pub AvsWord7 : Type 0
AvsWord7 =
    (peak : ℕ) (low high : Ma10) (r : Option ℕ) → AvsWordAnswers peak low high r
    → OneRefusal 0 7 (all_fit (fields_of (Avs peak low high)) ≡ false) (encoded_says r)

-- ---- flat

-- 12 exactly for a kind number above 4
abbrev pub Raise12 : Type 0
Raise12 = (x : FlatObject) (r : Option Object) → RaiseAnswers x r → OneRefusal zero_object 12 (4 < x.kind) (raised_says r)

-- ---- rules

-- 20 exactly where the list that is built has no such place; places count from 1
abbrev pub WordAt20 : Type 0
WordAt20 =
    (p : Profile) (place : ℕ) (r : Option ℕ) → WordAtAnswers p place r
    → OneRefusal 0 20 (within 1 (built_of p).list.count place ≡ false) (placed_says r)
