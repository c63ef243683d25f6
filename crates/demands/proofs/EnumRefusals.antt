-- Proves the claims of specs/EnumRefusals.antt.
-- Assumes nothing.
use Rattle.std.specs.Prelude.{Option, Some, None}
use Rattle.objects.specs.declared.Object.{Object}
use mathlib.Core.Path.{◌≡◌, refl, sym, ◌∙◌, subst}
use mathlib.Core.Bool.{Bool, true, false, true≢false, cond}
use mathlib.Core.Logic.{◌↔◌, ◌⊎◌, inl, inr, ⊎_elim}
use Prim.Native.Nat.{ℕ, ◌-◌, ◌<◌}
use native.Mathlib.Omega.{arith}
use mathlib.Core.List.{List}
use lib.ListN.{get_or}
use Rattle.steps.specs.declared.Mv20.{Mv20}
use Rattle.steps.specs.declared.Mv25.{Mv25}
use Rattle.steps.specs.declared.Mv50.{Mv50}
use Rattle.steps.specs.declared.Mv100.{Mv100}
use Rattle.steps.specs.declared.Ma10.{Ma10}
use Rattle.steps.specs.declared.Ma50.{Ma50}
use Rattle.steps.specs.Ranges.{within}
use Rattle.steps.specs.Measure.{converted_of, mv20_says, mv25_says, mv50_says, mv100_says, ma10_says, ma50_says}
use Rattle.steps.proofs.ConversionLaws.{exactly_only, lost_only, given_or_refused}
use Rattle.objects.specs.declared.Side.TheVariants.{Source}
use Rattle.objects.specs.declared.Object.TheVariants.{Fixed, Pps, Avs}
use Rattle.objects.specs.Bits.{bits}
use Rattle.objects.specs.Layout.{Field, all_fit}
use Rattle.objects.specs.Decode.{kind_bits, not_allowed_for, zero_object, decode_of, decoded_says}
use Rattle.objects.specs.Encode.{fields_of, word_of, encoded_says, fields_say}
use Rattle.objects.proofs.Numbers.{decode_refuses, fields_refused}
use Rattle.objects.proofs.Saying.{word_says_lem, fields_say_lem}
use Rattle.lists.specs.declared.Words.{Words}
use Rattle.rules.specs.Building.{built_of}
use Rattle.rules.specs.Placing.{placed_says, placed_in}
use Rattle.rules.proofs.Saying.{place_says_lem}
use Rattle.flat.specs.Flat.{raised_of, raised_says}
use Rattle.flat.proofs.BothWays.{raise_refuses}
use Rattle.flat.proofs.Saying.{flat_says_lem}
use Rattle.demands.specs.CallContracts.{Mv20ToMv25Answers, Mv20ToMv50Answers, Mv20ToMv100Answers, Mv25ToMv20Answers, Mv25ToMv50Answers, Mv25ToMv100Answers, Mv50ToMv20Answers, Mv50ToMv25Answers, Mv50ToMv100Answers, Mv100ToMv20Answers, Mv100ToMv25Answers, Mv100ToMv50Answers, Ma10ToMa50Answers, Ma50ToMa10Answers}
use Rattle.demands.specs.EnumRefusals.{Converts, Conversions, OneRefusal, DecodeFor12, Decode12, Encode7, FixedWord7, PpsWord7, AvsWord7, Raise12, WordAt20}

-- ---- steps

converts : (n a b : ℕ) → 0 < b → (said : Bool × ℕ) → said ≡ converted_of n a b → Converts n a b said
converts n a b h said e = subst (Converts n a b) (sym e) (⊎_elim exact refused (given_or_refused n a b)) where
  exact : {m : ℕ} → converted_of n a b ≡ (false, m) → Converts n a b (converted_of n a b)
  exact {m} q =
      let x = exactly_only n a b m q in
      subst (Converts n a b) (sym q) (record {
        refuses = ((λ z. absurd (true≢false (sym z))), (λ f. absurd (f m x.0 x.1)));
        given = λ z. x;
        empty = λ z. absurd (true≢false (sym z));
      })

  refused : converted_of n a b ≡ (true, 0) → Converts n a b (converted_of n a b)
  refused q = subst (Converts n a b) (sym q) (record {
    refuses = ((λ z. lost_only n a b h q), (λ f. refl));
    given = λ z. absurd (true≢false z);
    empty = λ z. refl;
  })

pub mv20_to_mv25_refuses : (v : Mv20) (r : Option Mv25) → Mv20ToMv25Answers v r → Converts v.0 20 25 (mv25_says r)
mv20_to_mv25_refuses v r e = converts v.0 20 25 (omega arith) (mv25_says r) e

pub mv20_to_mv50_refuses : (v : Mv20) (r : Option Mv50) → Mv20ToMv50Answers v r → Converts v.0 20 50 (mv50_says r)
mv20_to_mv50_refuses v r e = converts v.0 20 50 (omega arith) (mv50_says r) e

pub mv20_to_mv100_refuses : (v : Mv20) (r : Option Mv100) → Mv20ToMv100Answers v r → Converts v.0 20 100 (mv100_says r)
mv20_to_mv100_refuses v r e = converts v.0 20 100 (omega arith) (mv100_says r) e

pub mv25_to_mv20_refuses : (v : Mv25) (r : Option Mv20) → Mv25ToMv20Answers v r → Converts v.0 25 20 (mv20_says r)
mv25_to_mv20_refuses v r e = converts v.0 25 20 (omega arith) (mv20_says r) e

pub mv25_to_mv50_refuses : (v : Mv25) (r : Option Mv50) → Mv25ToMv50Answers v r → Converts v.0 25 50 (mv50_says r)
mv25_to_mv50_refuses v r e = converts v.0 25 50 (omega arith) (mv50_says r) e

pub mv25_to_mv100_refuses : (v : Mv25) (r : Option Mv100) → Mv25ToMv100Answers v r → Converts v.0 25 100 (mv100_says r)
mv25_to_mv100_refuses v r e = converts v.0 25 100 (omega arith) (mv100_says r) e

pub mv50_to_mv20_refuses : (v : Mv50) (r : Option Mv20) → Mv50ToMv20Answers v r → Converts v.0 50 20 (mv20_says r)
mv50_to_mv20_refuses v r e = converts v.0 50 20 (omega arith) (mv20_says r) e

pub mv50_to_mv25_refuses : (v : Mv50) (r : Option Mv25) → Mv50ToMv25Answers v r → Converts v.0 50 25 (mv25_says r)
mv50_to_mv25_refuses v r e = converts v.0 50 25 (omega arith) (mv25_says r) e

pub mv50_to_mv100_refuses : (v : Mv50) (r : Option Mv100) → Mv50ToMv100Answers v r → Converts v.0 50 100 (mv100_says r)
mv50_to_mv100_refuses v r e = converts v.0 50 100 (omega arith) (mv100_says r) e

pub mv100_to_mv20_refuses : (v : Mv100) (r : Option Mv20) → Mv100ToMv20Answers v r → Converts v.0 100 20 (mv20_says r)
mv100_to_mv20_refuses v r e = converts v.0 100 20 (omega arith) (mv20_says r) e

pub mv100_to_mv25_refuses : (v : Mv100) (r : Option Mv25) → Mv100ToMv25Answers v r → Converts v.0 100 25 (mv25_says r)
mv100_to_mv25_refuses v r e = converts v.0 100 25 (omega arith) (mv25_says r) e

pub mv100_to_mv50_refuses : (v : Mv100) (r : Option Mv50) → Mv100ToMv50Answers v r → Converts v.0 100 50 (mv50_says r)
mv100_to_mv50_refuses v r e = converts v.0 100 50 (omega arith) (mv50_says r) e

pub ma10_to_ma50_refuses : (v : Ma10) (r : Option Ma50) → Ma10ToMa50Answers v r → Converts v.0 10 50 (ma50_says r)
ma10_to_ma50_refuses v r e = converts v.0 10 50 (omega arith) (ma50_says r) e

pub ma50_to_ma10_refuses : (v : Ma50) (r : Option Ma10) → Ma50ToMa10Answers v r → Converts v.0 50 10 (ma10_says r)
ma50_to_ma10_refuses v r e = converts v.0 50 10 (omega arith) (ma10_says r) e

pub conversions : Conversions
conversions = record {
  mv20_to_mv25 = mv20_to_mv25_refuses;
  mv20_to_mv50 = mv20_to_mv50_refuses;
  mv20_to_mv100 = mv20_to_mv100_refuses;
  mv25_to_mv20 = mv25_to_mv20_refuses;
  mv25_to_mv50 = mv25_to_mv50_refuses;
  mv25_to_mv100 = mv25_to_mv100_refuses;
  mv50_to_mv20 = mv50_to_mv20_refuses;
  mv50_to_mv25 = mv50_to_mv25_refuses;
  mv50_to_mv100 = mv50_to_mv100_refuses;
  mv100_to_mv20 = mv100_to_mv20_refuses;
  mv100_to_mv25 = mv100_to_mv25_refuses;
  mv100_to_mv50 = mv100_to_mv50_refuses;
  ma10_to_ma50 = ma10_to_ma50_refuses;
  ma50_to_ma10 = ma50_to_ma10_refuses;
}

-- ---- one number

-- an answer that is accepted, or refused with that number and no value
abbrev TwoWays : {A : Type 0} → A → ℕ → ℕ × A → Type 0
TwoWays none n said = (said.0 ≡ 0) ⊎ ((said.0 ≡ n) × (said.1 ≡ none))

one_refusal : {A : Type 0} (none : A) (n : ℕ) (Applies : Type 0) (said : ℕ × A) → (n ≡ 0 → ⊥) → TwoWays none n said → (said.0 ≡ n ↔ Applies)
    → OneRefusal none n Applies said
one_refusal none n Applies said f two exact = record {
  refuses = exact;
  accepts = ((λ e a. f (sym (exact.1 a) ∙ e)), (λ g. ⊎_elim (λ e. e) (λ x. absurd (g (exact.0 x.0))) two));
  empty = λ g. ⊎_elim (λ e. absurd (g e)) (λ x. x.1) two;
}

-- ---- objects

decoded_two : (d : Option Object) → TwoWays zero_object 12 (decoded_says d)
decoded_two (Some o) = inl refl
decoded_two None = inr (refl, refl)

encoded_two : (e : Option ℕ) → TwoWays 0 7 (encoded_says e)
encoded_two (Some w) = inl refl
encoded_two None = inr (refl, refl)

-- an answer by a test: refused where it is true
pub refused_where : {A : Type 0} (none given : A) (n : ℕ) → (n ≡ 0 → ⊥) → (b : Bool) → OneRefusal none n (b ≡ true) (cond b (n, none) (0, given))
refused_where none given n f true = one_refusal none n _ _ f (inr (refl, refl)) ((λ e. refl), (λ e. refl))
refused_where none given n f false = one_refusal none n _ _ f (inl refl) ((λ e. absurd (f (sym e))), (λ e. absurd (true≢false (sym e))))

pub decode_for_12 : DecodeFor12
decode_for_12 side w r e = subst (OneRefusal zero_object 12 (not_allowed_for side (kind_bits w) ≡ true)) (sym e) (refused_where zero_object _ 12 (λ z. omega (arith, z)) (not_allowed_for side (kind_bits w)))

pub decode_12 : Decode12
decode_12 w r e =
    subst (OneRefusal zero_object 12 ((bits w 31 30 ≡ 3) × ((bits w 29 28 ≡ 1) ⊎ (bits w 29 28 ≡ 3)))) (sym (e ∙ word_says_lem Source w))
    (one_refusal zero_object 12 _ (decoded_says (decode_of w)) (λ z. omega (arith, z)) (decoded_two (decode_of w)) (decode_refuses w))

-- whatever the layout
pub fields_7 : (fs : List Field) (r : Option ℕ) → encoded_says r ≡ fields_say fs → OneRefusal 0 7 (all_fit fs ≡ false) (encoded_says r)
fields_7 fs r e =
    subst (OneRefusal 0 7 (all_fit fs ≡ false)) (sym (e ∙ fields_say_lem fs))
    (one_refusal 0 7 _ (encoded_says (word_of fs)) (λ z. omega (arith, z)) (encoded_two (word_of fs)) (fields_refused fs))

pub encode_7 : Encode7
encode_7 o r e = fields_7 (fields_of o) r e

pub fixed_word_7 : FixedWord7
fixed_word_7 flags peak volts current r e = encode_7 (Fixed flags peak volts current) r e

pub pps_word_7 : PpsWord7
pps_word_7 limited max min current r e = encode_7 (Pps limited max min current) r e

pub avs_word_7 : AvsWord7
avs_word_7 peak low high r e = encode_7 (Avs peak low high) r e

-- ---- flat

raised_two : (r : Option Object) → TwoWays zero_object 12 (raised_says r)
raised_two (Some o) = inl refl
raised_two None = inr (refl, refl)

pub raise_12 : Raise12
raise_12 x r e =
    subst (OneRefusal zero_object 12 (4 < x.kind)) (sym (e ∙ flat_says_lem x))
    (one_refusal zero_object 12 _ (raised_says (raised_of x)) (λ z. omega (arith, z)) (raised_two (raised_of x)) (raise_refuses Source x))

-- ---- rules

placed_two : (r : Option ℕ) → TwoWays 0 20 (placed_says r)
placed_two (Some w) = inl refl
placed_two None = inr (refl, refl)

outside : (l : Words) (place : ℕ) → (placed_says (placed_in l place)).0 ≡ 20 ↔ (within 1 l.count place ≡ false)
unfolding placed_in
outside l place = go (within 1 l.count place) (get_or l.words (place - 1) 0) where
  go : (b : Bool) (w : ℕ) → (placed_says (cond b (Some w) None)).0 ≡ 20 ↔ (b ≡ false)
  go true w = ((λ e. absurd (omega (arith, e))), (λ e. absurd (true≢false e)))
  go false w = ((λ e. refl), (λ e. refl))

pub word_at_20 : WordAt20
word_at_20 p place r e =
    let l = (built_of p).list in
    subst (OneRefusal 0 20 (within 1 l.count place ≡ false)) (sym (e ∙ place_says_lem l place))
    (one_refusal 0 20 _ (placed_says (placed_in l place)) (λ z. omega (arith, z)) (placed_two (placed_in l place)) (outside l place))
