-- What is written for a flat object of no kind: 7 does not apply to it, it is not fixed 5 V, and 12 applies to it and to nothing else.
-- Assumes nothing.
use Rattle.std.specs.Prelude.{Option, Some, None}
use mathlib.Core.Path.{◌≡◌, refl, sym, ap, ◌∙◌}
use mathlib.Core.Bool.{false}
use mathlib.Core.Logic.{◌↔◌}
use Prim.Native.Nat.{ℕ, ◌<◌}
use native.Mathlib.Omega.{arith}
use Rattle.objects.specs.Bits.{bits}
use Rattle.objects.specs.Layout.{all_fit}
use Rattle.objects.specs.declared.Side.{Side}
use Rattle.objects.specs.declared.Side.TheVariants.{Source, Sink}
use Rattle.objects.specs.Decode.{decode_of, decode_for, allowed_for, decoded_number}
use Rattle.objects.specs.Encode.{fields_of, encode_of, encoded_number}
use Rattle.objects.specs.declared.Object.{Object}
use Rattle.objects.proofs.Numbers.{encode_refuses}
use Rattle.objects.proofs.RoundTrip.{encode_decode}
use Rattle.lists.specs.Shape.{is_fixed_5_V}
use Rattle.lists.specs.Writing.{word_in}
use Rattle.flat.specs.declared.FlatObject.{FlatObject}
use Rattle.flat.specs.Flat.{raised_for, last_kind}
use Rattle.flat.specs.Writing.{encoded_raised}
use Rattle.flat.proofs.BothWays.{side_has, raised_number, raise_refuses}

-- the word that stands for it is of a kind that neither side has
pub no_kind : (side : Side) → decode_for side 0xF0000000 ≡ None
unfolding decode_of bits
no_kind Source = refl
no_kind Sink = refl

-- a flat object of a known kind with a field too wide
pub record TooWideOf (r : Option Object) : Type 0 where
  pub object : Object
  pub known : r ≡ Some object
  pub wide : all_fit (fields_of object) ≡ false

-- 7 applies exactly to such a one
pub wide_of_a_kind : (r : Option Object) → encoded_number (encoded_raised r) ≡ 7 ↔ TooWideOf r
wide_of_a_kind (Some o) = (
  (λ e. record { object = o; known = refl; wide = (encode_refuses o).0 e }),
  (λ t. ap (λ (r : Option Object). encoded_number (encoded_raised r)) t.known ∙ (encode_refuses t.object).1 t.wide),
)
wide_of_a_kind None = (
  (λ e. let z : ◌≡◌ {A = ℕ} 0 7 = e in absurd (omega arith)),
  (λ t. let z : ◌≡◌ {A = ℕ} 12 0 = ap raised_number t.known in absurd (omega arith)),
)

-- the word of an object decodes to an object, and so does the zero that stands for one that is too wide
zero_decodes : (side : Side) → decoded_number (decode_for side 0) ≡ 0
unfolding decode_of bits
zero_decodes Source = refl
zero_decodes Sink = refl

word_known : (side : Side) (o : Object) → allowed_for side (Some o) ≡ Some o → decoded_number (decode_for side (word_in (encode_of o))) ≡ 0
word_known side o has = go (encode_of o) refl where
  go : (e : Option ℕ) → encode_of o ≡ e → decoded_number (decode_for side (word_in e)) ≡ 0
  go (Some w) q = ap (λ (d : Option Object). decoded_number (allowed_for side d)) (encode_decode o w q) ∙ ap decoded_number has
  go None q = zero_decodes side

word_number : (side : Side) (x : FlatObject) → decoded_number (decode_for side (word_in (encoded_raised (raised_for side x)))) ≡ raised_number (raised_for side x)
word_number side x = go (raised_for side x) refl where
  go : (r : Option Object) → raised_for side x ≡ r → decoded_number (decode_for side (word_in (encoded_raised r))) ≡ raised_number r
  go (Some o) q = word_known side o (side_has side x o q)
  go None q = ap decoded_number (no_kind side)

-- 12 applies to the word exactly where the kind number is none that the side has
pub twelve_of_no_kind : (side : Side) (x : FlatObject) → decoded_number (decode_for side (word_in (encoded_raised (raised_for side x)))) ≡ 12 ↔ (last_kind side < x.kind)
twelve_of_no_kind side x = (
  (λ e. (raise_refuses side x).0 (sym (word_number side x) ∙ e)),
  (λ h. word_number side x ∙ (raise_refuses side x).1 h),
)

-- 11 applies where the first is of no kind
pub no_kind_not_5_V : is_fixed_5_V 0xF0000000 ≡ false
unfolding is_fixed_5_V decode_of bits
no_kind_not_5_V = refl

pub unknown_is : (r : Option Object) → raised_number r ≡ 12 → r ≡ None
unknown_is (Some o) e = let z : ◌≡◌ {A = ℕ} 0 12 = e in absurd (omega arith)
unknown_is None e = refl

pub eleven_of_no_kind : (side : Side) (x : FlatObject) → last_kind side < x.kind → is_fixed_5_V (word_in (encoded_raised (raised_for side x))) ≡ false
eleven_of_no_kind side x h =
    ap (λ (r : Option Object). is_fixed_5_V (word_in (encoded_raised r))) (unknown_is (raised_for side x) ((raise_refuses side x).1 h)) ∙ no_kind_not_5_V
