-- A sink object is an object of the source side without what no sink has: so the laws of one word are those of both sides.
-- Assumes nothing.
use Rattle.std.specs.Prelude.{Option, Some, None}
use Rattle.objects.specs.declared.Object.{Object}
use mathlib.Core.Path.{◌≡◌, refl, sym, ap, ◌∙◌}
use mathlib.Core.Bool.{Bool, true, false, cond}
use mathlib.Core.Logic.{⊎_elim}
use Prim.Native.Nat.{ℕ, zero, suc, ◌+◌, ◌<◌}
use native.Mathlib.Omega.{arith}
use Rattle.steps.proofs.Saying.{one_answer}
use Rattle.objects.specs.Bits.{bits}
use Rattle.objects.specs.Layout.{all_fit, joined}
use Rattle.objects.specs.Decode.{kind_bits, not_allowed_for, by_kind, by_augmented, decode_for, allowed_for}
use Rattle.objects.specs.Encode.{fields_of, if_fit, word_of, encode_of}
use Rattle.objects.specs.declared.Side.TheVariants.{Sink}
use Rattle.objects.specs.declared.Object.TheVariants as source
use Rattle.objects.proofs.Taking.{bits_lt}
use Rattle.objects.proofs.Cases.{kind_is, augmented_is, short_or_long}
use Rattle.objects.proofs.Saying.{word_made}
use Rattle.sinks.specs.declared.SinkObject.{SinkObject}
use Rattle.sinks.specs.declared.SinkObject.TheVariants.{Fixed, Battery, Variable, Pps}
use Rattle.sinks.specs.SinkWords.{sink_by, sink_decode_of, sink_decoded_says, zero_sink, sink_word_says, sink_fields_of, sink_encode_of, as_object}
use Rattle.sinks.specs.Promises.{SinkDecodes, SinkEncodes}

-- ---- taken apart

-- without peak current and power limited; there is no AVS
abbrev pub as_sink : Option Object → Option SinkObject
as_sink (Some (source.Fixed f p v a)) = Some (Fixed f v a)
as_sink (Some (source.Battery x m p)) = Some (Battery x m p)
as_sink (Some (source.Variable x m a)) = Some (Variable x m a)
as_sink (Some (source.Pps l x m a)) = Some (Pps x m a)
as_sink (Some (source.Avs p l h)) = None
as_sink None = None

-- by the number of the kind, as `sink_decode_of` is
abbrev by_number : ℕ → ℕ → Option SinkObject
by_number kind w = cond (not_allowed_for Sink kind) None (Some (sink_by kind w))

short_sink : (k w : ℕ) → k < 3 → by_number k w ≡ as_sink (allowed_for Sink (by_kind k w))
short_sink zero w h = refl
short_sink (suc zero) w h = refl
short_sink (suc (suc zero)) w h = refl
short_sink (suc (suc (suc k))) w h = absurd (omega arith)

long_sink : (m w : ℕ) → m < 4 → by_number (12 + m) w ≡ as_sink (allowed_for Sink (by_augmented m w))
long_sink zero w h = refl
long_sink (suc zero) w h = refl
long_sink (suc (suc zero)) w h = refl
long_sink (suc (suc (suc zero))) w h = refl
long_sink (suc (suc (suc (suc m)))) w h = absurd (omega arith)

pub sink_decode_is : (w : ℕ) → sink_decode_of w ≡ as_sink (decode_for Sink w)
unfolding sink_decode_of
sink_decode_is w =
    ⊎_elim
    (λ x. ap (λ (n : ℕ). by_number n w) x.0 ∙ short_sink (bits w 31 30) w x.1 ∙ sym (ap taken (kind_is w (bits w 31 30) refl)))
    (λ x.
    ap (λ (n : ℕ). by_number n w) x.1 ∙ long_sink (bits w 29 28) w (bits_lt w 29 28) ∙ sym (ap taken (augmented_is w (bits w 29 28) x.0 refl)))
    (short_or_long w)
  where
    taken : Option Object → Option SinkObject
    taken d = as_sink (allowed_for Sink d)

-- what an answer says tells the answers apart
pub sink_decoded_one : (r s : Option SinkObject) → sink_decoded_says r ≡ sink_decoded_says s → r ≡ s
sink_decoded_one = one_answer sink_decoded_says back same where
  back : ℕ × SinkObject → Option SinkObject
  back (zero, o) = Some o
  back (suc n, o) = None

  same : (r : Option SinkObject) → back (sink_decoded_says r) ≡ r
  same (Some o) = refl
  same None = refl

pub sink_word_says_lem : (w : ℕ) → sink_word_says w ≡ sink_decoded_says (sink_decode_of w)
unfolding sink_decode_of
sink_word_says_lem w = go (not_allowed_for Sink (kind_bits w)) where
  go : (b : Bool) → cond b (12, zero_sink) (0, sink_by (kind_bits w) w) ≡ sink_decoded_says (cond b None (Some (sink_by (kind_bits w) w)))
  go true = refl
  go false = refl

pub sink_decoded_is : (w : ℕ) (r : Option SinkObject) → SinkDecodes w r → r ≡ sink_decode_of w
sink_decoded_is w r e = sink_decoded_one r (sink_decode_of w) (e ∙ sink_word_says_lem w)

-- ---- put together

-- bits that no sink has are bits of zero
pub as_fields : (o : SinkObject) → sink_encode_of o ≡ encode_of (as_object o)
unfolding word_of
as_fields (Fixed f v a) =
    let e : joined (sink_fields_of (Fixed f v a)) ≡ joined (fields_of (as_object (Fixed f v a))) = omega arith in
    ap (if_fit (all_fit (sink_fields_of (Fixed f v a)))) e
as_fields (Battery x m p) = refl
as_fields (Variable x m a) = refl
as_fields (Pps x m a) =
    let e : joined (sink_fields_of (Pps x m a)) ≡ joined (fields_of (as_object (Pps x m a))) = omega arith in
    ap (if_fit (all_fit (sink_fields_of (Pps x m a)))) e

pub sink_encoded_is : (o : SinkObject) (r : Option ℕ) → SinkEncodes o r → r ≡ sink_encode_of o
sink_encoded_is o r e = word_made (sink_fields_of o) r e

-- ---- both ways

pub as_sink_back : (o : SinkObject) → as_sink (allowed_for Sink (Some (as_object o))) ≡ Some o
as_sink_back (Fixed f v a) = refl
as_sink_back (Battery x m p) = refl
as_sink_back (Variable x m a) = refl
as_sink_back (Pps x m a) = refl
