-- What an answer says tells the answers apart, so the promises of one word give the answer itself.
-- Assumes nothing.
use Rattle.std.specs.Prelude.{Option, Some, None}
use mathlib.Core.Path.{◌≡◌, refl, sym, ap, ap₂, ◌∙◌}
use mathlib.Core.Bool.{Bool, true, false, cond}
use mathlib.Core.List.{List}
use mathlib.Core.Logic.{⊎_elim}
use Prim.Native.Nat.{ℕ, zero, suc, ◌+◌, ◌<◌}
use native.Mathlib.Omega.{arith}
use Rattle.steps.proofs.Saying.{one_answer}
use Rattle.objects.specs.declared.Side.{Side}
use Rattle.objects.specs.declared.Side.TheVariants.{Source, Sink}
use Rattle.objects.specs.declared.Object.{Object}
use Rattle.objects.specs.Bits.{bits}
use Rattle.objects.specs.Layout.{Field, all_fit, joined}
use Rattle.objects.specs.Decode.{by_augmented, by_kind, decode_of, allowed_for, decode_for, zero_object, decoded_says, not_allowed_for, word_says_for}
use Rattle.objects.specs.Encode.{fields_of, if_fit, word_of, encode_of, encoded_says, fields_say, object_says}
use Rattle.objects.specs.Promises.{Decodes, DecodesFor, Encodes}
use Rattle.objects.proofs.Taking.{bits_lt}
use Rattle.objects.proofs.Cases.{kind_is, augmented_is, short_or_long}

pub decoded_one : (r s : Option Object) → decoded_says r ≡ decoded_says s → r ≡ s
decoded_one = one_answer decoded_says back same where
  back : ℕ × Object → Option Object
  back (zero, o) = Some o
  back (suc n, o) = None

  same : (r : Option Object) → back (decoded_says r) ≡ r
  same (Some o) = refl
  same None = refl

pub encoded_one : (r s : Option ℕ) → encoded_says r ≡ encoded_says s → r ≡ s
encoded_one = one_answer encoded_says back same where
  back : ℕ × ℕ → Option ℕ
  back (zero, w) = Some w
  back (suc n, w) = None

  same : (r : Option ℕ) → back (encoded_says r) ≡ r
  same (Some w) = refl
  same None = refl

-- ---- what is to be said is what the definition's answer says

-- by the number of the kind, for an answer
abbrev said_by : Side → ℕ → Option Object → ℕ × Object
said_by side kind d = cond (not_allowed_for side kind) (12, zero_object) (0, (decoded_says d).1)

short_says : (side : Side) (k w : ℕ) → k < 3 → said_by side k (by_kind k w) ≡ decoded_says (allowed_for side (by_kind k w))
short_says Source zero w h = refl
short_says Source (suc zero) w h = refl
short_says Source (suc (suc zero)) w h = refl
short_says Sink zero w h = refl
short_says Sink (suc zero) w h = refl
short_says Sink (suc (suc zero)) w h = refl
short_says side (suc (suc (suc k))) w h = absurd (omega arith)

long_says : (side : Side) (m w : ℕ) → m < 4 → said_by side (12 + m) (by_augmented m w) ≡ decoded_says (allowed_for side (by_augmented m w))
long_says Source zero w h = refl
long_says Source (suc zero) w h = refl
long_says Source (suc (suc zero)) w h = refl
long_says Source (suc (suc (suc zero))) w h = refl
long_says Sink zero w h = refl
long_says Sink (suc zero) w h = refl
long_says Sink (suc (suc zero)) w h = refl
long_says Sink (suc (suc (suc zero))) w h = refl
long_says side (suc (suc (suc (suc m)))) w h = absurd (omega arith)

pub word_says_lem : (side : Side) (w : ℕ) → word_says_for side w ≡ decoded_says (decode_for side w)
word_says_lem side w =
    ⊎_elim
    (λ x.
    let d = kind_is w (bits w 31 30) refl in
    ap₂ (said_by side) x.0 d ∙ short_says side (bits w 31 30) w x.1 ∙ sym (ap (λ (e : Option Object). decoded_says (allowed_for side e)) d))
    (λ x.
    let d = augmented_is w (bits w 29 28) x.0 refl in
    ap₂ (said_by side) x.1 d ∙ long_says side (bits w 29 28) w (bits_lt w 29 28) ∙ sym (ap (λ (e : Option Object). decoded_says (allowed_for side e)) d))
    (short_or_long w)

pub fields_say_lem : (fs : List Field) → fields_say fs ≡ encoded_says (word_of fs)
unfolding word_of
fields_say_lem fs = go (all_fit fs) where
  go : (b : Bool) → cond b (0, joined fs) (7, 0) ≡ encoded_says (if_fit b (joined fs))
  go true = refl
  go false = refl

pub object_says_lem : (o : Object) → object_says o ≡ encoded_says (encode_of o)
object_says_lem o = fields_say_lem (fields_of o)

-- ---- so the answer is the definition's

pub decoded_for : (side : Side) (w : ℕ) (r : Option Object) → DecodesFor side w r → r ≡ decode_for side w
decoded_for side w r e = decoded_one r (decode_for side w) (e ∙ word_says_lem side w)

pub decoded_is : (w : ℕ) (r : Option Object) → Decodes w r → r ≡ decode_of w
decoded_is w r e = decoded_for Source w r e

-- whatever the layout
pub word_made : (fs : List Field) (r : Option ℕ) → encoded_says r ≡ fields_say fs → r ≡ word_of fs
word_made fs r e = encoded_one r (word_of fs) (e ∙ fields_say_lem fs)

pub encoded_is : (o : Object) (r : Option ℕ) → Encodes o r → r ≡ encode_of o
encoded_is o r e = word_made (fields_of o) r e
