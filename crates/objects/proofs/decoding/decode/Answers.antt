-- `objects::decode` meets its contract: each arm of the `match` says which case of `decode_of` holds.
-- Assumes nothing.
use Rattle.std.specs.Prelude.{Option, Some}
use Rattle.objects.specs.declared.Object.{Object}
use mathlib.Core.Path.{◌≡◌, ◌∙◌, sym, ap}
use Prim.Native.Nat.{ℕ, ◌+◌}
use native.Mathlib.Omega.{arith}
use Rattle.objects.specs.Bits.{bits}
use Rattle.objects.specs.Decode.{by_augmented, decode_of, decoded_says, word_says}
use Rattle.objects.specs.declared.Side.TheVariants.{Source}
use Rattle.objects.proofs.Saying.{word_says_lem}
use Rattle.objects.proofs.Taking.{taken, bits_lt}
use Rattle.objects.proofs.Cases.{kind_is, augmented_is, last_two}
use Rattle.objects.proofs.decoding.decode.Goals as goal
use Rattle.objects.proofs.decoding.decode.Goals.{In_default}

-- past the first three kinds the kind is 11b
is_augmented : (c : In_default) → bits c.args.w 31 30 ≡ 3
is_augmented c =
    let w = c.args.w in
    omega (arith, bits_lt w 31 30, taken w 31 30)

-- an answer that is the definition's says what is to be said
says : (w : ℕ) (r : Option Object) → r ≡ decode_of w → decoded_says r ≡ word_says w
says w r e = ap decoded_says e ∙ sym (word_says_lem Source w)

-- 11b with its last two bits
augmented : (c : In_default) (m : ℕ) → bits c.args.w 31 28 ≡ 12 + m → decode_of c.args.w ≡ by_augmented m c.args.w
augmented c m e =
    let w = c.args.w in
    augmented_is w m (is_augmented c) (last_two w m (is_augmented c) e)

pub returns-in-0 : goal.returns-in-0
returns-in-0 c = says _ _ (ap Some c.fixed.ensures ∙ sym (kind_is _ 0 (sym (taken _ 31 30) ∙ c.in-0.is)))

pub returns-in-1 : goal.returns-in-1
returns-in-1 c = says _ _ (ap Some c.battery.ensures ∙ sym (kind_is _ 1 (sym (taken _ 31 30) ∙ c.in-1.is)))

pub returns-in-2 : goal.returns-in-2
returns-in-2 c = says _ _ (ap Some c.variable.ensures ∙ sym (kind_is _ 2 (sym (taken _ 31 30) ∙ c.in-2.is)))

pub returns-in-12 : goal.returns-in-12
returns-in-12 c = says _ _ (ap Some c.pps.ensures ∙ sym (augmented c.before.before 0 (sym (taken _ 31 28) ∙ c.in-12.is)))

pub returns-in-13 : goal.returns-in-13
returns-in-13 c = says _ _ (sym (augmented c.before 1 (sym (taken _ 31 28) ∙ c.in-13.is)))

pub returns-in-14 : goal.returns-in-14
returns-in-14 c = says _ _ (ap Some c.avs.ensures ∙ sym (augmented c.before.before 2 (sym (taken _ 31 28) ∙ c.in-14.is)))

pub returns-in-15 : goal.returns-in-15
returns-in-15 c = says _ _ (sym (augmented c.before 3 (sym (taken _ 31 28) ∙ c.in-15.is)))
