-- The request for 5 V at no current (`no_current`): every list allows it and every port can hold it. Its figure is 15, and every attached port
-- holds that already.
-- Assumes nothing.
use Rattle.std.specs.Prelude.{Option, Some, None}
use Rattle.objects.specs.declared.Object.{Object}
use mathlib.Core.Path.{◌≡◌, refl, ap, ◌∙◌}
use mathlib.Core.Bool.{Bool, true, false, not, ◌&&◌, false≢true}
use Prim.Native.Nat.{ℕ, ◌*◌, max}
use native.Mathlib.Nat.{mul-zero}
use native.Mathlib.Omega.{arith}
use lib.Dec.{leb, eqb}
use lib.ListN.{get_or}
use borrow.Author.Tests.{le-leb, not-false}
use Rattle.verdicts.specs.Refusals.{verdict, success, NoneApply}
use Rattle.verdicts.proofs.First.{none_append, all_missed}
use Rattle.steps.specs.Units.{mv50}
use Rattle.steps.specs.Rounding.{up_of}
use Rattle.objects.specs.declared.Object.TheVariants.{Fixed, Battery, Variable, Pps, Avs}
use Rattle.objects.specs.Asking.{of_object, of_fixed}
use Rattle.objects.specs.Bits.{bits}
use Rattle.objects.specs.Decode.{decode_of}
use Rattle.lists.specs.declared.Words.{Words}
use Rattle.lists.specs.Shape.{is_fixed_5_V, shape_refusals}
use Rattle.lists.proofs.Shapes.{count_low}
use Rattle.requests.specs.Taking.{position_of}
use Rattle.requests.specs.Answering.{named_refusals, answer_refusals, answer_of}
use Rattle.requests.proofs.Answers.{position_good, answer_verdict}
use Rattle.ports.specs.Requests.{power_in, power_of, held_for}
use Rattle.demands.specs.WrongLibraries.{no_current}

abbrev is_5_V : Option Object → Bool
is_5_V d = of_object (of_fixed (λ v a. eqb (mv50 v) 5000)) d

-- what the request finds at the first word
record AsksNothing (d : Option Object) : Type 0 where
  passes : NoneApply (named_refusals d no_current)
  no_power : (present : ℕ) → power_in d present no_current ≡ 0

asks_nothing : (d : Option Object) → is_5_V d ≡ true → AsksNothing d
unfolding bits up_of
asks_nothing (Some (Fixed f p v a)) e =
    let low : not (leb 0 (a.0 * 10)) ≡ false = ap not (le-leb 0 (a.0 * 10) (omega arith)) in
    record {
      passes = (refl, (refl, (low, (ap (λ (b : Bool). b && true) low, tt))));
      no_power = λ present. ap (λ (n : ℕ). up_of n 500000) (mul-zero (mv50 v));
    }
asks_nothing (Some (Battery x m p)) e = absurd (false≢true e)
asks_nothing (Some (Variable x m a)) e = absurd (false≢true e)
asks_nothing (Some (Pps l x m a)) e = absurd (false≢true e)
asks_nothing (Some (Avs p l h)) e = absurd (false≢true e)
asks_nothing None e = absurd (false≢true e)

module _ (l : Words) (clear : NoneApply (shape_refusals l)) where
  at_first : AsksNothing (decode_of (get_or l.words 0 0))
  unfolding is_fixed_5_V
  at_first = asks_nothing (decode_of (get_or l.words 0 0)) (not-false (is_fixed_5_V (get_or l.words 0 0)) clear.1.0)

  pub no_current_clear : NoneApply (answer_refusals l no_current)
  unfolding bits
  no_current_clear =
      none_append (shape_refusals l) _ clear
      (position_good l.count (position_of no_current) (omega arith) (count_low l.count clear.0), at_first.passes)

  pub no_current_allowed : answer_of l no_current ≡ success
  no_current_allowed = answer_verdict l no_current ∙ all_missed verdict success (answer_refusals l no_current) no_current_clear

  pub no_current_holds_15 : (present : ℕ) → held_for l present no_current ≡ 15
  unfolding bits held_for power_of
  no_current_holds_15 present = ap (max 15) (at_first.no_power present)
