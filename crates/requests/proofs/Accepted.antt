-- What an accepted request says, for those who set a supply by it or reckon its power.
-- Assumes nothing.
use Rattle.std.specs.Prelude.{Option, Some}
use mathlib.Core.Path.{◌≡◌, refl, ap, subst}
use mathlib.Core.Bool.{Bool, true, false, ◌||◌}
use Prim.Native.Nat.{ℕ, ◌≤◌}
use lib.Dec.{ltb}
use borrow.Author.Tests.{ltb-false, leb-true, not-false}
use Rattle.verdicts.specs.declared.Verdict.{Verdict}
use Rattle.verdicts.specs.Refusals.{verdict, success, NoneApply}
use Rattle.verdicts.proofs.First.{none_applied, none_left, none_right, all_missed}
use Rattle.objects.specs.declared.Object.{Object}
use Rattle.lists.specs.declared.Words.{Words}
use Rattle.lists.specs.Shape.{shape_for, shape_refusals, shape_of}
use Rattle.lists.specs.Reading.{object_of}
use Rattle.requests.specs.Taking.{position_of, mismatch_of, request_of}
use Rattle.requests.specs.Limits.{volts_of, operating_of, advertised_at, in_range, whole_step, maximum_too_large}
use Rattle.requests.specs.Judging.{refusals_of}
use Rattle.requests.specs.Answering.{named_by, named_refusals, answer_refusals, answer_of}
use Rattle.requests.proofs.Answers.{answer_numbered, names_object}

-- an accepted request names an object of a list whose shape passes and keeps to the object's limits
pub record Accepted (l : Words) (w : ℕ) : Type 0 where
  pub shape_passes : shape_of l ≡ success
  pub from_1 : 1 ≤ position_of w
  pub to_count : position_of w ≤ l.count
  pub object : Object
  pub names : named_by l w ≡ Some object
  pub whole : whole_step object (volts_of (request_of object w)) ≡ true
  pub in_range : in_range object (volts_of (request_of object w)) ≡ true
  pub at_most : operating_of (request_of object w) ≤ advertised_at object (volts_of (request_of object w))
  pub maximum_allowed : maximum_too_large object (mismatch_of w) (request_of object w) ≡ false

or_false : (a b : Bool) → (a || b) ≡ false → (a ≡ false) × (b ≡ false)
or_false true b e = let z : true ≡ false = e in ((cc), (cc))
or_false false b e = (refl, e)

module _ (l : Words) (w : ℕ) (e : answer_of l w ≡ success) where
  none : NoneApply (answer_refusals l w)
  unfolding answer_of
  none = none_applied (answer_refusals l w) (answer_numbered l w) (ap (λ (v : Verdict). v.number) e)

  shaped : shape_of l ≡ success
  unfolding shape_for
  shaped = all_missed verdict success (shape_refusals l) (none_left (shape_refusals l) _ none)

  pub accepted : Accepted l w
  accepted =
      let rest = none_right (shape_refusals l) _ none in
      let place = or_false (ltb (position_of w) 1) (ltb l.count (position_of w)) rest.0 in
      let low = ltb-false (position_of w) 1 place.0 in
      let high = ltb-false l.count (position_of w) place.1 in
      let o = object_of (named_by l w) in
      let n = names_object l w (ap (λ (v : Verdict). v.number) shaped) low high in
      let own : NoneApply (refusals_of o w) = subst (λ (d : Option Object). NoneApply (named_refusals d w)) n rest.1 in
      record {
        shape_passes = shaped;
        from_1 = low;
        to_count = high;
        object = o;
        names = n;
        whole = not-false _ own.0;
        in_range = not-false _ own.1.0;
        at_most = leb-true _ _ (not-false _ own.1.1.0);
        maximum_allowed = own.1.1.1.0;
      }
