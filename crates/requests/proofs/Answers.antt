-- The cases of the answer to a request, in order, and that every refusal has a number.
-- Assumes nothing.
use Rattle.std.specs.Prelude.{Option, Some, None, Result, Ok, Err}
use mathlib.Core.Path.{◌≡◌, refl, sym, ap, ◌∙◌}
use mathlib.Core.Bool.{true, false}
use Prim.Native.Nat.{ℕ, ◌-◌, ◌<◌, ◌≤◌}
use native.Mathlib.Omega.{arith}
use lib.Dec.{ltb}
use borrow.Author.Tests.{lt-ltb, le-ltb, ltb-false}
use Rattle.verdicts.proofs.Bools.{either_false}
use Rattle.verdicts.specs.declared.Verdict.{Verdict}
use Rattle.verdicts.specs.Refusals.{first_of, err, passed_by, passed_of, verdict, success, verdict_of}
use Rattle.verdicts.proofs.First.{hit, miss, onward, numbered, numbered_append}
use Rattle.verdicts.proofs.Results.{went_on, stopped_as, stopped_not_0}
use Rattle.objects.specs.declared.Side.TheVariants.{Source}
use Rattle.objects.specs.declared.Object.{Object}
use Rattle.lists.specs.declared.Words.{Words}
use Rattle.lists.specs.Shape.{shape_refusals, shape_of}
use Rattle.lists.specs.Reading.{object_of}
use Rattle.lists.proofs.Shapes.{shape_numbered, none_of, word_passes, as_shape_refused, as_shape_passes, count_high}
use Rattle.lists.proofs.Judging.{has_object}
use Rattle.requests.specs.Taking.{position_of}
use Rattle.requests.specs.Judging.{refusals_of, judged_of}
use Rattle.requests.specs.Answering.{bad_position, named_by, named_refusals, answer_refusals, answer_of}

-- ---- the position

pub position_zero : (count position : ℕ) → position < 1 → bad_position count position ≡ true
position_zero count position h = rw (lt-ltb position 1 h)

pub position_past : (count position : ℕ) → 1 ≤ position → count < position → bad_position count position ≡ true
position_past count position h k = rw (le-ltb position 1 h, lt-ltb count position k)

pub position_good : (count position : ℕ) → 1 ≤ position → position ≤ count → bad_position count position ≡ false
position_good count position h k = rw (le-ltb position 1 h, le-ltb count position k)

-- a position of 1..count names a word of the list
pub position_inside : (count position : ℕ) → bad_position count position ≡ false → position - 1 < count
position_inside count position e =
    let h = either_false (ltb position 1) (ltb count position) e in
    let low = ltb-false position 1 h.0 in
    let high = ltb-false count position h.1 in
    omega (arith, low, high)

-- ---- every row has a number

pub judged_numbered : (o : Object) (w : ℕ) → numbered (refusals_of o w) ≡ true
judged_numbered o w = refl

pub judged_verdict : (o : Object) (w : ℕ) → judged_of o w ≡ verdict_of (refusals_of o w)
unfolding judged_of
judged_verdict o w = refl

named_numbered : (d : Option Object) (w : ℕ) → numbered (named_refusals d w) ≡ true
named_numbered (Some o) w = refl
named_numbered None w = refl

module _ (l : Words) (w : ℕ) where
  pub answer_numbered : numbered (answer_refusals l w) ≡ true
  answer_numbered = numbered_append (shape_refusals l) _ (shape_numbered Source l) (named_numbered (named_by l w) w)

  pub answer_verdict : answer_of l w ≡ verdict_of (answer_refusals l w)
  unfolding answer_of
  answer_verdict = refl

  -- ---- the cases, in order: whatever the refusals make, and whatever the answer is where there is none

  module _ {A : Type 0} (refused : ℕ → ℕ → A) (answer : A) where
    misshapen_as : ((shape_of l).number ≡ 0 → ⊥) → first_of refused (answer_refusals l w) answer ≡ refused (shape_of l).number (shape_of l).place
    misshapen_as f = onward refused answer (shape_refusals l) _ ∙ as_shape_refused refused Source l _ f

    module _ (shaped : (shape_of l).number ≡ 0) where
      pub misplaced_as : bad_position l.count (position_of w) ≡ true → first_of refused (answer_refusals l w) answer ≡ refused 20 0
      misplaced_as e =
          onward refused answer (shape_refusals l) _ ∙ as_shape_passes refused Source l _ shaped ∙ hit refused answer 20 0 _ e

      pub judged_as : (o : Object) → bad_position l.count (position_of w) ≡ false → named_by l w ≡ Some o
          → first_of refused (answer_refusals l w) answer ≡ first_of refused (refusals_of o w) answer
      judged_as o e d =
          onward refused answer (shape_refusals l) _
          ∙ as_shape_passes refused Source l _ shaped
          ∙ miss refused answer 20 0 _ e
          ∙ ap (λ (n : Option Object). first_of refused (named_refusals n w) answer) d

  -- where `?` goes on past the shape
  pub shaped_on : {v : Verdict} {r : Result (Unit {0}) Verdict} {u : Unit {0}} → v ≡ shape_of l → r ≡ passed_of v → r ≡ Ok u → (shape_of l).number ≡ 0
  shaped_on e p q = went_on (shape_of l) (ap passed_of (sym e) ∙ sym p ∙ q)

  -- as `?` hands on the refusal of a shape
  pub misshapen_on : {e : Verdict} → passed_of (shape_of l) ≡ Err e → passed_by (answer_refusals l w) ≡ Err e
  misshapen_on {e} q =
      misshapen_as err (Ok tt) (stopped_not_0 (shape_of l) q) ∙ ap Err (sym (stopped_as (shape_of l) q))

  -- ---- the same, of the verdict

  pub misshapen : ((shape_of l).number ≡ 0 → ⊥) → answer_of l w ≡ shape_of l
  unfolding answer_of
  misshapen f = misshapen_as verdict success f

  module _ (shaped : (shape_of l).number ≡ 0) where
    pub misplaced : bad_position l.count (position_of w) ≡ true → answer_of l w ≡ verdict 20 0
    unfolding answer_of
    misplaced e = misplaced_as verdict success shaped e

    pub judged : (o : Object) → bad_position l.count (position_of w) ≡ false → named_by l w ≡ Some o → answer_of l w ≡ judged_of o w
    unfolding answer_of judged_of
    judged o e d = judged_as verdict success shaped o e d

    -- a list whose shape passes has an object in every word
    pub names_object : 1 ≤ position_of w → position_of w ≤ l.count → named_by l w ≡ Some (object_of (named_by l w))
    names_object h k = has_object (named_by l w) (word_passes Source l (none_of Source l shaped) (position_of w - 1) (omega arith)).0

    -- .. and has no more than seven
    pub named_to_7 : position_of w ≤ l.count → position_of w ≤ 7
    named_to_7 k = let seven = count_high l.count (none_of Source l shaped).0 in omega (arith, k, seven)
