-- `requests::answering::answered` meets its contract: the shape, the position, then the object that is named.
-- Assumes nothing.
use Rattle.std.specs.Prelude.{Option, Some, None, Ok, Err}
use mathlib.Core.Path.{◌≡◌, ap, sym, ◌∙◌, subst}
use Prim.Native.Nat.{ℕ, ◌-◌, ◌<◌, ◌≤◌}
use native.Mathlib.Omega.{arith}
use lib.ListN.{get_or}
use Rattle.std.proofs.Common.{rules}
use Rattle.verdicts.specs.Refusals.{err, passed_of}
use Rattle.objects.specs.declared.Object.{Object}
use Rattle.objects.specs.Decode.{decode_of}
use Rattle.objects.proofs.Saying.{decoded_is}
use Rattle.lists.specs.declared.Words.{Words}
use Rattle.lists.specs.Shape.{shape_of}
use Rattle.lists.specs.Reading.{object_of}
use Rattle.requests.specs.Taking.{position_of}
use Rattle.requests.specs.Answering.{named_by}
use Rattle.requests.proofs.Options.{ok_some, err_none}
use Rattle.requests.proofs.Answers.{position_zero, position_past, position_good, shaped_on, misshapen_on, misplaced_as, judged_as, names_object, named_to_7}
use Rattle.requests.proofs.answering.answered.Goals as goal
use Rattle.requests.proofs.answering.answered.Goals.{then-named-lt1-via-then-named-lt1, then-named-lt1-via-else-named-lt1+then-list-named}

-- the word that is read is the one that is named
named_is : (l : Words) (w k : ℕ) (d : Option Object) → k ≡ position_of w → d ≡ decode_of (get_or l.words (k - 1) 0) → named_by l w ≡ d
named_is l w k d n e = ap (λ (j : ℕ). decode_of (get_or l.words (j - 1) 0)) (sym n) ∙ sym e

pub returns-in_err-passed : goal.returns-in_err-passed
returns-in_err-passed c =
    let was : passed_of (shape_of c.args.list) ≡ Err c.in_err-passed.field-0.0 =
    ap passed_of (sym c.shape.ensures) ∙ sym c.passed.ensures ∙ c.in_err-passed.was in
    let out : c.from_residual.result ≡ Err c.in_err-passed.field-0.0 = search rules in
    out ∙ sym (misshapen_on c.args.list c.args.word was)

pub returns-then-named-lt1 : goal.returns-then-named-lt1
returns-then-named-lt1 c =
    let x = c.args in
    let n = c.position-named.ensures in
    let shaped = shaped_on x.list x.word c.shape.ensures c.passed.ensures c.in_ok-passed.was in
    ap Err c.placeless.ensures
    ∙ sym (misplaced_as x.list x.word err (Ok tt) shaped (elim c.then-named-lt1.branch [
      | then-named-lt1-via-then-named-lt1 w ↦ position_zero _ _ (subst (λ (k : ℕ). k < 1) n w.if-named-lt1.true)
      | then-named-lt1-via-else-named-lt1+then-list-named w ↦
          position_past _ _ (subst (λ (k : ℕ). 1 ≤ k) n w.if-named-lt1.false) (subst (λ (k : ℕ). x.list.count < k) n w.if-list-named.true)
    ]))

pub bounds-list-named : goal.bounds-list-named
bounds-list-named c =
    let x = c.args in
    let e = c.position-named.ensures in
    let shaped = shaped_on x.list x.word c.shape.ensures c.passed.ensures c.in_ok-passed.was in
    let h = named_to_7 x.list x.word shaped (omega (arith, e)) in
    omega (arith, e, h)

pub returns-in_err-object : goal.returns-in_err-object
returns-in_err-object c =
    let x = c.args in
    let n = c.position-named.ensures in
    let shaped = shaped_on x.list x.word c.shape.ensures c.passed.ensures c.in_ok-passed.was in
    let named = named_is x.list x.word _ _ n (decoded_is _ _ c.decode-d.ensures) in
    let known = names_object x.list x.word shaped (omega (arith, n)) (omega (arith, n)) in
    let none = err_none _ _ c.ok_or.ensures.value c.in_err-object.was in
    let z : None ≡ Some (object_of (named_by x.list x.word)) = sym none ∙ sym named ∙ known in
    cc

pub returns : goal.returns
returns c =
    let x = c.args in
    let n = c.position-named.ensures in
    let shaped = shaped_on x.list x.word c.shape.ensures c.passed.ensures c.in_ok-passed.was in
    let from : 1 ≤ position_of x.word = omega (arith, n) in
    let to : position_of x.word ≤ x.list.count = omega (arith, n) in
    let named = named_is x.list x.word _ _ n (decoded_is _ _ c.decode-d.ensures) ∙ ok_some _ _ c.ok_or.ensures.value c.in_ok-object.was in
    c.judged.ensures ∙ sym (judged_as x.list x.word err (Ok tt) shaped c.in_ok-object.object (position_good _ _ from to) named)
