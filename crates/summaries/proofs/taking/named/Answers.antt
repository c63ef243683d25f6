-- `summaries::taking::named` meets its contract: the count, the position, the kind of the word that it names.
-- Assumes nothing.
use Rattle.std.specs.Prelude.{Option, Some, None, Ok, Err}
use Rattle.std.specs.Option.{ok_or}
use mathlib.Core.Path.{◌≡◌, refl, ap, sym, ◌∙◌, subst}
use mathlib.Core.Bool.{true, false}
use Prim.Native.Nat.{ℕ, ◌-◌, ◌<◌, ◌≤◌}
use native.Mathlib.Omega.{arith}
use lib.ListN.{get_or}
use Rattle.verdicts.specs.declared.Verdict.{Verdict}
use Rattle.verdicts.specs.Refusals.{first_of, err, verdict}
use Rattle.objects.specs.declared.Object.{Object}
use Rattle.objects.specs.Decode.{decode_of}
use Rattle.objects.proofs.Saying.{decoded_is}
use Rattle.lists.specs.declared.Words.{Words}
use Rattle.lists.specs.Shape.{bad_count}
use Rattle.lists.specs.Reading.{object_of}
use Rattle.requests.specs.Taking.{position_of}
use Rattle.requests.specs.Answering.{bad_position, named_by}
use Rattle.requests.proofs.Answers.{position_zero, position_past, position_good}
use Rattle.summaries.specs.Taking.{decoding_refusals}
use Rattle.summaries.proofs.Takings.{miscounted_as, misplaced_as, of_no_kind_as, of_object_as}
use Rattle.summaries.proofs.taking.named.Goals as goal
use Rattle.summaries.proofs.taking.named.Goals.{then-position-lt1-via-then-position-lt1, then-position-lt1-via-else-position-lt1+then-list-position}

pub returns-then-bad_count : goal.returns-then-bad_count
returns-then-bad_count c =
    let x = c.args in
    let first = miscounted_as x.list x.word err (Ok (object_of (named_by x.list x.word))) (sym c.bad_count.ensures ∙ c.if-bad_count.true) in
    cc

pub returns-then-position-lt1 : goal.returns-then-position-lt1
returns-then-position-lt1 c =
    let x = c.args in
    let n = c.position-position.ensures in
    let bad : bad_position x.list.count (position_of x.word) ≡ true = elim c.then-position-lt1.branch [
      | then-position-lt1-via-then-position-lt1 w ↦ position_zero _ _ (subst (λ (k : ℕ). k < 1) n w.if-position-lt1.true)
      | then-position-lt1-via-else-position-lt1+then-list-position w ↦
          position_past _ _ (subst (λ (k : ℕ). 1 ≤ k) n w.if-position-lt1.false) (subst (λ (k : ℕ). x.list.count < k) n w.if-list-position.true)
    ] in
    let first = misplaced_as x.list x.word err (Ok (object_of (named_by x.list x.word))) (sym c.bad_count.ensures ∙ c.if-bad_count.false) bad in
    cc

-- the word that is read is the one that is named; of no kind it is refused with its place
by_word : (l : Words) (w n : ℕ) (d : Option Object) (v : Verdict) → n ≡ position_of w → v ≡ verdict 12 n → d ≡ decode_of (get_or l.words (n - 1) 0)
    → bad_count l.count ≡ false → bad_position l.count (position_of w) ≡ false
    → ok_or d v ≡ first_of err (decoding_refusals l w) (Ok (object_of (named_by l w)))
by_word l w n d v p z e counted placed = go d refl where
  named : named_by l w ≡ d
  named = ap (λ (j : ℕ). decode_of (get_or l.words (j - 1) 0)) (sym p) ∙ sym e

  go : (k : Option Object) → d ≡ k → ok_or k v ≡ first_of err (decoding_refusals l w) (Ok (object_of (named_by l w)))
  go (Some o) q =
      ap (λ (k : Option Object). Ok (object_of k)) (sym (named ∙ q))
      ∙ sym (of_object_as l w err (Ok (object_of (named_by l w))) counted placed o (named ∙ q))
  go None q =
      ap Err (z ∙ ap (verdict 12) p)
      ∙ sym (of_no_kind_as l w err (Ok (object_of (named_by l w))) counted placed (named ∙ q))

pub returns : goal.returns
returns c =
    let x = c.args in
    let n = c.position-position.ensures in
    let from : 1 ≤ position_of x.word = omega (arith, n) in
    let to : position_of x.word ≤ x.list.count = omega (arith, n) in
    c.ok_or.ensures.value
    ∙ by_word x.list x.word _ _ _ n (cc) (decoded_is _ _ c.decode-d.ensures) (sym c.bad_count.ensures ∙ c.if-bad_count.false)
    (position_good _ _ from to)
