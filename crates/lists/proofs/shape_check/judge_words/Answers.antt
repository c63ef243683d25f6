-- `lists::shape_check::judge_words` meets its contract: the invariant is that no row of a word passed applies, and which object came last.
-- Assumes nothing.
use Rattle.std.specs.Prelude.{Ok, Err, Option}
use Rattle.std.proofs.lemmas.Result.{err_from_is_err_and}
use borrow.Author.Rules.{rules}
use mathlib.Core.Path.{◌≡◌, refl, ap, sym, subst, ◌∙◌}
use Prim.Native.Nat.{ℕ, ◌+◌, ◌<◌}
use native.Mathlib.Omega.{arith}
use lib.ListN.{get_or, length}
use Rattle.verdicts.specs.Refusals.{each_place, err, NoneApply}
use Rattle.verdicts.proofs.First.{none_yet, none_more, all_missed, decided}
use Rattle.objects.specs.Decode.{decode_for, zero_object}
use Rattle.lists.specs.Shape.{word_rows}
use Rattle.lists.specs.Reading.{object_of}
use Rattle.lists.specs.Scanning.{place_at, OnlyAvs, Scans}
use Rattle.lists.proofs.Orders.{rank_at}
use Rattle.lists.proofs.Judging.{refused_word, fine_word, fine_standing, fine_object, next_before}
use Rattle.lists.proofs.Scanning.{Alone, none_seen, one_avs, one_other}
use Rattle.lists.proofs.shape_check.judge_words.Goals as goal
use Rattle.lists.proofs.shape_check.judge_words.Goals.{then-eq, else-eq}

pub loop-i-init : goal.loop-i-init
loop-i-init c = (
  none_yet _,
  record { object = zero_object; stands = refl; decoded = λ h. absurd (omega arith) },
  none_seen _ _ _,
)

pub returns-in_err-standing : goal.returns-in_err-standing
returns-in_err-standing c =
    let a = c.args in
    let ws = a.words.now in
    let at = c.loop-i in
    let out = err_from_is_err_and c.from_residual.result c.from_residual.ensures.1 in
    let said = refused_word a.side ws at.i at.invariant.1 c.judge.ensures c.in_err-standing.was in
    subst (Scans a.side ws) (sym (out.1 ∙ ap Err out.2))
    (decided (word_rows a.side ws) err at.i (length ws) (Err c.in_err-standing.field-0.0) c.loop-i-test.true at.invariant.0 said (Ok tt))

pub loop-i-preserved : goal.loop-i-preserved
loop-i-preserved c =
    let a = c.args in
    let ws = a.words.now in
    let at = c.loop-i in
    let was = c.in_ok-standing.was in
    let b = at.invariant.1 in
    let j = c.judge.ensures in
    let below : at.i < 7 = omega (arith, c.loop-i-test.true) in
    let clear = fine_word a.side ws at.i b j was in
    let o = object_of (decode_for a.side (get_or ws at.i 0)) in
    let d = fine_object a.side ws at.i b j was in
    let stands = fine_standing a.side ws at.i b j was in (
      none_more (word_rows a.side ws) at.i at.invariant.0 clear,
      next_before a.side ws at.i b j was,
      elim c.if-eq.branch [
        | then-eq w ↦
            subst (λ (x : Option ℕ). Alone a.side ws (at.i + 1) (rank_at c.in_ok-standing.standing) (place_at x)) (sym w.avs-is)
            (one_avs a.side ws at.i (place_at at.avs) at.before at.invariant.2 b below clear o d stands (search rules))
        | else-eq w ↦
            subst (λ (x : Option ℕ). Alone a.side ws (at.i + 1) (rank_at c.in_ok-standing.standing) (place_at x)) (sym w.avs-is)
            (one_other a.side ws at.i (place_at at.avs) at.before at.invariant.2 b below clear o d stands (search rules))
      ],
    )

pub returns : goal.returns
returns c =
    let a = c.args in
    let ws = a.words.now in
    let at = c.loop-i in
    let e : at.i ≡ length ws = omega arith in (
      all_missed err (Ok tt) _ (subst (λ (n : ℕ). NoneApply (each_place (word_rows a.side ws) n)) e at.invariant.0),
      subst (λ (n : ℕ). OnlyAvs a.side ws n (place_at at.avs)) e at.invariant.2.only,
    )
