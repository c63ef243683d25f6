-- `lists::shape_check::judge` meets its contract: each return cites the law of its case.
-- Assumes nothing.
use Rattle.std.specs.Prelude.{Ok, Err, Some}
use mathlib.Core.Path.{◌≡◌, ap, sym, ◌∙◌}
use mathlib.Core.Bool.{false, not}
use Rattle.objects.proofs.Saying.{decoded_for}
use Rattle.lists.specs.Shape.{out_of_order}
use Rattle.lists.proofs.Judging.{not_known, reserved, bound, power, order, fine, first_in_order, later_in_order}
use Rattle.lists.proofs.shape_check.judge.Goals as goal
use Rattle.lists.proofs.shape_check.judge.Goals.{else-not-first-via-then-not-first+else-not-may_follow, else-not-first-via-else-not-first}

pub returns-in_default : goal.returns-in_default
returns-in_default c before e =
    let a = c.args in
    ap Err c.at.ensures ∙ not_known a.side a.first a.place before a.w (sym (decoded_for a.side a.w _ c.decode_for.ensures) ∙ c.in_default.is)

pub returns-then-reserved_bit_set : goal.returns-then-reserved_bit_set
returns-then-reserved_bit_set c before e =
    let a = c.args in
    let o = c.in-Some.object in
    ap Err c.at-then-reserved_bit_set.ensures
    ∙ reserved a.side a.first a.place before a.w o (sym (decoded_for a.side a.w _ c.decode_for.ensures) ∙ c.in-Some.is)
    (sym c.reserved_bit_set.ensures ∙ c.if-reserved_bit_set.true)

pub returns-then-out_of_bounds : goal.returns-then-out_of_bounds
returns-then-out_of_bounds c before e =
    let a = c.args in
    let o = c.in-Some.object in
    ap Err c.at-then-out_of_bounds.ensures
    ∙ bound a.side a.first a.place before a.w o (sym (decoded_for a.side a.w _ c.decode_for.ensures) ∙ c.in-Some.is)
    (sym c.reserved_bit_set.ensures ∙ c.if-reserved_bit_set.false)
    (sym c.out_of_bounds.ensures ∙ c.if-out_of_bounds.true)

pub returns-then-over_100_w : goal.returns-then-over_100_w
returns-then-over_100_w c before e =
    let a = c.args in
    let o = c.in-Some.object in
    ap Err c.at-then-over_100_w.ensures
    ∙ power a.side a.first a.place before a.w o (sym (decoded_for a.side a.w _ c.decode_for.ensures) ∙ c.in-Some.is)
    (sym c.reserved_bit_set.ensures ∙ c.if-reserved_bit_set.false)
    (sym c.out_of_bounds.ensures ∙ c.if-out_of_bounds.false)
    (sym c.over_100_w.ensures ∙ c.if-over_100_w.true)

pub returns-then-not-may_follow : goal.returns-then-not-may_follow
returns-then-not-may_follow c before e =
    let a = c.args in
    let o = c.in-Some.object in
    let followed = c.may_follow.ensures before o e (sym c.standing_of-standing.ensures) in
    ap Err c.at-then-not-may_follow.ensures
    ∙ order a.side a.first a.place before a.w o (sym (decoded_for a.side a.w _ c.decode_for.ensures) ∙ c.in-Some.is)
    (sym c.reserved_bit_set.ensures ∙ c.if-reserved_bit_set.false)
    (sym c.out_of_bounds.ensures ∙ c.if-out_of_bounds.false)
    (sym c.over_100_w.ensures ∙ c.if-over_100_w.false)
    (later_in_order a.first before o c.if-not-first.true ∙ ap not (sym followed ∙ c.if-not-may_follow.true))

pub returns : goal.returns
returns c before e =
    let a = c.args in
    let o = c.in-Some.object in
    let in_order : out_of_order a.first (Some before) (Some o) ≡ false = elim c.else-not-first.branch [
      | else-not-first-via-then-not-first+else-not-may_follow w ↦
          later_in_order a.first before o w.if-not-first.true
          ∙ ap not (sym (w.may_follow.ensures before o e (sym c.standing_of-standing.ensures)) ∙ w.if-not-may_follow.false)
      | else-not-first-via-else-not-first w ↦ first_in_order a.first before o w.if-not-first.false
    ] in
    ap Ok c.standing_of-standing.ensures
    ∙ fine a.side a.first a.place before a.w o (sym (decoded_for a.side a.w _ c.decode_for.ensures) ∙ c.in-Some.is)
    (sym c.reserved_bit_set.ensures ∙ c.if-reserved_bit_set.false)
    (sym c.out_of_bounds.ensures ∙ c.if-out_of_bounds.false)
    (sym c.over_100_w.ensures ∙ c.if-over_100_w.false) in_order
