-- `lists::shape_check::judge_list` meets its contract: each return cites the law of its case.
-- Assumes nothing.
use Rattle.std.specs.Prelude.{Ok, Err}
use Rattle.std.proofs.lemmas.Result.{err_from_is_err_and}
use mathlib.Core.Path.{ap, sym, ◌∙◌}
use mathlib.Core.List.{List}
use Prim.Native.Nat.{◌≤◌}
use native.Mathlib.Omega.{arith}
use lib.ListN.{length}
use Rattle.verdicts.specs.Refusals.{Refusal, err, passed_by}
use Rattle.verdicts.proofs.First.{hit, all_missed}
use Rattle.verdicts.proofs.Results.{none_applied, refused_as}
use Rattle.lists.specs.Shape.{agreement_rows}
use Rattle.lists.proofs.Shapes.{words_part, misbegun, begun, count_high}
use Rattle.lists.proofs.Sliced.{sliced_words, sliced_agreement}
use Rattle.lists.proofs.shape_check.judge_list.Goals as goal

pub returns-then-bad_count : goal.returns-then-bad_count
returns-then-bad_count c = ap Err c.placeless.ensures ∙ sym (hit err (Ok tt) 10 0 _ (sym c.bad_count.ensures ∙ c.if-bad_count.true))

pub returns-then-not-is_fixed_5_v : goal.returns-then-not-is_fixed_5_v
returns-then-not-is_fixed_5_v c =
    let a = c.args in
    ap Err c.at.ensures
    ∙ sym (misbegun a.side a.list err (Ok tt) (sym c.bad_count.ensures ∙ c.if-bad_count.false) (sym c.is_fixed_5_v.ensures ∙ c.if-not-is_fixed_5_v.true))

pub returns-in_err-avs : goal.returns-in_err-avs
returns-in_err-avs c =
    let side = c.args.side in
    let l = c.args.list in
    let counted = sym c.bad_count.ensures ∙ c.if-bad_count.false in
    let whole : l.count ≤ length l.words = omega (arith, count_high l.count counted) in
    let out = err_from_is_err_and c.from_residual.result c.from_residual.ensures.1 in
    let first = ap (λ (rs : List Refusal). passed_by rs) (sym (sliced_words side l whole)) ∙ c.in_err-avs.ensures in
    out.1
    ∙ ap Err out.2
    ∙ sym (begun side l err (Ok tt) counted (sym c.is_fixed_5_v.ensures ∙ c.if-not-is_fixed_5_v.false)
    ∙ refused_as tt (words_part side l) first err (passed_by (agreement_rows side l)))

pub returns : goal.returns
returns c =
    let side = c.args.side in
    let l = c.args.list in
    let counted = sym c.bad_count.ensures ∙ c.if-bad_count.false in
    let whole : l.count ≤ length l.words = omega (arith, count_high l.count counted) in
    let clear = ap (λ (rs : List Refusal). passed_by rs) (sym (sliced_words side l whole)) ∙ c.in_ok-avs.ensures.0 in
    c.agree.ensures
    ∙ ap (λ (rs : List Refusal). passed_by rs) (sliced_agreement side l whole)
    ∙ sym (begun side l err (Ok tt) counted (sym c.is_fixed_5_v.ensures ∙ c.if-not-is_fixed_5_v.false)
    ∙ all_missed err (passed_by (agreement_rows side l)) (words_part side l) (none_applied tt (words_part side l) clear))
