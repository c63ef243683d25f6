-- `ports::seat::Seat::requested` meets its contract: the port, then the answer of the row's list, then the power that is left.
-- Assumes nothing.
use Rattle.std.specs.Prelude.{Err}
use mathlib.Core.Path.{◌≡◌, sym, ap, ◌∙◌}
use mathlib.Core.List.{◌++◌}
use Rattle.verdicts.specs.declared.Verdict.{Verdict}
use Rattle.verdicts.specs.Refusals.{passed_of}
use Rattle.verdicts.proofs.Results.{went_on, stopped_as, stopped_not_0}
use Rattle.ports.specs.RuleLists.{rule_list}
use Rattle.ports.specs.Requests.{new_held}
use Rattle.ports.specs.Refusing.{own_refusals, no_power_now}
use Rattle.ports.specs.Deciding.{left_beside, use_end_refusals}
use Rattle.ports.proofs.Powers.{power_fits}
use Rattle.ports.proofs.Passed.{handed_on}
use Rattle.ports.proofs.Requesting.{list_judges, held_is, names_one, names_none, own_stops, power_decides}
use Rattle.ports.proofs.seat.Seat.requested.Goals as goal

pub returns-in_err-left : goal.returns-in_err-left
returns-in_err-left c =
    let x = c.args.self in
    handed_on (use_end_refusals x.capacity.0 x.standing x.row x.port)
    (own_refusals x.row c.args.word ++ no_power_now (left_beside x.capacity.0 x.standing x.row) x.row x.port c.args.word) _ _
    c.from_residual.ensures.1 c.in_err-left.ensures

pub returns-in_err-object : goal.returns-in_err-object
returns-in_err-object c =
    let x = c.args.self in
    let none = names_none x.row c.args.word c.in_err-object.ensures in
    own_stops x.capacity.0 x.standing x.row x.port c.args.word c.in_ok-left.ensures _ none.0 none.1 c.from_residual-in_err-object.ensures.1

pub returns-in_err-passed : goal.returns-in_err-passed
returns-in_err-passed c =
    let x = c.args.self in
    let n = names_one (rule_list x.row) c.args.word c.in_ok-object.ensures in
    let stopped : passed_of c.judge.result ≡ Err c.in_err-passed.field-0.0 = sym c.passed.ensures ∙ c.in_err-passed.was in
    let as_judged = stopped_as c.judge.result stopped in
    own_stops x.capacity.0 x.standing x.row x.port c.args.word c.in_ok-left.ensures _
    (as_judged ∙ c.judge.ensures ∙ sym (list_judges x.row c.args.word _ n))
    (λ z. stopped_not_0 c.judge.result stopped (ap (λ (v : Verdict). v.number) (sym as_judged) ∙ z)) c.from_residual-in_err-passed.ensures.1

pub held_for-held-requires : goal.held_for-held-requires
held_for-held-requires c =
    let x = c.args.self in
    power_fits _ c.args.word x.row.present.0 _ (names_one (rule_list x.row) c.args.word c.in_ok-object.ensures).names

pub returns : goal.returns
returns c =
    let x = c.args.self in
    let n = names_one (rule_list x.row) c.args.word c.in_ok-object.ensures in
    let held = c.held_for-held.result.0 in
    let new : held ≡ new_held x.row c.args.word = c.held_for-held.ensures ∙ sym (held_is x.row c.args.word _ n) in
    power_decides x.capacity.0 x.standing x.row x.port c.args.word c.in_ok-left.ensures _
    (c.judge.ensures ∙ sym (list_judges x.row c.args.word _ n))
    (went_on c.judge.result (sym c.passed.ensures ∙ c.in_ok-passed.was)) held new c.holding.ensures
