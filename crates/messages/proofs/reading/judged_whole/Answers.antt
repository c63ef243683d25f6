-- `messages::reading::judged_whole` meets its contract: what was taken apart, and then its list.
-- Assumes nothing.
use Rattle.std.specs.Prelude.{Result, Ok}
use mathlib.Core.Path.{◌≡◌, ap, sym, ◌∙◌}
use mathlib.Core.List.{List}
use Prim.Native.Nat.{ℕ}
use Rattle.std.proofs.lemmas.Result.{err_from_is_err_and}
use Rattle.verdicts.specs.declared.Verdict.{Verdict}
use Rattle.verdicts.specs.Refusals.{first_of, err, passed_by}
use Rattle.verdicts.proofs.Results.{value_meant}
use Rattle.messages.specs.declared.Message.{Message}
use Rattle.messages.specs.Refusing.{list_refusals}
use Rattle.messages.specs.Reading.{message_in, taking_refusals}
use Rattle.messages.proofs.Steps.{stops_at, goes_past, stops_before, goes_on}
use Rattle.messages.proofs.reading.judged_whole.Goals as goal

abbrev given : Message → Result Message Verdict
given m = Ok m

-- what is known once the message is taken apart
module _ (bs : List ℕ) {m : Message} (e : Ok m ≡ first_of err (taking_refusals bs) (Ok (message_in bs))) where
  message_is : m ≡ message_in bs
  message_is = value_meant (message_in bs) (taking_refusals bs) (sym e)

  -- and its list judged
  judged_is : {r : Result (Unit {0}) Verdict} → r ≡ passed_by (list_refusals m) → r ≡ passed_by (list_refusals (message_in bs))
  judged_is f = f ∙ ap (λ (x : Message). passed_by (list_refusals x)) message_is

pub returns-in_err-message : goal.returns-in_err-message
returns-in_err-message c =
    let bs = c.args.bytes.now in
    let p = err_from_is_err_and c.from_residual.result c.from_residual.ensures.1 in
    rw (p.1, p.2)
    (sym (stops_before (message_in bs) (taking_refusals bs) (list_refusals (message_in bs)) c.in_err-message.ensures err (given (message_in bs))))

pub returns-in_err-judge_list : goal.returns-in_err-judge_list
returns-in_err-judge_list c =
    let bs = c.args.bytes.now in
    let e = c.in_ok-message.ensures in
    let p = err_from_is_err_and c.from_residual-in_err-judge_list.result c.from_residual-in_err-judge_list.ensures.1 in
    rw (p.1, p.2)
    (sym (goes_on (message_in bs) (taking_refusals bs) (list_refusals (message_in bs)) e err (given (message_in bs))
    ∙ stops_at tt (list_refusals (message_in bs)) (judged_is bs e c.in_err-judge_list.ensures) err (given (message_in bs))))

pub returns : goal.returns
returns c =
    let bs = c.args.bytes.now in
    let e = c.in_ok-message.ensures in
    ap given (message_is bs e)
    ∙ sym (goes_on (message_in bs) (taking_refusals bs) (list_refusals (message_in bs)) e err (given (message_in bs))
    ∙ goes_past tt (list_refusals (message_in bs)) (judged_is bs e c.in_ok-judge_list.ensures) err (given (message_in bs)))
