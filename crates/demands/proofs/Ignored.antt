-- Proves the claims of specs/Ignored.antt, from the laws of `requests` and `ports` on the definitions that the contracts cite.
-- Assumes nothing.
use mathlib.Core.Path.{◌≡◌, sym, ap, ◌∙◌}
use mathlib.Core.List.{List, [], ◌∷◌, ◌++◌}
use Prim.Native.Nat.{ℕ, ◌-◌}
use lib.Dec.{ltb}
use lib.ListN.{set}
use Rattle.verdicts.specs.Refusals.{Refusal, refusal, first_of, verdict, success}
use Rattle.verdicts.proofs.First.{onward}
use Rattle.requests.specs.Ignoring.{SameOn}
use Rattle.requests.proofs.Ignoring as there
use Rattle.ports.specs.declared.Row.{Row}
use Rattle.ports.specs.Rows.{port_row, left_for, holding}
use Rattle.ports.specs.RuleLists.{rule_list}
use Rattle.ports.specs.Requests.{new_held}
use Rattle.ports.specs.Refusing.{use_refusals, own_refusals}
use Rattle.ports.specs.Deciding.{left_beside, no_change, changing, use_end_refusals, request_change}
use Rattle.ports.specs.Lending.{request_answer, request_rows}
use Rattle.ports.proofs.Ignoring.{held_ignores}
use Rattle.demands.specs.Ignored.{JudgeIgnores, AnswerIgnores, ArinAnswerIgnores, RequestIgnores, ArinRequestIgnores}

pub judge_ignores : JudgeIgnores
judge_ignores o w v same r s e f = e ∙ there.judged_ignores w v o same ∙ sym f

pub answer_ignores : AnswerIgnores
answer_ignores l w v same r s e f = e ∙ there.answer_ignores l w v same ∙ sym f

pub arin_answer_ignores : ArinAnswerIgnores
arin_answer_ignores l w v same r s e f = e ∙ there.answer_ignores l w v same ∙ sym f

-- ---- a port: the request's own refusals, then 36 by the power of the request

module _ {A : Type 0} (refused : ℕ → ℕ → A) (before : List Refusal) (left port : ℕ) (y : Row) (end : ℕ → A) where
  abbrev rest : ℕ → List Refusal
  rest held = refusal (ltb left held) 36 port ∷ []

  -- what is told past what is refused before, and after it
  abbrev own : ℕ → A
  own u = first_of refused (own_refusals y u ++ rest (new_held y u)) (end (new_held y u))

  abbrev told : ℕ → A
  told u = first_of refused (before ++ (own_refusals y u ++ rest (new_held y u))) (end (new_held y u))

  told_own : (u : ℕ) → told u ≡ first_of refused before (own u)
  told_own u = onward refused (end (new_held y u)) before (own_refusals y u ++ rest (new_held y u))

  port_ignores : (w v : ℕ) → SameOn (rule_list y) w v → told w ≡ told v
  port_ignores w v same =
      let same-own : own w ≡ own v =
      there.told_ignores refused (rule_list y) w v same rest end (new_held y) (held_ignores (rule_list y) y.present.0 w v) in
      told_own w ∙ ap (first_of refused before) same-own ∙ sym (told_own v)

pub request_ignores : RequestIgnores
unfolding request_change
request_ignores t y capacity port w v same r s e f =
    e
    ∙ port_ignores (no_change t) (use_end_refusals capacity.0 t y port) (left_beside capacity.0 t y) port y
    (λ held. changing port (holding y held)) w v same
    ∙ sym f

pub arin_request_ignores : ArinRequestIgnores
unfolding request_answer request_rows
arin_request_ignores ys capacity port w v same r s zs us e f =
    let y = port_row ys port in
    let before = use_refusals capacity ys port in
    let left = left_for capacity ys port in (
      e.0 ∙ port_ignores verdict before left port y (λ held. success) w v same ∙ sym f.0,
      e.1 ∙ port_ignores (λ n p. ys) before left port y (λ held. set ys (port - 1) (holding y held)) w v same ∙ sym f.1,
    )
