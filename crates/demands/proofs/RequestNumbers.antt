-- Proves the claims of specs/RequestNumbers.antt.
-- Assumes nothing.
use mathlib.Core.Path.{◌≡◌, refl, sym, ap, ◌∙◌, subst}
use mathlib.Core.Bool.{Bool, true, false, and-eq-true_iff}
use mathlib.Core.List.{List, [], ◌∷◌, ◌++◌}
use Prim.Native.Nat.{ℕ}
use native.Mathlib.Omega.{arith}
use lib.Dec.{leb, ltb, eqb}
use lib.ListN.{length}
use borrow.Author.Tests.{eqb-true, eqb-false, leb-true}
use Rattle.verdicts.specs.declared.Verdict.{Verdict}
use Rattle.verdicts.specs.Refusals.{Refusal, refusal, each_place, first_of, verdict, success, verdict_of, NoneApply}
use Rattle.verdicts.proofs.First.{none_applied, stops, goes_on_lem, all_pass, pass_append, pass_places, number_passes}
use Rattle.requests.proofs.Answers.{answer_numbered, answer_verdict}
use Rattle.ports.specs.declared.Row.{Row}
use Rattle.ports.specs.Rows.{port_row, all_held, left_for}
use Rattle.ports.specs.RuleLists.{rule_list}
use Rattle.ports.specs.Requests.{new_held}
use Rattle.ports.specs.Refusing.{table_refusals, fault_rows, sum_fault, sound_refusals, remaining_refusals, no_such_port, port_refusals, not_attached, use_refusals, own_refusals, no_power_now}
use Rattle.ports.specs.Lending.{request_answer}
use Rattle.ports.proofs.Passing.{use_numbered, attached}
use Rattle.demands.specs.RuleLists.{OwnRefusal}
use Rattle.demands.specs.RequestNumbers.{of_sharing, Outcome, accepted, own, shared, RequestOutcome, NeverOfShape}
use Rattle.ports.proofs.RuleLists.{attached_offerable}
use Rattle.demands.proofs.RuleLists.{refused_by_own}

use_shares : (capacity : ℕ) (t : List Row) (port : ℕ) → all_pass of_sharing (use_refusals capacity t port) ≡ true
use_shares capacity t port =
    pass_append of_sharing (port_refusals capacity t port) (not_attached (port_row t port) port)
    (pass_append of_sharing (remaining_refusals capacity t) (no_such_port (length t) port)
    (pass_append of_sharing (table_refusals capacity (length t)) (sound_refusals capacity t) refl
    (pass_append of_sharing (each_place (fault_rows t) (length t)) (sum_fault capacity (all_held t)) (pass_places of_sharing (fault_rows t) (λ k. refl)
    (length t)) refl)) refl) refl

of_verdict : (r s : Verdict) → r ≡ s → Outcome s → Outcome r
of_verdict r s e o = subst Outcome (sym e) o

module _ (ys : List Row) (capacity port word : ℕ) where
  abbrev rest : List Refusal
  rest = own_refusals (port_row ys port) word ++ no_power_now (left_for capacity ys port) (port_row ys port) port word

  -- past the port: the list's own answer, then 36
  past_port : NoneApply (use_refusals capacity ys port) → Outcome (verdict_of rest)
  unfolding first_of
  past_port x = go (eqb (verdict_of (own_refusals (port_row ys port) word)).number 0) refl where
    last : (b : Bool) → Outcome (verdict_of (refusal b 36 port ∷ []))
    last true = shared refl
    last false = accepted refl

    go : (b : Bool) → eqb (verdict_of (own_refusals (port_row ys port) word)).number 0 ≡ b → Outcome (verdict_of rest)
    go true e =
        of_verdict _ _ (goes_on_lem verdict (own_refusals (port_row ys port) word) (no_power_now (left_for capacity ys port) (port_row ys port) port word) success (answer_numbered (rule_list
        (port_row ys port)) word) (eqb-true (verdict_of (own_refusals (port_row ys port) word)).number 0 e))
        (last (ltb (left_for capacity ys port) (new_held (port_row ys port) word)))
    go false e =
        let f = eqb-false (verdict_of (own_refusals (port_row ys port) word)).number 0 e in
        let v = answer_verdict (rule_list (port_row ys port)) word in
        of_verdict _ _ (stops verdict (own_refusals (port_row ys port) word) (no_power_now (left_for capacity ys port) (port_row ys port) port word) success f)
        (own (subst OwnRefusal v (refused_by_own (port_row ys port) (attached_offerable (port_row ys port) (attached capacity ys port x)) word
        (λ z. f (sym (ap (λ (u : Verdict). u.number) v) ∙ z)))))

pub request_outcome : RequestOutcome
unfolding request_answer
request_outcome ys capacity port word r zs e = of_verdict r _ e.0 (go (eqb (verdict_of (use_refusals capacity ys port)).number 0) refl) where
  go : (b : Bool) → eqb (verdict_of (use_refusals capacity ys port)).number 0 ≡ b → Outcome (verdict_of (use_refusals capacity ys port ++ rest ys capacity port word))
  go true q =
      let z = eqb-true (verdict_of (use_refusals capacity ys port)).number 0 q in
      of_verdict _ _ (goes_on_lem verdict (use_refusals capacity ys port) (rest ys capacity port word) success (use_numbered capacity ys port) z)
      (past_port ys capacity port word (none_applied (use_refusals capacity ys port) (use_numbered capacity ys port) z))
  go false q =
      let f = eqb-false (verdict_of (use_refusals capacity ys port)).number 0 q in
      of_verdict _ _ (stops verdict (use_refusals capacity ys port) (rest ys capacity port word) success f)
      (shared (number_passes of_sharing (use_refusals capacity ys port) (use_shares capacity ys port) f))

pub never_of_shape : NeverOfShape
never_of_shape ys capacity port word r zs e low high = by (request_outcome ys capacity port word r zs e) where
  by : Outcome r → ⊥
  by (accepted z) = let q = ap (λ (v : Verdict). v.number) z in absurd (omega (arith, q, low))
  by (own o) = let q = o.from_20 in absurd (omega (arith, q, high))
  by (shared s) =
      let q = leb-true 30 r.number ((and-eq-true_iff (leb 30 r.number) (leb r.number 37)).0 s).0 in
      absurd (omega (arith, q, high))
