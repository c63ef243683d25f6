-- `flat::requesting::raise_request` meets its contract: by the kind number.
-- Assumes nothing.
use Rattle.std.specs.Prelude.{Some}
use mathlib.Core.Path.{◌≡◌, sym, ap, ◌∙◌}
use native.Mathlib.Omega.{arith}
use Rattle.summaries.specs.declared.QuickRequest.{QuickRequest}
use Rattle.flat.specs.Requesting.{asked_with}
use Rattle.flat.proofs.Requests.{raised_as, raised_none}
use Rattle.flat.proofs.requesting.raise_request.Goals.{in-0, in-2, in-3, in-4}
use Rattle.flat.proofs.requesting.raise_request.Goals as goal

pub returns-in_default : goal.returns-in_default
returns-in_default c =
    let kind = c.args.flat.kind in
    let not_0 : kind ≡ 0 → ⊥ = λ e. omega (arith, e) in
    let not_2 : kind ≡ 2 → ⊥ = λ e. omega (arith, e) in
    let not_3 : kind ≡ 3 → ⊥ = λ e. omega (arith, e) in
    let not_4 : kind ≡ 4 → ⊥ = λ e. omega (arith, e) in
    sym (raised_none c.args.flat not_0 not_2 not_3 not_4)

pub returns : goal.returns
returns c =
    let x = c.args.flat in elim c.match-flat.branch [
      | in-0 w ↦ ap (λ (r : QuickRequest). Some (asked_with x r)) w.request-is ∙ sym (raised_as x 0 w.in-0.is)
      | in-2 w ↦ ap (λ (r : QuickRequest). Some (asked_with x r)) w.request-is ∙ sym (raised_as x 2 w.in-2.is)
      | in-3 w ↦ ap (λ (r : QuickRequest). Some (asked_with x r)) w.request-is ∙ sym (raised_as x 3 w.in-3.is)
      | in-4 w ↦ ap (λ (r : QuickRequest). Some (asked_with x r)) w.request-is ∙ sym (raised_as x 4 w.in-4.is)
    ]
