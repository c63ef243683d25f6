-- `rules::checking::checked` meets its contract: the profile, the shape, then the objects.
-- Assumes nothing.
use Rattle.std.specs.Prelude.{Err}
use mathlib.Core.Path.{◌≡◌, sym, ap, ◌∙◌, subst}
use Rattle.std.proofs.Common.{rules}
use Rattle.verdicts.specs.declared.Verdict.{Verdict}
use Rattle.lists.specs.Shape.{shape_of}
use Rattle.verdicts.specs.Refusals.{NoneApply, passed_by}
use Rattle.verdicts.proofs.Results.{went_on}
use Rattle.rules.specs.declared.Profile.{Profile}
use Rattle.rules.specs.Profiles.{profile_refusals}
use Rattle.rules.specs.Checking.{check_refusals}
use Rattle.rules.proofs.ProfileCases.{port_fine}
use Rattle.rules.proofs.Checks.{bad_shape, shape_passed, shape_seven}
use Rattle.rules.proofs.checking.checked.Goals as goal

pub returns-in_err-passed : goal.returns-in_err-passed
returns-in_err-passed c =
    let x = c.args in
    let clear = subst (λ (p : Profile). NoneApply (profile_refusals p)) c.in_ok-port.ensures (port_fine c.in_ok-port.port) in
    let e : passed_by (check_refusals x.p x.list) ≡ Err c.in_err-passed.field-0.0 =
    bad_shape x.p x.list clear (sym (shape_passed x.p x.list c.shape.ensures) ∙ sym c.passed.ensures ∙ c.in_err-passed.was) in
    search rules

pub invariant_of-judged : goal.invariant_of-judged
invariant_of-judged c =
    let number = went_on c.shape.result (sym c.passed.ensures ∙ c.in_ok-passed.was) in
    let shaped : (shape_of c.args.list).number ≡ 0 = ap (λ (v : Verdict). v.number) (sym c.shape.ensures) ∙ number in
    record { shaped = shaped; seven = shape_seven c.args.list shaped }
