-- `rules::building::port_with_list` meets its contract: the refusals of the profile, then 6.
-- Assumes nothing.
use Rattle.std.specs.Prelude.{Err}
use mathlib.Core.Path.{ap, sym, ◌∙◌, subst}
use Rattle.verdicts.specs.Refusals.{NoneApply}
use Rattle.rules.specs.declared.Profile.{Profile}
use Rattle.rules.specs.Profiles.{profile_refusals, pps_below_maximum}
use Rattle.rules.proofs.ProfileCases.{port_fine}
use Rattle.rules.proofs.Builds.{too_much, lists}
use Rattle.rules.proofs.building.port_with_list.Goals as goal

pub returns-then-wants_too_much : goal.returns-then-wants_too_much
returns-then-wants_too_much c =
    let port = c.in_ok-port.port in
    let clear = subst (λ (p : Profile). NoneApply (profile_refusals p)) c.in_ok-port.ensures (port_fine port) in
    too_much c.args.p clear (sym (ap pps_below_maximum c.in_ok-port.ensures) ∙ sym c.wants_too_much.ensures ∙ c.if-wants_too_much.true)
    ∙ sym (ap Err c.placeless.ensures)

pub returns : goal.returns
returns c =
    let port = c.in_ok-port.port in
    let clear = subst (λ (p : Profile). NoneApply (profile_refusals p)) c.in_ok-port.ensures (port_fine port) in (
      c.in_ok-port.ensures,
      lists c.args.p clear (sym (ap pps_below_maximum c.in_ok-port.ensures) ∙ sym c.wants_too_much.ensures ∙ c.if-wants_too_much.false),
    )
