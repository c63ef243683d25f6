-- Proves the claims of specs/DecidingRefusals.antt.
-- Assumes nothing.
use mathlib.Core.Path.{◌≡◌, refl, sym, ap, ◌∙◌}
use mathlib.Core.List.{List, [], ◌∷◌}
use Prim.Native.Nat.{ℕ}
use borrow.Author.Tests.{eq-eqb, ne_eqb}
use Rattle.verdicts.specs.Refusals.{Refusal, refusal, first_of}
use Rattle.verdicts.proofs.First.{Telling, telling_append, telling_numbered, telling_given, onward, exactly}
use Rattle.lists.specs.Writing.{write_refused}
use Rattle.rules.specs.Profiles.{build_refusals}
use Rattle.rules.specs.Building.{built_of}
use Rattle.rules.proofs.Builds.{built_as, build_numbered}
use Rattle.ports.specs.declared.Row.{Row}
use Rattle.ports.specs.declared.Standing.{Standing}
use Rattle.ports.specs.declared.Change.{Change}
use Rattle.ports.specs.RuleLists.{rule_profile}
use Rattle.ports.specs.Refusing.{table_refusals}
use Rattle.ports.specs.Standing.{begun, row_refusals, end_refusals}
use Rattle.ports.specs.Deciding.{no_change, changing, attach_end_refusals, use_end_refusals, request_end_refusals, attach_change, advertise_change, request_change, detach_change, refused, offer_of, power_left}
use Rattle.ports.proofs.ByValue.{end_telling, attach_telling, use_telling, request_telling}
use Rattle.ports.proofs.Standings.{more, none_more, row_numbered}
use Rattle.demands.specs.DecidingRefusals.{Decides, offer_refusals, BeginRefusals, TakeRowRefusals, AttachDecidesFirst, AdvertiseDecidesFirst, RequestDecidesFirst, DetachDecidesFirst, OfferRefusals, RemainingDecidesFirst}
use Rattle.demands.proofs.Refusals.{answers, answers_with}
use Rattle.demands.proofs.SharingRefusals.{answers_list, answers_power}

-- ---- the pass over the rows

pub begin_refusals : BeginRefusals
unfolding begun
begin_refusals count capacity r e =
    let rs = table_refusals capacity.0 count in (
      answers r.fault rs (exactly rs refl) (ap (λ (x : Standing). x.fault) e),
      (ap (λ (x : Standing). x.count) e, ap (λ (x : Standing). x.held) e),
    )

pub take_row_refusals : TakeRowRefusals
take_row_refusals s y place fresh r e =
    let rs = row_refusals fresh y place in (
      λ z.
          answers r.fault rs (exactly rs (row_numbered fresh y place))
          (ap (λ (x : Standing). x.fault) (e ∙ more fresh s y place (eq-eqb s.fault.number 0 z))),
      λ f. e ∙ none_more fresh s y place (ne_eqb s.fault.number 0 f),
    )

-- ---- a change, over any table

module _ (s : Standing) (rs : List Refusal) (t : Telling rs) (port : ℕ) (y : Row) where
  decides : (r : Change) → r ≡ first_of (no_change s) rs (changing port y) → Decides s r rs
  decides r e =
      let both = answers_with (λ (c : Change). c.answer) (no_change s) (λ n p. refl) rs t (changing port y) refl r e in
      (both.0, λ f. (ap (λ (c : Change). c.at) (both.1 f), ap (λ (c : Change). c.row) (both.1 f)))

-- ---- the calls that change a row

pub attach_decides : AttachDecidesFirst
unfolding attach_change
attach_decides s y capacity port cable r e =
    decides s (attach_end_refusals capacity.0 s y port cable.0) (attach_telling capacity.0 s port y cable.0) port _ r e

pub advertise_decides : AdvertiseDecidesFirst
unfolding advertise_change
advertise_decides s y capacity port r e = decides s (use_end_refusals capacity.0 s y port) (use_telling capacity.0 s port y) port _ r e

pub request_decides : RequestDecidesFirst
unfolding request_change
request_decides s y capacity port word r e =
    decides s (request_end_refusals capacity.0 s y port word) (request_telling capacity.0 s port y word) port _ r e

pub detach_decides : DetachDecidesFirst
unfolding detach_change
detach_decides s y capacity port r e = decides s (use_end_refusals capacity.0 s y port) (use_telling capacity.0 s port y) port _ r e

-- ---- the list of a change

pub offer_refusals_lem : OfferRefusals
unfolding offer_of built_of
offer_refusals_lem c r e =
    let was = refusal (refused c) c.answer.number c.answer.place ∷ [] in
    let p = rule_profile c.row in
    let t = telling_append was (build_refusals p) (telling_given c.answer) (telling_numbered (build_refusals p) (build_numbered p)) in
    answers_list (offer_refusals c) t _ r (e ∙ sym (onward write_refused (built_as p) was (build_refusals p)))

-- ---- remaining power

pub remaining_decides : RemainingDecidesFirst
unfolding power_left
remaining_decides s capacity r e = answers_power (end_refusals capacity.0 s) (end_telling capacity.0 s) _ r e
