-- Proves the claims of specs/SharingRefusals.antt: what a call over rows answers, and the rows it leaves, over any table of refusals.
-- Assumes nothing.
use mathlib.Core.Path.{◌≡◌, refl, ap, ◌∙◌}
use mathlib.Core.List.{List}
use Rattle.verdicts.specs.declared.Verdict.{Verdict}
use Rattle.verdicts.specs.Refusals.{Refusal, first_of, success, verdict_of}
use Rattle.verdicts.proofs.First.{Telling, telling_numbered, none_told, refused_so, exactly_told}
use Rattle.steps.specs.declared.HalfWatts.{HalfWatts}
use Rattle.lists.specs.declared.Words.{Words}
use Rattle.lists.specs.declared.Listing.{Listing}
use Rattle.lists.specs.Writing.{no_words, write_refused}
use Rattle.rules.specs.Profiles.{half_watts}
use Rattle.ports.specs.declared.Row.{Row}
use Rattle.ports.specs.declared.RemainingPower.{RemainingPower}
use Rattle.ports.specs.Refusing.{set_up_refusals, attach_refusals, use_refusals, request_refusals, remaining_refusals}
use Rattle.ports.specs.Lending.{no_power_left, unless_refused, set_up_answer, set_up_rows, attach_answer, attach_rows, advertise_answer, advertise_rows, request_answer, request_rows, detach_answer, detach_rows, remaining_answer}
use Rattle.ports.proofs.Passing.{set_up_numbered, attach_numbered, use_numbered, request_numbered, remaining_numbered}
use Rattle.demands.specs.Refusals.{Answers}
use Rattle.demands.specs.SharingRefusals.{SetUpRefusals, AttachRefusals, AdvertiseRefusals, RequestRefusals, DetachRefusals, RemainingRefusals}
use Rattle.demands.proofs.Refusals.{answers, answers_with}

-- ---- an answer over any table

module _ (rs : List Refusal) (t : Telling rs) where
  pub answers_list : (list : Words) (r : Listing) → r ≡ first_of write_refused rs (record { verdict = success; list = list })
      → Answers r.verdict rs × ((r.verdict ≡ success → ⊥) → r.list ≡ no_words)
  answers_list list r e =
      let both = answers_with (λ (x : Listing). x.verdict) write_refused (λ n p. refl) rs t _ refl r e in
      (both.0, λ f. ap (λ (x : Listing). x.list) (both.1 f))

  pub answers_power : (power : HalfWatts) (r : RemainingPower) → r ≡ first_of no_power_left rs (record { verdict = success; power = power })
      → Answers r.verdict rs × ((r.verdict ≡ success → ⊥) → r.power ≡ half_watts 0)
  answers_power power r e =
      let both = answers_with (λ (x : RemainingPower). x.verdict) no_power_left (λ n p. refl) rs t _ refl r e in
      (both.0, λ f. ap (λ (x : RemainingPower). x.power) (both.1 f))

  module _ (ys zs after : List Row) (e : zs ≡ unless_refused ys rs after) where
    unwritten : (v : Verdict) → Answers v rs → (v ≡ success → ⊥) → zs ≡ ys
    unwritten v a f = e ∙ refused_so (λ n p. ys) rs (λ z. f (a.0.1 (none_told rs t z))) after

    -- a verdict alone, and the rows
    refuses : (r : Verdict) → r ≡ verdict_of rs → Answers r rs × ((r ≡ success → ⊥) → zs ≡ ys)
    refuses r v = let a = answers r rs (exactly_told rs t) v in (a, unwritten r a)

    -- a list with its verdict, and the rows
    refuses_list : (list : Words) (r : Listing) → r ≡ first_of write_refused rs (record { verdict = success; list = list })
        → Answers r.verdict rs × ((r.verdict ≡ success → ⊥) → (r.list ≡ no_words) × (zs ≡ ys))
    refuses_list list r l =
        let both = answers_list list r l in
        (both.0, λ f. (both.1 f, unwritten r.verdict both.0 f))

-- ---- the calls

pub set_up_refusals_lem : SetUpRefusals
unfolding set_up_answer set_up_rows
set_up_refusals_lem ys capacity r zs e =
    let rs = set_up_refusals capacity ys in
    refuses rs (telling_numbered rs (set_up_numbered capacity ys)) ys zs _ e.1 r e.0

pub attach_refusals_lem : AttachRefusals
unfolding attach_answer attach_rows
attach_refusals_lem ys capacity port cable r zs e =
    let rs = attach_refusals capacity ys port cable in
    refuses_list rs (telling_numbered rs (attach_numbered capacity ys port cable)) ys zs _ e.1 _ r e.0

pub advertise_refusals : AdvertiseRefusals
unfolding advertise_answer advertise_rows
advertise_refusals ys capacity port r zs e =
    let rs = use_refusals capacity ys port in
    refuses_list rs (telling_numbered rs (use_numbered capacity ys port)) ys zs _ e.1 _ r e.0

pub request_refusals_lem : RequestRefusals
unfolding request_answer request_rows
request_refusals_lem ys capacity port word r zs e =
    let rs = request_refusals capacity ys port word in
    refuses rs (telling_numbered rs (request_numbered capacity ys port word)) ys zs _ e.1 r e.0

pub detach_refusals : DetachRefusals
unfolding detach_answer detach_rows
detach_refusals ys capacity port r zs e =
    let rs = use_refusals capacity ys port in
    refuses rs (telling_numbered rs (use_numbered capacity ys port)) ys zs _ e.1 r e.0

pub remaining_refusals_lem : RemainingRefusals
unfolding remaining_answer
remaining_refusals_lem ys capacity r e =
    let rs = remaining_refusals capacity ys in
    answers_power rs (telling_numbered rs (remaining_numbered capacity ys)) _ r e
