-- Proves the claim of specs/AfterRun.antt: what is known and what the rows hold agree, so the answers follow from what is known.
-- Assumes nothing.
use mathlib.Core.Path.{◌≡◌, refl, sym, ap, ◌∙◌, subst}
use mathlib.Core.Bool.{Bool, true, false, not}
use mathlib.Core.List.{List, [], ◌++◌}
use mathlib.Core.Logic.{◌↔◌}
use Prim.Native.Nat.{ℕ, ◌-◌, ◌≤◌, ◌<◌}
use native.Mathlib.Omega.{arith}
use lib.Dec.{ltb, eqb}
use lib.ListN.{length}
use borrow.Author.Tests.{lt-ltb, le-ltb, ltb-true, ltb-false, not-false}
use Rattle.verdicts.specs.declared.Verdict.{Verdict}
use Rattle.verdicts.specs.Refusals.{first_of, verdict, success, verdict_of, NoneApply}
use Rattle.verdicts.proofs.First.{none_append, none_left, none_right, all_missed, onward, hit, miss, refused_so}
use Rattle.steps.proofs.RangeLaws.{inside}
use Rattle.lists.specs.declared.Words.{Words}
use Rattle.lists.specs.declared.Listing.{Listing}
use Rattle.lists.specs.Writing.{write_refused}
use Rattle.rules.specs.Profiles.{bad_cable, half_watts}
use Rattle.requests.specs.Answering.{answer_refusals, answer_of}
use Rattle.requests.proofs.Answers.{answer_numbered, answer_verdict}
use Rattle.ports.specs.declared.Row.{Row}
use Rattle.ports.specs.declared.RemainingPower.{RemainingPower}
use Rattle.ports.specs.Rows.{port_row, left_for, together, besides, present_for, offering, offered}
use Rattle.ports.specs.RuleLists.{rule_pps, rule_profile, rule_list}
use Rattle.ports.specs.Requests.{new_held}
use Rattle.ports.specs.Refusing.{remaining_refusals, no_such_port, port_refusals, cannot_attach, attach_refusals, not_attached, use_refusals, own_refusals, no_power_now}
use Rattle.ports.specs.Lending.{no_power_left, attach_answer, advertise_answer, request_answer, detach_answer, remaining_answer}
use Rattle.ports.proofs.Passing.{sum_fits, port_low, port_high, port_at, use_port, in_use_lem}
use Rattle.ports.proofs.Judged.{clear}
use Rattle.ports.proofs.Asking.{accepts}
use Rattle.board.specs.Promises.{SharesAttach, SharesAdvertise, SharesRequest, SharesDetach, SharesRemaining}
use Rattle.demands.specs.Figures.{Known, figures, smaller, new_figure, max_of, wanted_of, known, list_for, IsAttached, CanAttach}
use Rattle.demands.specs.AfterRun.{AfterRun, Demand3}
use Rattle.demands.proofs.SharingRefusals.{attach_refusals_lem, advertise_refusals, request_refusals_lem, detach_refusals}
use Rattle.demands.proofs.Kept.{Kept, run_kept, same_together, same_left, same_present, same_held, same_cable}

-- ---- by what is known, no refusal before the port's own applies

module _ (capacity : ℕ) (start : List Row) (h : ℕ → Known) (ys : List Row) (k : Kept capacity start h ys) where
  port_passes : (port : ℕ) → 1 ≤ port → port ≤ length start → NoneApply (port_refusals capacity ys port)
  port_passes port low high =
      none_append (remaining_refusals capacity ys) (no_such_port (length ys) port) k.clear
      (inside 1 (length ys) port low (subst (λ (n : ℕ). port ≤ n) (sym k.count_is) high), tt)

  at : (port : ℕ) → 1 ≤ port → port ≤ length start → port - 1 < length ys
  at port low high = let c = k.count_is in omega (arith, c, low, high)

  use_passes : (port : ℕ) → IsAttached (length start) h port → NoneApply (use_refusals capacity ys port)
  use_passes port a =
      none_append (port_refusals capacity ys port) (not_attached (port_row ys port) port) (port_passes port a.from_1 a.to_count)
      (ap (λ (b : Bool). not (not b)) (same_cable capacity start h ys k port (at port a.from_1 a.to_count) ∙ a.cabled), tt)

  -- the row that is offered has the rule list for M at that P
  offered_list : (port cable : ℕ) → port - 1 < length ys
      → rule_list (offered capacity ys port cable) ≡ list_for (max_of start (port - 1)) (wanted_of start (port - 1)) cable (smaller capacity
      (length start) (max_of start) h port)
  unfolding offering present_for rule_profile rule_pps
  offered_list port cable l =
      let now = k.each (port - 1) l in
      ap (λ (m : ℕ). list_for m (port_row ys port).pps cable (present_for capacity ys port)) now.max_is
      ∙ ap (λ (w : ℕ). list_for (max_of start (port - 1)) w cable (present_for capacity ys port)) now.pps_is
      ∙ ap (list_for (max_of start (port - 1)) (wanted_of start (port - 1)) cable) (same_present capacity start h ys k port l)

  attach_next : (port cable : ℕ) (r : Listing) (zs : List Row) → SharesAttach ys capacity port cable r zs
      → 1 ≤ port → port ≤ length start → bad_cable cable ≡ false → eqb (h (port - 1)).cable 0 ≡ true
      → r ≡ record {
        verdict = success;
        list = list_for (max_of start (port - 1)) (wanted_of start (port - 1)) cable (smaller capacity
            (length start) (max_of start) h port);
      }
  unfolding attach_answer
  attach_next port cable r zs e low high good free =
      let l = at port low high in
      let x = none_append (port_refusals capacity ys port) (cannot_attach (port_row ys port) port cable) (port_passes port low high) (
        good,
        (
          ap not
              (same_cable capacity start h ys k port l ∙ free),
          tt,
        ),
      ) in
      e.0 ∙ all_missed write_refused _ (attach_refusals capacity ys port cable) x
      ∙ ap (λ (w : Words). record { verdict = success; list = w }) (offered_list port cable l)

  advertise_next : (port : ℕ) (r : Listing) (zs : List Row) → SharesAdvertise ys capacity port r zs → IsAttached (length start) h port
      → r ≡ record {
        verdict = success;
        list = list_for (max_of start (port - 1)) (wanted_of start (port - 1)) (h (port - 1)).cable
            (smaller capacity (length start) (max_of start) h port);
      }
  unfolding advertise_answer
  advertise_next port r zs e a =
      let l = at port a.from_1 a.to_count in
      e.0 ∙ all_missed write_refused _ (use_refusals capacity ys port) (use_passes port a)
      ∙ ap (λ (w : Words). record { verdict = success; list = w }) (offered_list port (port_row ys port).cable.0 l)
      ∙ ap (λ (c : ℕ). record {
        verdict = success;
        list = list_for (max_of start (port - 1)) (wanted_of start (port - 1)) c (smaller capacity
            (length start) (max_of start) h port);
      }) (k.each (port - 1) l).cable_is

  -- ---- what an accepted call says of its port

  attached_so : (port : ℕ) → NoneApply (use_refusals capacity ys port) → IsAttached (length start) h port
  attached_so port x =
      let p = use_port capacity ys port x in
      record {
        from_1 = port_low capacity ys port p;
        to_count = subst (λ (n : ℕ). port ≤ n) k.count_is (port_high capacity ys port p);
        cabled = sym (same_cable capacity start h ys k port (port_at capacity ys port p)) ∙ in_use_lem capacity ys port x;
      }

  attach_so : (port cable : ℕ) (r : Listing) (zs : List Row) → SharesAttach ys capacity port cable r zs
      → r.verdict ≡ success → CanAttach (length start) h port cable
  attach_so port cable r zs e s =
      let x = (attach_refusals_lem ys capacity port cable r zs e).0.0.0 s in
      let p = none_left (port_refusals capacity ys port) (cannot_attach (port_row ys port) port cable) x in
      let rest = none_right (port_refusals capacity ys port) (cannot_attach (port_row ys port) port cable) x in
      record {
        from_1 = port_low capacity ys port p;
        to_count = subst (λ (n : ℕ). port ≤ n) k.count_is (port_high capacity ys port p);
        good_cable = rest.0;
        free =
            sym (same_cable capacity start h ys k port (port_at capacity ys port p))
            ∙ not-false (eqb (port_row ys port).cable.0 0) rest.1.0;
      }

  advertise_so : (port : ℕ) (r : Listing) (zs : List Row) → SharesAdvertise ys capacity port r zs
      → r.verdict ≡ success → IsAttached (length start) h port
  advertise_so port r zs e s = attached_so port ((advertise_refusals ys capacity port r zs e).0.0.0 s)

  request_so : (port word : ℕ) (r : Verdict) (zs : List Row) → SharesRequest ys capacity port word r zs
      → r ≡ success → IsAttached (length start) h port
  request_so port word r zs e s =
      attached_so port
      (none_left (use_refusals capacity ys port) (own_refusals (port_row ys port) word ++ no_power_now (left_for capacity ys port) (port_row ys port) port word)
      ((request_refusals_lem ys capacity port word r zs e).0.0.0 s))

  detach_so : (port : ℕ) (r : Verdict) (zs : List Row) → SharesDetach ys capacity port r zs → r ≡ success → IsAttached (length start) h port
  detach_so port r zs e s = attached_so port ((detach_refusals ys capacity port r zs e).0.0.0 s)

  -- ---- requests

  module _ (port word : ℕ) (r : Verdict) (zs : List Row) (e : SharesRequest ys capacity port word r zs) (a : IsAttached (length start) h port) where
    abbrev l : port - 1 < length ys
    l = at port a.from_1 a.to_count

    abbrev own : Words
    own = (h (port - 1)).list

    list_known : own ≡ rule_list (port_row ys port)
    list_known = (k.each (port - 1) l).list_is a.cabled

    -- past the port, the list's own answer decides, then the power that is left
    past_port : r ≡ first_of verdict (answer_refusals own word ++ no_power_now (left_for capacity ys port) (port_row ys port) port word) success
    unfolding request_answer
    past_port =
        e.0
        ∙ onward verdict success (use_refusals capacity ys port) (own_refusals (port_row ys port) word ++ no_power_now (left_for capacity ys port) (port_row ys port) port word)
        ∙ all_missed verdict _ (use_refusals capacity ys port) (use_passes port a)
        ∙ ap (λ (w : Words). first_of verdict (answer_refusals w word ++ no_power_now (left_for capacity ys port) (port_row ys port) port word) success) (sym list_known)

    refused_own : (answer_of own word ≡ success → ⊥) → r ≡ answer_of own word
    refused_own f =
        past_port
        ∙ onward verdict success (answer_refusals own word) (no_power_now (left_for capacity ys port) (port_row ys port) port word)
        ∙ refused_so verdict (answer_refusals own word) (λ z. f (accepts own word (ap (λ (v : Verdict). v.number) (answer_verdict own word) ∙ z))) _
        ∙ sym (answer_verdict own word)

    module _ (allowed : answer_of own word ≡ success) where
      by_power : r ≡ verdict_of (no_power_now (left_for capacity ys port) (port_row ys port) port word)
      by_power =
          past_port
          ∙ onward verdict success (answer_refusals own word) (no_power_now (left_for capacity ys port) (port_row ys port) port word)
          ∙ all_missed verdict _ (answer_refusals own word) (clear (answer_refusals own word) (answer_of own word) (answer_verdict own word)
          (answer_numbered own word) (ap (λ (v : Verdict). v.number) allowed))

      abbrev left : ℕ
      left = capacity - together (besides (port - 1) (figures h)) (length start)

      -- the test of 36, in figures
      test_is : ltb (left_for capacity ys port) (new_held (port_row ys port) word) ≡ ltb left (new_figure h port word)
      test_is =
          ap (λ (n : ℕ). ltb n (new_held (port_row ys port) word)) (same_left capacity start h ys k port)
          ∙ ap (ltb left) (same_held capacity start h ys k port l a.cabled word)

      exceeds : left < new_figure h port word → r ≡ verdict 36 port
      exceeds g = by_power ∙ hit verdict success 36 port [] (test_is ∙ lt-ltb left (new_figure h port word) g)

      fits : new_figure h port word ≤ left → r ≡ success
      fits g = by_power ∙ miss verdict success 36 port [] (test_is ∙ le-ltb left (new_figure h port word) g) ∙ all_missed verdict success [] tt

      -- 36 and success are not the same
      apart : r ≡ verdict 36 port → r ≡ success → ⊥
      apart x y = let z : ◌≡◌ {A = ℕ} 36 0 = ap (λ (v : Verdict). v.number) (sym x ∙ y) in absurd (omega (arith, z))

      by_36 : r ≡ verdict 36 port ↔ left < new_figure h port word
      by_36 = ((λ x. go (ltb left (new_figure h port word)) refl x), exceeds) where
        go : (b : Bool) → ltb left (new_figure h port word) ≡ b → r ≡ verdict 36 port → left < new_figure h port word
        go true q x = ltb-true left (new_figure h port word) q
        go false q x = absurd (apart x (fits (ltb-false left (new_figure h port word) q)))

      by_success : r ≡ success ↔ new_figure h port word ≤ left
      by_success = ((λ x. go (ltb left (new_figure h port word)) refl x), fits) where
        go : (b : Bool) → ltb left (new_figure h port word) ≡ b → r ≡ success → new_figure h port word ≤ left
        go true q x = absurd (apart (exceeds (ltb-true left (new_figure h port word) q)) x)
        go false q x = ltb-false left (new_figure h port word) q

  -- ---- detach and remaining power

  detached_so : (port : ℕ) (r : Verdict) (zs : List Row) → SharesDetach ys capacity port r zs → IsAttached (length start) h port → r ≡ success
  unfolding detach_answer
  detached_so port r zs e a = e.0 ∙ all_missed verdict success (use_refusals capacity ys port) (use_passes port a)

  remains : (r : RemainingPower) → SharesRemaining ys capacity r → r ≡ record {
    verdict = success;
    power = half_watts (capacity - together
        (figures h) (length start));
  }
  unfolding remaining_answer
  remains r e =
      e
      ∙ all_missed no_power_left _ (remaining_refusals capacity ys) k.clear
      ∙ ap (λ (n : ℕ). record { verdict = success; power = half_watts (capacity - n) }) (same_together capacity start h ys k)

  after : AfterRun capacity start h ys
  after = record {
    within_capacity = subst (λ (n : ℕ). n ≤ capacity) (same_together capacity start h ys k) (sum_fits capacity ys k.clear);
    attach_list = λ port cable r zs e c. attach_next port cable r zs e c.from_1 c.to_count c.good_cable c.free;
    attach_only = attach_so;
    advertise_list = advertise_next;
    advertise_only = advertise_so;
    refused_36 = by_36;
    accepted_else = by_success;
    own_refusal = refused_own;
    request_only = request_so;
    detach_only = detach_so;
    detach_accepted = detached_so;
    remaining_power = remains;
  }

pub demand_3 : Demand3
demand_3 capacity start es ys run = after capacity start (known capacity start es) ys (run_kept capacity start es ys run)
