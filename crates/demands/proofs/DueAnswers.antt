-- Proves the claims of specs/DueAnswers.antt, from demand 3.
-- Assumes nothing.
use mathlib.Core.Path.{◌≡◌, refl, sym, ap, ◌∙◌, subst}
use mathlib.Core.Bool.{Bool, true, false, cond}
use mathlib.Core.List.{List, ◌∷◌}
use Prim.Native.Nat.{ℕ, ◌-◌, ◌<◌}
use native.Mathlib.Omega.{arith}
use lib.Dec.{eqb}
use lib.ListN.{length}
use borrow.Author.Tests.{eqb-true, eqb-false, eq-eqb}
use Rattle.verdicts.specs.declared.Verdict.{Verdict}
use Rattle.verdicts.specs.Refusals.{success}
use Rattle.lists.specs.declared.Words.{Words}
use Rattle.requests.specs.Answering.{answer_of}
use Rattle.ports.specs.declared.Row.{Row}
use Rattle.ports.specs.Rows.{row_of, port_row}
use Rattle.ports.specs.RuleLists.{rule_list}
use Rattle.ports.proofs.Asking.{accepts}
use Rattle.ports.proofs.Passing.{sound_at}
use Rattle.ports.proofs.Sound.{SoundAttached, sound_attached_lem}
use Rattle.ports.proofs.RuleLists.{attached_offerable}
use Rattle.board.specs.Promises.{SharesRequest}
use Rattle.demands.specs.Runs.{Event, attached, advertised, requested, detached, remained, Step, Run}
use Rattle.demands.specs.Figures.{Known, changed, if_accepted, max_of, wanted_of, known, IsAttached}
use Rattle.demands.specs.AfterRun.{AfterRun}
use Rattle.demands.specs.DueAnswers.{CanHold, ToAccept, due, verdict_in, Same, AcceptedExactly, DueAnswer, RowStays, FigureFrom15}
use Rattle.demands.proofs.BuiltLists.{BuiltFor, rule_list_for}
use Rattle.demands.proofs.Kept.{Agrees, Kept, run_kept, step_kept}
use Rattle.demands.proofs.Demand3.{demand_3}

-- ---- what stays known of a port where its row stays

same_of : (m wanted : ℕ) (before after : Known) (y z : Row) → Agrees m wanted before y → Agrees m wanted after z → z ≡ y
    → Same before after
same_of m wanted before after y z a b e =
    let c = sym b.cable_is ∙ ap (λ (x : Row). x.cable.0) e ∙ a.cable_is in
    record {
      cable = c;
      figure = sym b.held_is ∙ ap (λ (x : Row). x.held.0) e ∙ a.held_is;
      present = λ q. sym (b.present_is (ap (λ (n : ℕ). eqb n 0) c ∙ q)) ∙ ap (λ (x : Row). x.present.0) e ∙ a.present_is q;
    }

-- what an accepted call tells of its own port
pub told : (v : Verdict) (port : ℕ) (p : Known) (h : ℕ → Known) → v ≡ success → if_accepted v port p h (port - 1) ≡ p
unfolding changed
told v port p h e =
    ap (λ (u : Verdict). if_accepted u port p h (port - 1)) e ∙ ap (λ (b : Bool). cond b p (h (port - 1))) (eq-eqb (port - 1) (port - 1) refl)

-- ---- after every run

module _ (capacity : ℕ) (start : List Row) (es : List Event) (ys : List Row) (run : Run capacity start es ys) where
  abbrev h : ℕ → Known
  h = known capacity start es

  now : AfterRun capacity start h ys
  now = demand_3 capacity start es ys run

  kept : Kept capacity start h ys
  kept = run_kept capacity start es ys run

  -- the list that an attached port was last given is built for its M
  module _ (port : ℕ) (a : IsAttached (length start) h port) where
    at : port - 1 < length ys
    at = omega (arith, kept.count_is, a.from_1, a.to_count)

    agrees : Agrees (max_of start (port - 1)) (wanted_of start (port - 1)) (h (port - 1)) (port_row ys port)
    agrees = kept.each (port - 1) at

    sound : SoundAttached (port_row ys port)
    sound =
        sound_attached_lem (port_row ys port) (sound_at capacity ys kept.clear (port - 1) at)
        (ap (λ (n : ℕ). eqb n 0) agrees.cable_is ∙ a.cabled)

    pub last_list : BuiltFor (max_of start (port - 1)) (h (port - 1)).list
    last_list =
        subst (λ (w : Words). BuiltFor (max_of start (port - 1)) w) (sym (agrees.list_is a.cabled))
        (subst (λ (m : ℕ). BuiltFor m (rule_list (port_row ys port))) agrees.max_is
        (rule_list_for (port_row ys port) (attached_offerable (port_row ys port) sound)))

  -- the list allows what is accepted: else it is refused with the list's own refusal
  module _ (port word : ℕ) (r : Verdict) (zs : List Row) (s : SharesRequest ys capacity port word r zs) (q : r ≡ success) where
    abbrev list : Words
    list = (h (port - 1)).list

    abbrev in_use_lem : IsAttached (length start) h port
    in_use_lem = now.request_only port word r zs s q

    held_only : CanHold capacity (length start) h port word
    held_only = go (eqb (answer_of list word).number 0) refl where
      go : (b : Bool) → eqb (answer_of list word).number 0 ≡ b → CanHold capacity (length start) h port word
      go true t =
          let allowed = accepts list word (eqb-true (answer_of list word).number 0 t) in
          record { in_use = in_use_lem; allowed = allowed; power_there = (now.accepted_else port word r zs s in_use_lem allowed).0 q }
      go false t =
          let f : answer_of list word ≡ success → ⊥ = λ z. eqb-false (answer_of list word).number 0 t (ap (λ (v : Verdict). v.number) z) in
          absurd (f (sym (now.own_refusal port word r zs s in_use_lem f) ∙ q))

  accepted_only : (e : Event) (zs : List Row) → Step capacity ys e zs → verdict_in e ≡ success → ToAccept capacity (length start) h e
  accepted_only (attached port cable r) zs s q = now.attach_only port cable r zs s q
  accepted_only (advertised port r) zs s q = now.advertise_only port r zs s q
  accepted_only (requested port word r) zs s q = held_only port word r zs s q
  accepted_only (detached port r) zs s q = now.detach_only port r zs s q
  accepted_only (remained r) zs s q = tt

  due_accepts : (e : Event) → verdict_in (due capacity start h e) ≡ success
  due_accepts (attached port cable r) = refl
  due_accepts (advertised port r) = refl
  due_accepts (requested port word r) = refl
  due_accepts (detached port r) = refl
  due_accepts (remained r) = refl

pub figure_from_15 : FigureFrom15
figure_from_15 capacity start es ys run port a =
    omega (arith, (agrees capacity start es ys run port a).held_is, (sound capacity start es ys run port a).held_low)

pub row_stays : RowStays
row_stays capacity start es ys run e zs s k at q =
    let h = known capacity start es in
    let now = kept capacity start es ys run in
    let next = step_kept capacity start h ys now e zs s in
    same_of (max_of start k) (wanted_of start k) (h k) (known capacity start (e ∷ es) k) (row_of ys k) (row_of zs k)
    (now.each k (omega (arith, now.count_is))) (next.each k (omega (arith, next.count_is))) q

pub due_answer : DueAnswer
due_answer capacity start es ys run (attached port cable r) zs s a =
    ap (attached port cable) ((now capacity start es ys run).attach_list port cable r zs s a)
due_answer capacity start es ys run (advertised port r) zs s a =
    ap (advertised port) ((now capacity start es ys run).advertise_list port r zs s a)
due_answer capacity start es ys run (requested port word r) zs s a =
    ap (requested port word)
    (((now capacity start es ys run).accepted_else port word r zs s a.in_use a.allowed).1 a.power_there)
due_answer capacity start es ys run (detached port r) zs s a =
    ap (detached port) ((now capacity start es ys run).detach_accepted port r zs s a)
due_answer capacity start es ys run (remained r) zs s a = ap remained ((now capacity start es ys run).remaining_power r s.0)

pub accepted_exactly : AcceptedExactly
accepted_exactly capacity start es ys run e zs s = (
  accepted_only capacity start es ys run e zs s,
  λ a. ap verdict_in (due_answer capacity start es ys run e zs s a) ∙ due_accepts capacity start es ys run e,
)
