-- What is known of the ports and what their rows hold agree after every run: set-up makes it so, and each call keeps it.
-- Assumes nothing.
use mathlib.Core.Path.{◌≡◌, refl, sym, ap, ap₂, ◌∙◌, subst}
use mathlib.Core.Bool.{Bool, true, false, cond}
use mathlib.Core.List.{List, [], ◌∷◌, ◌++◌, map}
use mathlib.Core.Logic.{◌⊎◌, inl, inr, ⊎_elim}
use Prim.Native.Nat.{ℕ, ◌-◌, ◌<◌, min}
use lib.Dec.{eqb}
use lib.ListN.{length, length-set, length-map, set}
use borrow.Author.Tests.{eqb-true, eqb-false, eq-eqb, ne_eqb, not-false}
use Rattle.verdicts.specs.declared.Verdict.{Verdict}
use Rattle.verdicts.specs.Refusals.{Refusal, each_place, verdict, success, verdict_of, NoneApply}
use Rattle.verdicts.proofs.First.{none_left, none_right, none_applied, all_missed, refused_so, numbered}
use Rattle.lists.specs.declared.Words.{Words}
use Rattle.lists.specs.declared.Listing.{Listing}
use Rattle.lists.specs.Writing.{write_refused}
use Rattle.ports.specs.declared.Row.{Row}
use Rattle.ports.specs.Rows.{row_of, port_row, held_at, all_held, left_for, together, besides, emptied, present_for, offering, offered, holding}
use Rattle.ports.specs.RuleLists.{rule_pps, rule_profile, rule_list}
use Rattle.ports.specs.Requests.{held_for, new_held}
use Rattle.ports.specs.Refusing.{table_refusals, fresh_rows, set_up_refusals, remaining_refusals, port_refusals, cannot_attach, attach_refusals, use_refusals, own_refusals, no_power_now, request_refusals}
use Rattle.ports.specs.Lending.{set_up_answer, set_up_rows, attach_answer, attach_rows, advertise_answer, advertise_rows, request_answer, request_rows, detach_answer, detach_rows}
use Rattle.ports.proofs.Sound.{sound_empty_lem}
use Rattle.ports.proofs.Sums.{same_figures, others_agree}
use Rattle.ports.proofs.Passing.{table_passes, port_at, row_sound, use_port, in_use_lem, set_up_numbered, attach_numbered, use_numbered, request_numbered}
use Rattle.board.specs.Promises.{SharesAttach, SharesAdvertise, SharesRequest, SharesDetach}
use Rattle.demands.specs.SoundRows.{SoundRows}
use Rattle.demands.specs.Runs.{Event, attached, advertised, requested, detached, remained, Step, SetUp, Run}
use Rattle.demands.specs.Figures.{Known, empty, figures, smaller, changed, if_accepted, new_figure, learnt, max_of, wanted_of, known}
use Rattle.demands.proofs.SoundRows.{of_clear, to_clear, by_place, emptied_row, attach_keeps, advertise_keeps, request_keeps, detach_keeps, set_up_sounds}

-- ---- a row and what is known of its port

pub record Agrees (m wanted : ℕ) (p : Known) (y : Row) : Type 0 where
  pub max_is : y.max.0 ≡ m
  pub pps_is : y.pps ≡ wanted
  pub cable_is : y.cable.0 ≡ p.cable
  pub held_is : y.held.0 ≡ p.figure
  pub present_is : eqb p.cable 0 ≡ false → y.present.0 ≡ p.present
  pub list_is : eqb p.cable 0 ≡ false → p.list ≡ rule_list y

pub record Kept (capacity : ℕ) (start : List Row) (h : ℕ → Known) (ys : List Row) : Type 0 where
  pub clear : NoneApply (remaining_refusals capacity ys)
  pub count_is : length ys ≡ length start
  pub each : (k : ℕ) → k < length ys → Agrees (max_of start k) (wanted_of start k) (h k) (row_of ys k)

-- ---- the first call

emptied_agrees : (y : Row) → Agrees y.max.0 y.pps empty (emptied y)
unfolding emptied
emptied_agrees y = record {
  max_is = refl;
  pps_is = refl;
  cable_is = refl;
  held_is = refl;
  present_is = λ e. let z : true ≡ false = e in cc;
  list_is = λ e. let z : true ≡ false = e in cc;
}

module _ (capacity : ℕ) (start : List Row) where
  fresh : NoneApply (set_up_refusals capacity start) → Kept capacity start (λ k. empty) (map emptied start)
  fresh x =
      let table = none_left (table_refusals capacity (length start)) (each_place (fresh_rows start) (length start)) x in
      let c : length (map emptied start) ≡ length start = length-map start emptied in
      record {
        clear = to_clear capacity (map emptied start) (subst (λ (n : ℕ). NoneApply (table_refusals capacity n)) (sym c) table)
            (set_up_sounds capacity start x);
        count_is = c;
        each = λ k h.
            let l : k < length start = subst (λ (n : ℕ). k < n) c h in
            subst (Agrees (max_of start k) (wanted_of start k) empty) (sym (emptied_row start k l)) (emptied_agrees (row_of start k));
      }

  pub set_up_kept : (ys : List Row) → SetUp capacity start ys → Kept capacity start (λ k. empty) ys
  unfolding set_up_answer set_up_rows
  set_up_kept ys s =
      let rs = set_up_refusals capacity start in
      let e : verdict_of rs ≡ success = sym s.said.0 ∙ s.accepted in
      let x = none_applied rs (set_up_numbered capacity start) (ap (λ (v : Verdict). v.number) e) in
      subst (Kept capacity start (λ k. empty)) (sym (s.said.1 ∙ all_missed (λ n p. start) (map emptied start) rs x)) (fresh x)

-- ---- accepted or refused

either : (rs : List Refusal) → numbered rs ≡ true → NoneApply rs ⊎ ((verdict_of rs).number ≡ 0 → ⊥)
either rs t = go (eqb (verdict_of rs).number 0) refl where
  go : (b : Bool) → eqb (verdict_of rs).number 0 ≡ b → NoneApply rs ⊎ ((verdict_of rs).number ≡ 0 → ⊥)
  go true e = inl (none_applied rs t (eqb-true (verdict_of rs).number 0 e))
  go false e = inr (eqb-false (verdict_of rs).number 0 e)

-- what is learnt and the rows, by the outcome
module _ (capacity : ℕ) (start : List Row) (h : ℕ → Known) (ys : List Row) (k : Kept capacity start h ys) where
  refused_kept : (v : Verdict) (port : ℕ) (p : Known) (zs : List Row) → (v.number ≡ 0 → ⊥) → zs ≡ ys → Kept capacity start (if_accepted v port p h) zs
  refused_kept v port p zs f e =
      subst (λ (g : ℕ → Known). Kept capacity start g zs) (sym (ap (λ (b : Bool). cond b (changed (port - 1) p h) h) (ne_eqb v.number 0 f)))
      (subst (Kept capacity start h) (sym e) k)

  -- a row written, and what is known of its port
  written_kept : (i : ℕ) (p : Known) (y : Row) → i < length ys → Agrees (max_of start i) (wanted_of start i) p y → SoundRows capacity (set ys i y)
      → Kept capacity start (changed i p h) (set ys i y)
  unfolding changed
  written_kept i p y at new sound =
      let table = table_passes capacity ys k.clear in
      let c : length (set ys i y) ≡ length ys = length-set ys i y in
      record {
        clear = to_clear capacity (set ys i y) (subst (λ (n : ℕ). NoneApply (table_refusals capacity n)) (sym c) table) sound;
        count_is = c ∙ k.count_is;
        each =
            by_place capacity ys i y at (λ (j : ℕ) (z : Row). Agrees (max_of start j) (wanted_of start j)
            (changed i p h j) z)
            (subst (λ (q : Known). Agrees (max_of start i) (wanted_of start i) q y) (sym (ap (λ (b : Bool). cond b p (h i)) (eq-eqb i i refl))) new)
            (λ j l f. subst (λ (q : Known). Agrees (max_of start j) (wanted_of start j) q (row_of ys j)) (sym (ap (λ (b : Bool). cond b p
            (h j)) (ne_eqb j i f))) (k.each j l));
      }

  accepted_kept : (v : Verdict) (port : ℕ) (p : Known) (y : Row) (zs : List Row) → v.number ≡ 0 → zs ≡ set ys (port - 1) y
      → port - 1 < length ys
      → Agrees (max_of start (port - 1)) (wanted_of start (port - 1)) p y → SoundRows capacity zs → Kept capacity start (if_accepted v port p h) zs
  accepted_kept v port p y zs z e at new sound =
      subst (λ (g : ℕ → Known). Kept capacity start g zs) (sym (ap (λ (b : Bool). cond b (changed (port - 1) p h) h) (eq-eqb v.number 0 z)))
      (subst (Kept capacity start (changed (port - 1) p h)) (sym e) (written_kept (port - 1) p y at new (subst (SoundRows capacity) e sound)))

  -- ---- the figures are what the rows hold

  pub same_besides : (i : ℕ) → together (besides i (held_at ys)) (length ys) ≡ together (besides i (figures h)) (length start)
  same_besides i =
      others_agree i (held_at ys) (figures h) (length ys) (λ j l f. (k.each j l).held_is)
      ∙ ap (together (besides i (figures h))) k.count_is

  pub same_together : all_held ys ≡ together (figures h) (length start)
  same_together =
      same_figures (held_at ys) (figures h) (length ys) (λ j l. (k.each j l).held_is) ∙ ap (together (figures h)) k.count_is

  pub same_left : (port : ℕ) → left_for capacity ys port ≡ capacity - together (besides (port - 1) (figures h)) (length start)
  same_left port = ap (λ (n : ℕ). capacity - n) (same_besides (port - 1))

  module _ (port : ℕ) (at : port - 1 < length ys) where
    abbrev row : Row
    row = port_row ys port

    abbrev of : Known
    of = h (port - 1)

    now_agrees : Agrees (max_of start (port - 1)) (wanted_of start (port - 1)) of row
    now_agrees = k.each (port - 1) at

    pub same_present : present_for capacity ys port ≡ smaller capacity (length start) (max_of start) h port
    unfolding present_for
    same_present = ap₂ min now_agrees.max_is (same_left port)

    pub same_held : eqb of.cable 0 ≡ false → (word : ℕ) → new_held row word ≡ new_figure h port word
    same_held e word = ap₂ (λ (l : Words) (n : ℕ). held_for l n word) (sym (now_agrees.list_is e)) (now_agrees.present_is e)

    pub same_cable : eqb row.cable.0 0 ≡ eqb of.cable 0
    same_cable = ap (λ (n : ℕ). eqb n 0) now_agrees.cable_is

    -- what is written agrees with what is learnt
    offer_agrees : (cable figure : ℕ) → row.held.0 ≡ figure
        → Agrees (max_of start (port - 1)) (wanted_of start (port - 1)) (record {
          cable = cable;
          list = rule_list (offered capacity
              ys port cable);
          present = smaller capacity (length start) (max_of start) h port;
          figure = figure;
        }) (offered capacity
        ys port cable)
    unfolding offering present_for
    offer_agrees cable figure e = record {
      max_is = now_agrees.max_is;
      pps_is = now_agrees.pps_is;
      cable_is = refl;
      held_is = e;
      present_is = λ q. same_present;
      list_is = λ q. refl;
    }

    hold_agrees : eqb of.cable 0 ≡ false → (word : ℕ)
        → Agrees (max_of start (port - 1)) (wanted_of start (port - 1))
        (record { cable = of.cable; list = of.list; present = of.present; figure = new_figure h port word }) (holding row (new_held row word))
    unfolding holding rule_profile rule_pps
    hold_agrees e word = record {
      max_is = now_agrees.max_is;
      pps_is = now_agrees.pps_is;
      cable_is = now_agrees.cable_is;
      held_is = same_held e word;
      present_is = now_agrees.present_is;
      list_is = now_agrees.list_is;
    }

    empty_agrees : Agrees (max_of start (port - 1)) (wanted_of start (port - 1)) empty (emptied row)
    empty_agrees = subst (λ (m : ℕ). Agrees m (wanted_of start (port - 1)) empty (emptied row)) now_agrees.max_is (subst (λ (w : ℕ). Agrees
        row.max.0 w empty (emptied row)) now_agrees.pps_is (emptied_agrees row))

-- ---- each call

module _ (capacity : ℕ) (start : List Row) (h : ℕ → Known) (ys : List Row) (k : Kept capacity start h ys) where
  sound : SoundRows capacity ys
  sound = of_clear capacity ys k.clear

  module _ (port cable : ℕ) (r : Listing) (zs : List Row) (e : SharesAttach ys capacity port cable r zs) where
    abbrev attach_table : List Refusal
    attach_table = attach_refusals capacity ys port cable

    abbrev attach_writes : Row
    attach_writes = offered capacity ys port cable

    abbrev attach_tells : Known
    attach_tells = record { cable = cable; list = r.list; present = smaller capacity (length start) (max_of start) h port; figure = 15 }

    attach_refused : ((verdict_of attach_table).number ≡ 0 → ⊥) → Kept capacity start (if_accepted r.verdict port attach_tells h) zs
    unfolding attach_answer attach_rows
    attach_refused f =
        refused_kept capacity start h ys k r.verdict port attach_tells zs
        (λ z. f (sym (ap (λ (l : Listing). l.verdict.number) (e.0 ∙ refused_so write_refused attach_table f
        (record { verdict = success; list = rule_list attach_writes }))) ∙ z))
        (e.1 ∙ refused_so (λ n q. ys) attach_table f (set ys (port - 1) attach_writes))

    attach_accepted : NoneApply attach_table → Kept capacity start (if_accepted r.verdict port attach_tells h) zs
    unfolding attach_answer attach_rows
    attach_accepted x =
        let told : r ≡ record { verdict = success; list = rule_list attach_writes } = e.0 ∙ all_missed write_refused _ attach_table x in
        let port-x = none_left (port_refusals capacity ys port) (cannot_attach (port_row ys port) port cable) x in
        let at = port_at capacity ys port port-x in
        let free = (none_right (port_refusals capacity ys port) (cannot_attach (port_row ys port) port cable) x).1.0 in
        let held = (sound_empty_lem (port_row ys port) (row_sound capacity ys port port-x) (not-false (eqb (port_row
        ys port).cable.0 0) free)).held_15 in
        accepted_kept capacity start h ys k r.verdict port attach_tells attach_writes zs (ap (λ (l : Listing). l.verdict.number) told)
        (e.1 ∙ all_missed (λ n q. ys) _ attach_table x) at
        (subst (λ (l : Words). Agrees (max_of start (port - 1)) (wanted_of start (port - 1))
        (record { cable = cable; list = l; present = smaller capacity (length start) (max_of start) h port; figure = 15 }) attach_writes)
        (sym (ap (λ (l : Listing). l.list) told)) (offer_agrees capacity start h ys k port at cable 15 held))
        (attach_keeps capacity ys sound port cable r zs e)

    attach_kept : Kept capacity start (learnt capacity (length start) (max_of start) h (attached port cable r)) zs
    attach_kept = ⊎_elim attach_accepted attach_refused (either attach_table (attach_numbered capacity ys port cable))

  module _ (port : ℕ) (r : Listing) (zs : List Row) (e : SharesAdvertise ys capacity port r zs) where
    abbrev advertise_table : List Refusal
    advertise_table = use_refusals capacity ys port

    abbrev advertise_writes : Row
    advertise_writes = offered capacity ys port (port_row ys port).cable.0

    abbrev advertise_tells : Known
    advertise_tells = record {
      cable = (h (port - 1)).cable;
      list = r.list;
      present = smaller capacity (length start)
          (max_of start) h port;
      figure = (h (port - 1)).figure;
    }

    advertise_refused : ((verdict_of advertise_table).number ≡ 0 → ⊥) → Kept capacity start (if_accepted r.verdict port advertise_tells h) zs
    unfolding advertise_answer advertise_rows
    advertise_refused f =
        refused_kept capacity start h ys k r.verdict port advertise_tells zs
        (λ z. f (sym (ap (λ (l : Listing). l.verdict.number) (e.0 ∙ refused_so write_refused advertise_table f
        (record { verdict = success; list = rule_list advertise_writes }))) ∙ z))
        (e.1 ∙ refused_so (λ n q. ys) advertise_table f (set ys (port - 1) advertise_writes))

    advertise_accepted : NoneApply advertise_table → Kept capacity start (if_accepted r.verdict port advertise_tells h) zs
    unfolding advertise_answer advertise_rows
    advertise_accepted x =
        let told : r ≡ record { verdict = success; list = rule_list advertise_writes } = e.0 ∙ all_missed write_refused _ advertise_table x in
        let at = port_at capacity ys port (use_port capacity ys port x) in
        let now = k.each (port - 1) at in
        accepted_kept capacity start h ys k r.verdict port advertise_tells advertise_writes zs (ap (λ
        (l : Listing). l.verdict.number) told) (e.1 ∙ all_missed (λ n q. ys) _ advertise_table x) at
        (subst (λ (l : Words). Agrees (max_of start (port - 1)) (wanted_of start (port - 1)) (record {
          cable = (h
              (port - 1)).cable;
          list = l;
          present = smaller capacity (length start) (max_of start) h port;
          figure = (h
              (port - 1)).figure;
        }) advertise_writes)
        (sym (ap (λ (l : Listing). l.list) told))
        (subst (λ (c : ℕ). Agrees (max_of start (port - 1)) (wanted_of start (port - 1))
        (record {
          cable = c;
          list = rule_list advertise_writes;
          present = smaller capacity (length start) (max_of start) h port;
          figure = (h
              (port - 1)).figure;
        }) advertise_writes)
        now.cable_is (offer_agrees capacity start h ys k port at (port_row ys port).cable.0 (h (port - 1)).figure now.held_is)))
        (advertise_keeps capacity ys sound port r zs e)

    advertise_kept : Kept capacity start (learnt capacity (length start) (max_of start) h (advertised port r)) zs
    advertise_kept = ⊎_elim advertise_accepted advertise_refused (either advertise_table (use_numbered capacity ys port))

  module _ (port word : ℕ) (r : Verdict) (zs : List Row) (e : SharesRequest ys capacity port word r zs) where
    abbrev request_table : List Refusal
    request_table = request_refusals capacity ys port word

    abbrev request_writes : Row
    request_writes = holding (port_row ys port) (new_held (port_row ys port) word)

    abbrev request_tells : Known
    request_tells = record { cable = (h (port - 1)).cable; list = (h (port - 1)).list; present = (h (port - 1)).present; figure = new_figure h port word }

    request_refused : ((verdict_of request_table).number ≡ 0 → ⊥) → Kept capacity start (if_accepted r port request_tells h) zs
    unfolding request_answer request_rows
    request_refused f = refused_kept capacity start h ys k r port request_tells zs (λ z. f (sym (ap (λ (v : Verdict). v.number) e.0)
        ∙ z)) (e.1 ∙ refused_so (λ n q. ys) request_table f (set ys (port - 1) request_writes))

    request_accepted : NoneApply request_table → Kept capacity start (if_accepted r port request_tells h) zs
    unfolding request_answer request_rows
    request_accepted x =
        let u = none_left (use_refusals capacity ys port) (own_refusals (port_row ys port) word ++ no_power_now (left_for capacity ys port) (port_row ys port) port word) x in
        let at = port_at capacity ys port (use_port capacity ys port u) in
        let cabled = sym (same_cable capacity start h ys k port at) ∙ in_use_lem capacity ys port u in
        accepted_kept capacity start h ys k r port request_tells request_writes zs (ap (λ (v : Verdict). v.number) (e.0
        ∙ all_missed verdict success request_table x)) (e.1 ∙ all_missed (λ n q. ys) _ request_table x) at
        (hold_agrees capacity start h ys k port at cabled word) (request_keeps capacity ys sound port word r zs e)

    request_kept : Kept capacity start (learnt capacity (length start) (max_of start) h (requested port word r)) zs
    request_kept = ⊎_elim request_accepted request_refused (either request_table (request_numbered capacity ys port word))

  module _ (port : ℕ) (r : Verdict) (zs : List Row) (e : SharesDetach ys capacity port r zs) where
    abbrev detach_table : List Refusal
    detach_table = use_refusals capacity ys port

    detach_refused : ((verdict_of detach_table).number ≡ 0 → ⊥) → Kept capacity start (if_accepted r port empty h) zs
    unfolding detach_answer detach_rows
    detach_refused f = refused_kept capacity start h ys k r port empty zs (λ z. f (sym (ap (λ (v : Verdict). v.number) e.0) ∙ z)) (e.1
        ∙ refused_so (λ n q. ys) detach_table f (set ys (port - 1) (emptied (port_row ys port))))

    detach_accepted : NoneApply detach_table → Kept capacity start (if_accepted r port empty h) zs
    unfolding detach_answer detach_rows
    detach_accepted x =
        let at = port_at capacity ys port (use_port capacity ys port x) in
        accepted_kept capacity start h ys k r port empty (emptied (port_row ys port)) zs (ap (λ (v : Verdict). v.number) (e.0
        ∙ all_missed verdict success detach_table x)) (e.1 ∙ all_missed (λ n q. ys) _ detach_table x) at
        (empty_agrees capacity start h ys k port at) (detach_keeps capacity ys sound port r zs e)

    detach_kept : Kept capacity start (learnt capacity (length start) (max_of start) h (detached port r)) zs
    detach_kept = ⊎_elim detach_accepted detach_refused (either detach_table (use_numbered capacity ys port))

  pub step_kept : (e : Event) (zs : List Row) → Step capacity ys e zs → Kept capacity start (learnt capacity (length start) (max_of start) h e) zs
  step_kept (attached port cable r) zs s = attach_kept port cable r zs s
  step_kept (advertised port r) zs s = advertise_kept port r zs s
  step_kept (requested port word r) zs s = request_kept port word r zs s
  step_kept (detached port r) zs s = detach_kept port r zs s
  step_kept (remained r) zs s = subst (Kept capacity start h) (sym s.1) k

-- after every run
pub run_kept : (capacity : ℕ) (start : List Row) (es : List Event) (ys : List Row) → Run capacity start es ys
    → Kept capacity start (known capacity start es) ys
run_kept capacity start [] ys r = set_up_kept capacity start ys r
run_kept capacity start (e ∷ es) zs r = step_kept capacity start (known capacity start es) r.rows (run_kept capacity start es r.rows
    r.before) e zs r.call
