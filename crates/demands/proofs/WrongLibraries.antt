-- Proves the claims of specs/WrongLibraries.antt, on lists from demands 1 and 2, on sharing from what calls are due after a run.
-- Assumes nothing.
use mathlib.Core.Path.{◌≡◌, refl, sym, ap, ◌∙◌, subst}
use mathlib.Core.Bool.{false, true≢false}
use mathlib.Core.List.{List, ◌∷◌}
use Prim.Native.Nat.{ℕ, ◌-◌, ◌≤◌, ◌<◌}
use native.Mathlib.Omega.{arith}
use lib.Dec.{eqb}
use lib.ListN.{length}
use Rattle.verdicts.specs.declared.Verdict.{Verdict}
use Rattle.verdicts.specs.Refusals.{success, NoneApply}
use Rattle.verdicts.proofs.First.{all_missed}
use Rattle.steps.proofs.RangeLaws.{inside}
use Rattle.lists.specs.declared.Words.{Words}
use Rattle.lists.specs.declared.Listing.{Listing}
use Rattle.lists.specs.Reading.{read_of}
use Rattle.lists.specs.Writing.{write_of}
use Rattle.rules.specs.declared.Profile.{Profile}
use Rattle.rules.specs.declared.Profiled.{Profiled}
use Rattle.rules.specs.Profiles.{half_watts, build_refusals, default_refusals, default_of, profile_refused}
use Rattle.rules.specs.Building.{built_count, built_words}
use Rattle.rules.proofs.Builds.{build_clear}
use Rattle.ports.specs.declared.Row.{Row}
use Rattle.ports.specs.declared.RemainingPower.{RemainingPower}
use Rattle.ports.specs.Rows.{port_row, together}
use Rattle.ports.specs.Refusing.{set_up_refusals}
use Rattle.ports.proofs.Sound.{cable_not_0}
use Rattle.ports.proofs.Sums.{others_at_most}
use Rattle.board.specs.Promises.{SharesAttach, SharesAdvertise, SharesRequest, SharesDetach, SharesRemaining}
use Rattle.demands.specs.FlatContracts.{ArinShapeAnswers}
use Rattle.demands.specs.Runs.{Event, attached, advertised, requested, detached, Step, Run}
use Rattle.demands.specs.Figures.{Known, empty, figures, smaller, new_figure, max_of, known, IsAttached, CanAttach}
use Rattle.demands.specs.DueAnswers.{ToAccept, due, verdict_in, list_in, Same}
use Rattle.demands.specs.Libraries.{Library, Meets}
use Rattle.demands.specs.WrongLibraries.{no_current, ListsServed, BuiltServed, SharingServed}
use Rattle.demands.proofs.SharingRefusals.{set_up_refusals_lem}
use Rattle.demands.proofs.FlatRefusals.{arin_default_refusals, arin_build_refusals, arin_shape_refusals, arin_answer_refusals}
use Rattle.demands.proofs.RoundTrips.{read_then_write}
use Rattle.demands.proofs.FlatRoundTrips.{arin_read_then_write}
use Rattle.demands.proofs.PowerRules.{built_passes, built_returns}
use Rattle.demands.proofs.BuiltLists.{BuiltFor, for_shaped, for_typed, for_past_5_V}
use Rattle.demands.proofs.NoCurrent.{no_current_clear, no_current_allowed, no_current_holds_15}
use Rattle.demands.proofs.Demand3.{demand_3}
use Rattle.demands.proofs.DueAnswers.{told, last_list, figure_from_15, row_stays, due_answer, accepted_exactly}

-- ---- on lists, and set-up

module _ (l : Library) (m : Meets l) where
  -- ---- 1, a library that refuses everything

  pub default_given : (n : ℕ) → 1 ≤ n → n ≤ 200 → (l.default n).verdict ≡ success
  default_given n low high = (arin_default_refusals n (l.default n) (m.defaults n)).0.0.1 (inside 1 200 n low high, tt)

  pub set_up_given : (ys : List Row) (capacity : ℕ) → NoneApply (set_up_refusals capacity ys) → (l.set_up ys capacity).0 ≡ success
  set_up_given ys capacity clear =
      (set_up_refusals_lem ys capacity (l.set_up ys capacity).0 (l.set_up ys capacity).1 (m.sets_up ys capacity)).0.0.1 clear

  module _ (p : Profile) (clear : NoneApply (build_refusals p)) where
    abbrev built : Words
    built = (l.build p).list

    pub list_built : (l.build p).verdict ≡ success
    list_built = (arin_build_refusals p (l.build p) (m.builds p)).0.0.1 clear

    list_is : built ≡ built_words p
    list_is = ap (λ (r : Listing). r.list) (m.builds p ∙ build_clear p clear)

    built_for : BuiltFor p.max.0 built
    built_for = record { profile = p; max_is = refl; passes = clear; list_is = list_is }

    pub built_shaped : l.shape built ≡ success
    built_shaped = (arin_shape_refusals built (l.shape built) (m.shapes built)).0.1 (for_shaped p.max.0 built built_for)

    pub built_checked : l.check p built ≡ success
    built_checked = built_passes p (l.build p) (m.builds p) list_built (l.check p built) (m.checks p built)

    read_and_written : ((l.read built).verdict ≡ success) × (l.write (l.read built).list ≡ l.build p)
    read_and_written =
        let typed = for_typed p.max.0 built built_for in
        let shaped : ArinShapeAnswers built success = subst (ArinShapeAnswers built) built_shaped (m.shapes built) in
        let objects = (l.read built).list in
        let flat = arin_read_then_write built typed shaped (l.read built) (m.reads built) (l.write objects) (m.writes objects) in
        let words = write_of (read_of built).list in (
          flat.0,
          flat.1
              ∙ sym (read_then_write built typed shaped (read_of built) refl words refl).1
              ∙ (built_returns p (l.build p) (m.builds p) list_built (read_of built) refl words refl).1,
        )

    pub built_read : (l.read built).verdict ≡ success
    built_read = read_and_written.0

    pub built_written : l.write (l.read built).list ≡ l.build p
    built_written = read_and_written.1

    pub built_answered : l.answer built no_current ≡ success
    built_answered =
        (arin_answer_refusals built no_current (l.answer built no_current) (m.answers built no_current)).0.1
        (no_current_clear built (for_shaped p.max.0 built built_for))

    -- ---- 3, one that always gives the 5 V list

    pub built_past_5_V : 30 < p.max.0 → 1 < (l.build p).list.count
    built_past_5_V = for_past_5_V p.max.0 built built_for

    -- ---- 6, one that invents counts

    pub no_other_built_count : (n : ℕ) → (n ≡ built_count p → ⊥) → (l.build p).list.count ≡ n → ⊥
    no_other_built_count n f e = f (sym e ∙ ap (λ (w : Words). w.count) list_is)

  -- 1, from M alone to a list
  pub default_builds : (n : ℕ) → 1 ≤ n → n ≤ 200 → (l.build (l.default n).profile).verdict ≡ success
  unfolding default_of
  default_builds n low high =
      let given = inside 1 200 n low high in
      let e = m.defaults n ∙ all_missed profile_refused _ (default_refusals (half_watts n)) (given, tt) in
      list_built (l.default n).profile
      (subst (λ (r : Profiled). NoneApply (build_refusals r.profile)) (sym e)
      (given, (inside 1 n n low (omega arith), (refl, (refl, (refl, (refl, tt)))))))

pub lists_served : ListsServed
lists_served l m = record { default_given = default_given l m; default_builds = default_builds l m; set_up_given = set_up_given l m }

pub built_served : BuiltServed
built_served l m p clear = record {
  list_built = list_built l m p clear;
  built_shaped = built_shaped l m p clear;
  built_checked = built_checked l m p clear;
  built_read = built_read l m p clear;
  built_written = built_written l m p clear;
  built_answered = built_answered l m p clear;
  built_past_5_V = built_past_5_V l m p clear;
  no_other_built_count = no_other_built_count l m p clear;
}

-- ---- on sharing: `Step` at a library's own answers is what `Meets` says

module _ (capacity : ℕ) (start : List Row) (es : List Event) (ys : List Row) (run : Run capacity start es ys) where
  abbrev h : ℕ → Known
  h = known capacity start es

  abbrev count : ℕ
  count = length start

  -- ---- 1 and 2, one that refuses everything, attaches no port or accepts no shared request

  pub nothing_refused : (e : Event) (zs : List Row) → Step capacity ys e zs → ToAccept capacity count h e → verdict_in e ≡ success
  nothing_refused e zs s = (accepted_exactly capacity start es ys run e zs s).1

  pub no_current_accepted : (port : ℕ) (r : Verdict) (zs : List Row) → SharesRequest ys capacity port no_current r zs → IsAttached count h port
      → r ≡ success
  no_current_accepted port r zs s a =
      let list = (h (port - 1)).list in
      let shaped = for_shaped (max_of start (port - 1)) list (last_list capacity start es ys run port a) in
      nothing_refused (requested port no_current r) zs s (record {
        in_use = a;
        allowed = no_current_allowed list shaped;
        power_there = omega (
          arith,
          no_current_holds_15 list shaped (h (port - 1)).present,
          figure_from_15 capacity start es ys run port a,
          others_at_most (port - 1) (figures h) count (omega (arith, a.from_1, a.to_count)),
          (demand_3 capacity start es ys run).within_capacity,
        );
      })

  -- ---- what one call more tells of a port

  module _ (e : Event) (zs : List Row) (s : Step capacity ys e zs) (port : ℕ) (p : Known) (t : known capacity start (e ∷ es) (port - 1) ≡ p) where
    told_past_5_V : 1 ≤ port → port ≤ count → eqb p.cable 0 ≡ false → 30 < max_of start (port - 1) → 1 < p.list.count
    told_past_5_V low high cabled big =
        subst (λ (q : Known). 1 < q.list.count) t
        (for_past_5_V (max_of start (port - 1)) (known capacity start (e ∷ es) (port - 1)).list
        (last_list capacity start (e ∷ es) zs (record { rows = ys; before = run; call = s }) port
        (record { from_1 = low; to_count = high; cabled = ap (λ (q : Known). eqb q.cable 0) t ∙ cabled })) big)

    told_same : 1 ≤ port → port ≤ count → port_row zs port ≡ port_row ys port → Same (h (port - 1)) p
    told_same low high stays =
        subst (Same (h (port - 1))) t (row_stays capacity start es ys run e zs s (port - 1) (omega (arith, low, high)) stays)

  -- ---- 3, one that always gives the 5 V list

  pub attached_past_5_V : (port cable : ℕ) (r : Listing) (zs : List Row) → SharesAttach ys capacity port cable r zs → CanAttach count h port cable
      → 30 < max_of start (port - 1) → 1 < r.list.count
  attached_past_5_V port cable r zs s a =
      told_past_5_V (attached port cable r) zs s port _ (told r.verdict port _ h (nothing_refused (attached port cable r) zs s a))
      a.from_1 a.to_count (cable_not_0 cable a.good_cable)

  pub advertised_past_5_V : (port : ℕ) (r : Listing) (zs : List Row) → SharesAdvertise ys capacity port r zs → IsAttached count h port
      → 30 < max_of start (port - 1) → 1 < r.list.count
  advertised_past_5_V port r zs s a =
      told_past_5_V (advertised port r) zs s port _ (told r.verdict port _ h (nothing_refused (advertised port r) zs s a))
      a.from_1 a.to_count a.cabled

  -- ---- 4, one that ignores requests or never changes a row

  pub request_changes_row : (port word : ℕ) (r : Verdict) (zs : List Row) → SharesRequest ys capacity port word r zs → r ≡ success
      → (new_figure h port word ≡ (h (port - 1)).figure → ⊥) → port_row zs port ≡ port_row ys port → ⊥
  request_changes_row port word r zs s q f stays =
      let a = ((accepted_exactly capacity start es ys run (requested port word r) zs s).0 q).in_use in
      f (told_same (requested port word r) zs s port _ (told r port _ h q) a.from_1 a.to_count stays).figure

  pub attach_changes_row : (port cable : ℕ) (r : Listing) (zs : List Row) → SharesAttach ys capacity port cable r zs → CanAttach count h port cable
      → port_row zs port ≡ port_row ys port → ⊥
  attach_changes_row port cable r zs s a stays =
      let t = told r.verdict port _ h (nothing_refused (attached port cable r) zs s a) in
      let same = told_same (attached port cable r) zs s port _ t a.from_1 a.to_count stays in
      true≢false (sym a.free ∙ ap (λ (n : ℕ). eqb n 0) (sym same.cable) ∙ cable_not_0 cable a.good_cable)

  pub advertise_changes_row : (port : ℕ) (r : Listing) (zs : List Row) → SharesAdvertise ys capacity port r zs → IsAttached count h port
      → (smaller capacity count (max_of start) h port ≡ (h (port - 1)).present → ⊥) → port_row zs port ≡ port_row ys port → ⊥
  advertise_changes_row port r zs s a f stays =
      let t = told r.verdict port _ h (nothing_refused (advertised port r) zs s a) in
      f ((told_same (advertised port r) zs s port _ t a.from_1 a.to_count stays).present a.cabled)

  pub detach_changes_row : (port : ℕ) (r : Verdict) (zs : List Row) → SharesDetach ys capacity port r zs → IsAttached count h port
      → port_row zs port ≡ port_row ys port → ⊥
  detach_changes_row port r zs s a stays =
      let t = told r port empty h (nothing_refused (detached port r) zs s a) in
      let same = told_same (detached port r) zs s port empty t a.from_1 a.to_count stays in
      true≢false (ap (λ (n : ℕ). eqb n 0) same.cable ∙ a.cabled)

  module _ (e : Event) (zs : List Row) (s : Step capacity ys e zs) where
    -- ---- 5, one that serves the first call of a run and afterwards only nods; its rows change as in 4

    pub no_nod : (ToAccept capacity count h e → ⊥) → verdict_in e ≡ success → ⊥
    no_nod f q = f ((accepted_exactly capacity start es ys run e zs s).0 q)

    module _ (a : ToAccept capacity count h e) where
      as_due : list_in e ≡ list_in (due capacity start h e)
      as_due = ap list_in (due_answer capacity start es ys run e zs s a)

      pub no_other_list : (old : Words) → (old ≡ list_in (due capacity start h e) → ⊥) → list_in e ≡ old → ⊥
      no_other_list old f q = f (sym q ∙ as_due)

      -- ---- 6, one that invents counts or remaining power

      pub no_other_count : (n : ℕ) → (n ≡ (list_in (due capacity start h e)).count → ⊥) → (list_in e).count ≡ n → ⊥
      no_other_count n f q = f (sym q ∙ ap (λ (w : Words). w.count) as_due)

  pub no_other_power : (r : RemainingPower) → SharesRemaining ys capacity r → (n : ℕ) → (n ≡ capacity - together (figures h) count → ⊥)
      → r.power.0 ≡ n → ⊥
  no_other_power r s n f q = f (sym q ∙ ap (λ (x : RemainingPower). x.power.0) ((demand_3 capacity start es ys run).remaining_power r s))

pub sharing_served : SharingServed
sharing_served capacity start es ys run = record {
  nothing_refused = nothing_refused capacity start es ys run;
  no_current_accepted = no_current_accepted capacity start es ys run;
  attached_past_5_V = attached_past_5_V capacity start es ys run;
  advertised_past_5_V = advertised_past_5_V capacity start es ys run;
  request_changes_row = request_changes_row capacity start es ys run;
  attach_changes_row = attach_changes_row capacity start es ys run;
  advertise_changes_row = advertise_changes_row capacity start es ys run;
  detach_changes_row = detach_changes_row capacity start es ys run;
  no_nod = no_nod capacity start es ys run;
  no_other_list = no_other_list capacity start es ys run;
  no_other_count = no_other_count capacity start es ys run;
  no_other_power = no_other_power capacity start es ys run;
}
