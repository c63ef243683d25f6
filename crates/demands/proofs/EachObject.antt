-- What holds of the object at each slot holds of every object of a built list; and the lists that attach and advertise give are built, for the row
-- that they leave.
-- Assumes nothing.
use mathlib.Core.Path.{◌≡◌, sym, ap, ◌∙◌, subst}
use mathlib.Core.Bool.{Bool, true}
use mathlib.Core.List.{List}
use Prim.Native.Nat.{ℕ, ◌-◌}
use lib.Dec.{eqb}
use lib.Seq.{get_or-set_same}
use Rattle.verdicts.specs.Refusals.{success, NoneApply}
use Rattle.verdicts.proofs.First.{all_missed, none_left, none_right}
use Rattle.objects.specs.declared.Object.{Object}
use Rattle.objects.proofs.Saying.{decoded_is}
use Rattle.lists.specs.declared.Listing.{Listing}
use Rattle.lists.specs.Writing.{write_refused}
use Rattle.rules.specs.declared.Profile.{Profile}
use Rattle.rules.specs.Profiles.{build_refusals}
use Rattle.rules.specs.Tables.{Slot}
use Rattle.rules.specs.Building.{object_for, built_words, built_of}
use Rattle.rules.proofs.Slots.{slot_good}
use Rattle.rules.proofs.BuiltPasses.{good, known}
use Rattle.ports.specs.declared.Row.{Row}
use Rattle.ports.specs.Rows.{no_row, port_row, offered}
use Rattle.ports.specs.RuleLists.{rule_profile}
use Rattle.ports.specs.Refusing.{port_refusals, cannot_attach, attach_refusals, use_refusals}
use Rattle.ports.specs.Lending.{attach_answer, attach_rows, advertise_answer, advertise_rows, offered_again}
use Rattle.ports.proofs.Passing.{port_at, use_port, cable_kept}
use Rattle.ports.proofs.Offering.{list_offered}
use Rattle.board.specs.Promises.{SharesAttach, SharesAdvertise}
use Rattle.demands.specs.CallContracts.{BuildAnswers}
use Rattle.demands.specs.EachObject.{OfObject, EachObject}
use Rattle.demands.proofs.SharingRefusals.{attach_refusals_lem, advertise_refusals}
use Rattle.demands.proofs.PowerRules.{built_clear, built_list}

-- ---- a built list

module _ (Q : Object → Type 0) (p : Profile) (each : (first : Bool) (s : Slot) → slot_good s ≡ true → Q (object_for p first s)) where
  words_each : NoneApply (build_refusals p) → EachObject Q (built_words p)
  words_each b k h d e = subst (OfObject Q) (sym (decoded_is _ d e ∙ known p b k h)) (each (eqb k 0) _ (good p b k h))

  pub built_each : (b : Listing) → BuildAnswers p b → b.verdict ≡ success → EachObject Q b.list
  built_each b e s = subst (EachObject Q) (sym (built_list p b e s)) (words_each (built_clear p b e s))

-- ---- attach and advertise: the row that is left, and that the list is built for it

module _ (ys : List Row) (capacity port : ℕ) (r : Listing) (zs : List Row) where
  pub attached_row : (cable : ℕ) → SharesAttach ys capacity port cable r zs → r.verdict ≡ success → port_row zs port ≡ offered capacity ys port cable
  unfolding attach_rows
  attached_row cable e s =
      let x = (attach_refusals_lem ys capacity port cable r zs e).0.0.0 s in
      let to-port = none_left (port_refusals capacity ys port) (cannot_attach (port_row ys port) port cable) x in
      ap (λ (us : List Row). port_row us port) (e.1 ∙ all_missed _ _ (attach_refusals capacity ys port cable) x)
      ∙ get_or-set_same ys (port - 1) (offered capacity ys port cable) no_row (port_at capacity ys port to-port)

  pub attached_built : (cable : ℕ) → SharesAttach ys capacity port cable r zs → r.verdict ≡ success → r ≡ built_of (rule_profile (port_row zs port))
  unfolding attach_answer
  attached_built cable e s =
      let x = (attach_refusals_lem ys capacity port cable r zs e).0.0.0 s in
      let to-port = none_left (port_refusals capacity ys port) (cannot_attach (port_row ys port) port cable) x in
      let good_cable = (none_right (port_refusals capacity ys port) (cannot_attach (port_row ys port) port cable) x).0 in
      e.0 ∙ all_missed write_refused _ (attach_refusals capacity ys port cable) x ∙ sym (list_offered capacity ys port to-port cable good_cable)
      ∙ ap (λ (y : Row). built_of (rule_profile y)) (sym (attached_row cable e s))

  pub advertised_row : SharesAdvertise ys capacity port r zs → r.verdict ≡ success → port_row zs port ≡ offered_again capacity ys port
  unfolding advertise_rows
  advertised_row e s =
      let x = (advertise_refusals ys capacity port r zs e).0.0.0 s in
      ap (λ (us : List Row). port_row us port) (e.1 ∙ all_missed _ _ (use_refusals capacity ys port) x)
      ∙ get_or-set_same ys (port - 1) (offered_again capacity ys port) no_row (port_at capacity ys port (use_port capacity ys port x))

  pub advertised_built : SharesAdvertise ys capacity port r zs → r.verdict ≡ success → r ≡ built_of (rule_profile (port_row zs port))
  unfolding advertise_answer
  advertised_built e s =
      let x = (advertise_refusals ys capacity port r zs e).0.0.0 s in
      e.0 ∙ all_missed write_refused _ (use_refusals capacity ys port) x
      ∙ sym (list_offered capacity ys port (use_port capacity ys port x) (port_row ys port).cable.0 (cable_kept capacity ys port x))
      ∙ ap (λ (y : Row). built_of (rule_profile y)) (sym (advertised_row e s))
