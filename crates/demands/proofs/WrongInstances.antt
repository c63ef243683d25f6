-- Proves the claims of specs/WrongInstances.antt. Each follows from `WrongLibraries`; what is computed is the run, and the figures and lists
-- after it.
-- Assumes nothing.
use mathlib.Core.Path.{◌≡◌, refl, sym, ap, ◌∙◌}
use mathlib.Core.List.{List, []}
use Prim.Native.Nat.{ℕ, ◌-◌, ◌<◌}
use native.Mathlib.Omega.{arith}
use lib.ListN.{get_or}
use Rattle.verdicts.specs.Refusals.{first_of, each_place, success, NoneApply}
use Rattle.steps.specs.Rounding.{down_of, up_of}
use Rattle.objects.specs.Bits.{bits}
use Rattle.objects.specs.Decode.{decode_of}
use Rattle.objects.specs.Reserved.{reserved_set}
use Rattle.objects.specs.Encode.{word_of}
use Rattle.lists.specs.declared.Words.{Words}
use Rattle.lists.specs.declared.Listing.{Listing}
use Rattle.lists.specs.ObjectRules.{out_of_bounds, over_100_W, may_follow}
use Rattle.lists.specs.Shape.{is_fixed_5_V, has_fixed, avs_differs}
use Rattle.lists.specs.Seven.{seven_to}
use Rattle.rules.specs.declared.Profile.{Profile}
use Rattle.rules.specs.Profiles.{half_watts, in_10_mA, build_refusals}
use Rattle.rules.specs.Tables.{base_slots, prog_slots}
use Rattle.rules.specs.Currents.{built_current, prog_current}
use Rattle.rules.specs.Building.{object_for, built_of}
use Rattle.requests.specs.Limits.{avs_top, avs_limit}
use Rattle.flat.specs.declared.FlatObjects.{FlatObjects}
use Rattle.ports.specs.declared.Row.{Row}
use Rattle.ports.specs.Rows.{port_row, together, besides, emptied, present_for, offering, holding}
use Rattle.ports.specs.Soundness.{sound_row}
use Rattle.ports.specs.RuleLists.{rule_pps, rule_profile}
use Rattle.ports.specs.Requests.{power_of, held_for}
use Rattle.ports.specs.Refusing.{set_up_refusals}
use Rattle.ports.specs.Lending.{set_up_answer, set_up_rows, attach_answer, attach_rows, request_answer, request_rows}
use Rattle.board.specs.Promises.{SharesSetUp, SharesAttach, SharesRequest}
use Rattle.demands.proofs.OneOutcome.{arin_request_settles}
use Rattle.demands.specs.MarkedCases.{fixed}
use Rattle.demands.specs.Runs.{Event, attached, advertised, detached, remained, Run}
use Rattle.demands.specs.Figures.{Known, figures, new_figure, changed, known, IsAttached, CanAttach}
use Rattle.demands.specs.DueAnswers.{next_list, accepting}
use Rattle.demands.specs.Libraries.{Library, Meets}
use Rattle.demands.specs.WrongLibraries.{no_current}
use Rattle.demands.specs.WrongInstances.{none_attached, one_attached, one_holds, list_130, first_call, both_calls, FirstCalls, NoOldList, NoOldRows, NoWrongLibrary}
use Rattle.demands.specs.WrongInstances.{RefusesEverything, of_default, of_build, of_check, of_shape, of_read, of_write, of_answer, of_set_up, of_advertise, of_detach, of_remaining}
use Rattle.demands.specs.WrongInstances.{ServesNoPort, no_attach, no_request, Always5V, built_5_V, attached_5_V, advertised_5_V}
use Rattle.demands.specs.WrongInstances.{ChangesNothing, by_request, by_attach, by_detach, OnlyNods, same_list, same_rows, Invents, a_count, a_power}
use Rattle.demands.specs.WrongInstances.{refuses_everything, serves_no_port, always_5_V, changes_nothing, only_nods, invents}
use Rattle.demands.proofs.WrongLibraries.{default_given, set_up_given, list_built, built_shaped, built_checked, built_read, built_written, built_answered, built_past_5_V, nothing_refused, no_current_accepted, attached_past_5_V, advertised_past_5_V, attach_changes_row, request_changes_row, detach_changes_row, no_other_list, no_other_count, no_other_power}

-- ---- the run

set_up_then : SharesSetUp none_attached 200 success none_attached
unfolding first_of each_place emptied set_up_answer set_up_rows
set_up_then = (refl, refl)

attach_then : SharesAttach none_attached 200 1 500 (accepting list_130) one_attached
unfolding first_of each_place bits word_of seven_to down_of up_of base_slots prog_slots built_current prog_current object_for built_of together besides present_for offering sound_row rule_pps rule_profile attach_answer attach_rows
attach_then = (refl, refl)

request_then : SharesRequest one_attached 200 1 (fixed 4 325) success one_holds
unfolding first_of each_place bits decode_of reserved_set out_of_bounds over_100_W may_follow is_fixed_5_V has_fixed avs_differs avs_top avs_limit seven_to down_of up_of word_of base_slots prog_slots built_current prog_current object_for built_of together besides holding sound_row rule_pps rule_profile power_of held_for request_answer request_rows
request_then = (refl, refl)

set_up_alone : Run 200 none_attached [] none_attached
set_up_alone = record { answer = success; said = set_up_then; accepted = refl }

after_one : Run 200 none_attached first_call one_attached
after_one = record { rows = none_attached; before = set_up_alone; call = attach_then }

pub first_calls : FirstCalls
first_calls = record { rows = one_attached; before = after_one; call = request_then }

-- ---- what is known then, by computation

abbrev knows : List Event → ℕ → Known
knows es = known 200 none_attached es

free_1 : CanAttach 2 (knows []) 1 500
free_1 = record { from_1 = omega arith; to_count = omega arith; good_cable = refl; free = refl }

free_2 : CanAttach 2 (knows both_calls) 2 500
unfolding changed
free_2 = record { from_1 = omega arith; to_count = omega arith; good_cable = refl; free = refl }

in_use_1 : IsAttached 2 (knows first_call) 1
unfolding changed
in_use_1 = record { from_1 = omega arith; to_count = omega arith; cabled = refl }

still_in_use_1 : IsAttached 2 (knows both_calls) 1
unfolding changed
still_in_use_1 = record { from_1 = omega arith; to_count = omega arith; cabled = refl }

holds_130 : new_figure (knows first_call) 1 (fixed 4 325) ≡ 130
unfolding changed together besides bits decode_of up_of power_of held_for
holds_130 = refl

held_15 : (knows first_call 0).figure ≡ 15
unfolding changed
held_15 = refl

five_words : (next_list 200 none_attached (knows []) 1 500).count ≡ 5
unfolding first_of base_slots prog_slots built_of together besides rule_pps rule_profile
five_words = refl

-- port 2 is left 70: 15 V at 2.33 A
next_15_V : get_or (next_list 200 none_attached (knows both_calls) 2 500).words 2 0 ≡ 0x0004B0E9
unfolding first_of changed bits decode_of word_of seven_to down_of up_of base_slots prog_slots built_current prog_current object_for built_of together besides rule_pps rule_profile power_of held_for
next_15_V = refl

left_55 : 200 - together (figures (knows both_calls)) 2 ≡ 55
unfolding changed together bits decode_of up_of power_of held_for
left_55 = refl

-- ---- 5, for a library with any memory of its own

pub no_old_list : NoOldList
no_old_list r zs e q =
    no_other_list 200 none_attached both_calls one_holds first_calls (attached 2 500 r) zs e free_2 list_130
    (λ w. let z : ◌≡◌ {A = ℕ} 0x0004B12C 0x0004B0E9 = ap (λ (l : Words). get_or l.words 2 0) w ∙ next_15_V in absurd (omega (arith, z)))
    (ap (λ (l : Listing). l.list) q)

pub no_old_rows : NoOldRows
no_old_rows r zs e q =
    attach_changes_row 200 none_attached both_calls one_holds first_calls 2 500 r zs e free_2 (ap (λ (xs : List Row). port_row xs 2) q)

-- 36 W, the first of the worked cases
abbrev listing : Profile
listing = record { max = half_watts 72; present = half_watts 72; cable = in_10_mA 300; rounding = 0; pps = 1; flags = 0 }

listing_builds : NoneApply (build_refusals listing)
listing_builds = (refl, (refl, (refl, (refl, (refl, (refl, tt))))))

sets_up : NoneApply (set_up_refusals 200 none_attached)
unfolding each_place
sets_up = (refl, (refl, (refl, (refl, (refl, (refl, tt))))))

not_one : (n : ℕ) → 1 < n → n ≡ 1 → ⊥
not_one n h e = absurd (omega arith)

module _ (l : Library) (m : Meets l) where
  -- ---- 1

  pub default_accepts : ((n : ℕ) → (l.default n).verdict ≡ success → ⊥) → ⊥
  default_accepts f = f 72 (default_given l m 72 (omega arith) (omega arith))

  pub build_accepts : ((p : Profile) → (l.build p).verdict ≡ success → ⊥) → ⊥
  build_accepts f = f listing (list_built l m listing listing_builds)

  pub check_accepts : ((p : Profile) (w : Words) → l.check p w ≡ success → ⊥) → ⊥
  check_accepts f = f listing _ (built_checked l m listing listing_builds)

  pub shape_accepts : ((w : Words) → l.shape w ≡ success → ⊥) → ⊥
  shape_accepts f = f _ (built_shaped l m listing listing_builds)

  pub read_accepts : ((w : Words) → (l.read w).verdict ≡ success → ⊥) → ⊥
  read_accepts f = f _ (built_read l m listing listing_builds)

  pub write_accepts : ((o : FlatObjects) → (l.write o).verdict ≡ success → ⊥) → ⊥
  write_accepts f =
      f _ (ap (λ (r : Listing). r.verdict) (built_written l m listing listing_builds) ∙ list_built l m listing listing_builds)

  pub answer_accepts : ((w : Words) (word : ℕ) → l.answer w word ≡ success → ⊥) → ⊥
  answer_accepts f = f _ no_current (built_answered l m listing listing_builds)

  pub set_up_accepts : ((ys : List Row) (capacity : ℕ) → (l.set_up ys capacity).0 ≡ success → ⊥) → ⊥
  set_up_accepts f = f none_attached 200 (set_up_given l m none_attached 200 sets_up)

  pub advertise_accepts : ((ys : List Row) (capacity port : ℕ) → (l.advertise ys capacity port).0.verdict ≡ success → ⊥) → ⊥
  advertise_accepts f =
      f one_holds 200 1
      (nothing_refused 200 none_attached both_calls one_holds first_calls (advertised 1 _) _ (m.advertises one_holds 200 1) still_in_use_1)

  pub detach_accepts : ((ys : List Row) (capacity port : ℕ) → (l.detach ys capacity port).0 ≡ success → ⊥) → ⊥
  detach_accepts f =
      f one_holds 200 1
      (nothing_refused 200 none_attached both_calls one_holds first_calls (detached 1 _) _ (m.detaches one_holds 200 1) still_in_use_1)

  pub remaining_accepts : ((ys : List Row) (capacity : ℕ) → (l.remaining ys capacity).verdict ≡ success → ⊥) → ⊥
  remaining_accepts f =
      f one_holds 200 (nothing_refused 200 none_attached both_calls one_holds first_calls (remained _) _ (m.remains one_holds 200, refl) tt)

  -- ---- 2

  pub attach_accepts : ((ys : List Row) (capacity port cable : ℕ) → (l.attach ys capacity port cable).0.verdict ≡ success → ⊥) → ⊥
  attach_accepts f =
      f none_attached 200 1 500
      (nothing_refused 200 none_attached [] none_attached set_up_alone (attached 1 500 _) _ (m.attaches none_attached 200 1 500) free_1)

  pub request_accepts : ((ys : List Row) (capacity port word : ℕ) → (l.request ys capacity port word).0 ≡ success → ⊥) → ⊥
  request_accepts f =
      f one_attached 200 1 no_current
      (no_current_accepted 200 none_attached first_call one_attached after_one 1 _ _ (m.requests one_attached 200 1 no_current) in_use_1)

  -- ---- 3

  pub build_past_5_V : ((p : Profile) → (l.build p).list.count ≡ 1) → ⊥
  build_past_5_V f = not_one _ (built_past_5_V l m listing listing_builds (omega arith)) (f listing)

  pub attach_past_5_V : ((ys : List Row) (capacity port cable : ℕ) → (l.attach ys capacity port cable).0.list.count ≡ 1) → ⊥
  attach_past_5_V f =
      not_one _
      (attached_past_5_V 200 none_attached [] none_attached set_up_alone 1 500 _ _ (m.attaches none_attached 200 1 500) free_1 (omega arith))
      (f none_attached 200 1 500)

  pub advertise_past_5_V : ((ys : List Row) (capacity port : ℕ) → (l.advertise ys capacity port).0.list.count ≡ 1) → ⊥
  advertise_past_5_V f =
      not_one _
      (advertised_past_5_V 200 none_attached both_calls one_holds first_calls 1 _ _ (m.advertises one_holds 200 1) still_in_use_1 (omega arith))
      (f one_holds 200 1)

  -- ---- 4

  pub request_changes : ((ys : List Row) (capacity port word : ℕ) → (l.request ys capacity port word).1 ≡ ys) → ⊥
  request_changes f =
      let word = fixed 4 325 in
      let call = m.requests one_attached 200 1 word in
      request_changes_row 200 none_attached first_call one_attached after_one 1 word _ _ call
      (arin_request_settles one_attached 200 1 word _ success _ one_holds call request_then).0
      (λ e. let z : ◌≡◌ {A = ℕ} 130 15 = sym holds_130 ∙ e ∙ held_15 in absurd (omega (arith, z)))
      (ap (λ (xs : List Row). port_row xs 1) (f one_attached 200 1 word))

  pub attach_changes : ((ys : List Row) (capacity port cable : ℕ) → (l.attach ys capacity port cable).1 ≡ ys) → ⊥
  attach_changes f =
      attach_changes_row 200 none_attached [] none_attached set_up_alone 1 500 _ _ (m.attaches none_attached 200 1 500) free_1
      (ap (λ (xs : List Row). port_row xs 1) (f none_attached 200 1 500))

  pub detach_changes : ((ys : List Row) (capacity port : ℕ) → (l.detach ys capacity port).1 ≡ ys) → ⊥
  detach_changes f =
      detach_changes_row 200 none_attached both_calls one_holds first_calls 1 _ _ (m.detaches one_holds 200 1) still_in_use_1
      (ap (λ (xs : List Row). port_row xs 1) (f one_holds 200 1))

  -- ---- 5

  pub no_same_list : (l.attach one_holds 200 2 500).0 ≡ accepting list_130 → ⊥
  no_same_list = no_old_list _ _ (m.attaches one_holds 200 2 500)

  pub no_mere_nod : (l.attach one_holds 200 2 500).1 ≡ one_holds → ⊥
  no_mere_nod = no_old_rows _ _ (m.attaches one_holds 200 2 500)

  -- ---- 6

  pub no_invented_count : (n : ℕ) → (n ≡ 5 → ⊥) → (l.attach none_attached 200 1 500).0.list.count ≡ n → ⊥
  no_invented_count n f =
      no_other_count 200 none_attached [] none_attached set_up_alone (attached 1 500 _) _ (m.attaches none_attached 200 1 500) free_1 n
      (λ e. f (e ∙ five_words))

  pub no_invented_power : (n : ℕ) → (n ≡ 55 → ⊥) → (l.remaining one_holds 200).power.0 ≡ n → ⊥
  no_invented_power n f =
      no_other_power 200 none_attached both_calls one_holds first_calls (l.remaining one_holds 200) (m.remains one_holds 200) n
      (λ e. f (e ∙ left_55))

  -- ---- each of the six

  none_1 : RefusesEverything l → ⊥
  none_1 (of_default f) = default_accepts f
  none_1 (of_build f) = build_accepts f
  none_1 (of_check f) = check_accepts f
  none_1 (of_shape f) = shape_accepts f
  none_1 (of_read f) = read_accepts f
  none_1 (of_write f) = write_accepts f
  none_1 (of_answer f) = answer_accepts f
  none_1 (of_set_up f) = set_up_accepts f
  none_1 (of_advertise f) = advertise_accepts f
  none_1 (of_detach f) = detach_accepts f
  none_1 (of_remaining f) = remaining_accepts f

  none_2 : ServesNoPort l → ⊥
  none_2 (no_attach f) = attach_accepts f
  none_2 (no_request f) = request_accepts f

  none_3 : Always5V l → ⊥
  none_3 (built_5_V f) = build_past_5_V f
  none_3 (attached_5_V f) = attach_past_5_V f
  none_3 (advertised_5_V f) = advertise_past_5_V f

  none_4 : ChangesNothing l → ⊥
  none_4 (by_request f) = request_changes f
  none_4 (by_attach f) = attach_changes f
  none_4 (by_detach f) = detach_changes f

  none_5 : OnlyNods l → ⊥
  none_5 (same_list e) = no_same_list e
  none_5 (same_rows e) = no_mere_nod e

  none_6 : Invents l → ⊥
  none_6 (a_count n f e) = no_invented_count n f e
  none_6 (a_power n f e) = no_invented_power n f e

pub no_wrong_library : NoWrongLibrary
no_wrong_library l m (refuses_everything w) = none_1 l m w
no_wrong_library l m (serves_no_port w) = none_2 l m w
no_wrong_library l m (always_5_V w) = none_3 l m w
no_wrong_library l m (changes_nothing w) = none_4 l m w
no_wrong_library l m (only_nods w) = none_5 l m w
no_wrong_library l m (invents w) = none_6 l m w
