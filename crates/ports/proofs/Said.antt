-- What each sharing call decides by value, from how the rows stand and from the port's own row, is what the lent rows say of the answer and
-- of the rows: a law for each call.
-- Assumes nothing.
use mathlib.Core.Path.{◌≡◌, refl, sym, ap, ap₂, ◌∙◌}
use mathlib.Core.Bool.{Bool, true, false, not, cond}
use mathlib.Core.List.{List, [], ◌∷◌, ◌++◌, map, append_assoc}
use Prim.Native.Nat.{ℕ, ◌+◌, ◌-◌}
use native.Mathlib.Omega.{arith}
use lib.Dec.{eqb}
use lib.ListN.{length, set}
use lib.Seq.{set_out}
use borrow.Author.Tests.{le-leb, ne_eqb}
use Rattle.verdicts.specs.declared.Verdict.{Verdict}
use Rattle.verdicts.specs.Refusals.{Refusal, refusal, first_of, verdict_of, success, NoneApply}
use Rattle.verdicts.proofs.First.{none_left, none_right, none_append, numbered, number_not_0, numbered_rest, onward, onto}
use Rattle.lists.specs.Writing.{write_refused}
use Rattle.rules.specs.Profiles.{half_watts}
use Rattle.rules.specs.Building.{built_of}
use Rattle.ports.specs.declared.Row.{Row}
use Rattle.ports.specs.declared.Standing.{Standing}
use Rattle.ports.specs.declared.Change.{Change}
use Rattle.ports.specs.Rows.{row_of, port_row, left_for, present_of, present_for, offering, offered, holding, emptied}
use Rattle.ports.specs.RuleLists.{rule_profile, rule_list}
use Rattle.ports.specs.Requests.{new_held}
use Rattle.ports.specs.Refusing.{set_up_refusals, remaining_refusals, no_such_port, port_refusals, cannot_attach, attach_refusals, not_attached, use_refusals, own_refusals, no_power_now, request_refusals}
use Rattle.ports.specs.Standing.{standing, standing_of, place_of, end_refusals, port_end_refusals}
use Rattle.ports.specs.Deciding.{left_beside, no_change, changing, offer_of, attach_change, advertise_change, request_change, detach_change, power_left}
use Rattle.ports.specs.Lending.{unless_refused, offered_again, set_up_answer, set_up_rows, attach_answer, attach_rows, advertise_answer, advertise_rows, request_answer, request_rows, detach_answer, detach_rows, no_power_left, remaining_answer}
use Rattle.ports.proofs.Judged.{same_behind, verdict_stands}
use Rattle.ports.proofs.Passing.{set_up_numbered, attach_numbered, use_numbered, rows_pass, port_low, left_is, use_port, cable_kept}
use Rattle.ports.proofs.Offering.{list_offered}
use Rattle.ports.proofs.Standings.{count_kept, set_up_fault, pass_same, sound_stands, sum_is}

-- ---- a row changed, unless a table of refusals has one that applies: the list that is given, and the rows

module _ (s : Standing) (port : ℕ) (y : Row) where
  offer_behind : (rs : List Refusal) → numbered rs ≡ true
      → offer_of (first_of (no_change s) rs (changing port y)) ≡ first_of write_refused rs (built_of (rule_profile y))
  unfolding first_of offer_of
  offer_behind [] t = refl
  offer_behind (refusal true n p ∷ rs) t = rw (ne_eqb n 0 (number_not_0 n rs t)) refl
  offer_behind (refusal false n p ∷ rs) t = offer_behind rs (numbered_rest n rs t)

  -- the place past the last row is no row
  rows_behind : (ys : List Row) → s.count ≡ length ys → (rs : List Refusal)
      → let c = first_of (no_change s) rs (changing port y) in set ys c.at c.row ≡ unless_refused ys rs (set ys (port - 1) y)
  unfolding first_of
  rows_behind ys e [] = refl
  rows_behind ys e (refusal true n p ∷ rs) = set_out ys s.count _ (omega (arith, e))
  rows_behind ys e (refusal false n p ∷ rs) = rows_behind ys e rs

module _ (ys : List Row) (capacity : ℕ) where
  abbrev s : Standing
  s = standing_of false capacity ys

  counted : s.count ≡ length ys
  counted = count_kept false capacity ys (length ys)

  module _ (port : ℕ) where
    abbrev own : Row
    own = row_of ys (place_of s port)

    abbrev left : ℕ
    left = left_beside capacity s own

    -- ---- where the port's table passes, its own row and what is left for it are those of the lent rows

    module _ (x : NoneApply (port_refusals capacity ys port)) where
      place_is : place_of s port ≡ port - 1
      unfolding place_of
      place_is = rw (sound_stands capacity ys (rows_pass capacity ys port x), le-leb 1 port (port_low capacity ys port x)) refl

      own_is : own ≡ port_row ys port
      own_is = ap (row_of ys) place_is

      left_same : left ≡ left_for capacity ys port
      left_same =
          ap₂ (λ (n : ℕ) (y : Row). (capacity - n) + y.held.0) (sum_is capacity ys (rows_pass capacity ys port x)) own_is
          ∙ left_is capacity ys port x

    -- ---- the law of the calls of a port: what follows the port's table may look at its own row and at what is left for it

    module _ {A : Type 0} (refused : ℕ → ℕ → A) where
      port_same : (a b : A) → (NoneApply (port_refusals capacity ys port) → a ≡ b)
          → first_of refused (port_end_refusals capacity s port) a ≡ first_of refused (port_refusals capacity ys port) b
      port_same a b same =
          onward refused a (end_refusals capacity s) (no_such_port s.count port)
          ∙ pass_same capacity ys refused _ _ (λ x.
          ap (λ (n : ℕ). first_of refused (no_such_port n port) a) counted
          ∙ same_behind refused (no_such_port (length ys) port) a b (λ z. same (none_append (remaining_refusals capacity ys)
          (no_such_port (length ys) port) x z)))
          ∙ sym (onward refused b (remaining_refusals capacity ys) (no_such_port (length ys) port))

      port_said : (then : Row → ℕ → List Refusal) (answer : Row → ℕ → A)
          → first_of refused (port_end_refusals capacity s port ++ then own left) (answer own left)
          ≡ first_of refused (port_refusals capacity ys port ++ then (port_row ys port) (left_for capacity ys port))
          (answer (port_row ys port) (left_for capacity ys port))
      port_said then answer =
          onward refused _ (port_end_refusals capacity s port) (then own left)
          ∙ port_same _ _ (λ x. ap₂ (λ (y : Row) (n : ℕ). first_of refused (then y n) (answer y n)) (own_is x) (left_same x))
          ∙ sym (onward refused _ (port_refusals capacity ys port) (then (port_row ys port) (left_for capacity ys port)))

    -- ---- the rows after a row is changed, and the list that is given with it

    module _ (c : Change) (rs : List Refusal) (y : Row) (decided : c ≡ first_of (no_change s) rs (changing port y)) where
      answer_said : c.answer ≡ verdict_of rs
      answer_said = ap (λ (d : Change). d.answer) decided ∙ onto (λ (d : Change). d.answer) (no_change s) rs (changing port y)

      rows_said : set ys c.at c.row ≡ unless_refused ys rs (set ys (port - 1) y)
      rows_said = ap (λ (d : Change). set ys d.at d.row) decided ∙ rows_behind s port y ys counted rs

      -- where no refusal applies the list can be built
      list_said : numbered rs ≡ true → (NoneApply rs → built_of (rule_profile y) ≡ record { verdict = success; list = rule_list y })
          → offer_of c ≡ first_of write_refused rs (record { verdict = success; list = rule_list y })
      list_said t built = ap offer_of decided ∙ offer_behind s port y rs t ∙ same_behind write_refused rs _ _ built

    -- ---- attach and advertise

    pub attach_said : (cable : ℕ)
        → let c = attach_change capacity s own port cable in
        (offer_of c ≡ attach_answer capacity ys port cable) × (set ys c.at c.row ≡ attach_rows capacity ys port cable)
    unfolding attach_change attach_answer attach_rows present_for
    attach_said cable =
        let rs = attach_refusals capacity ys port cable in
        let tail = cannot_attach (port_row ys port) port cable in
        let y = offered capacity ys port cable in
        let c = attach_change capacity s own port cable in
        let decided = port_said (no_change s) (λ z n. cannot_attach z port cable) (λ z n. changing port (offering z (present_of z n) cable)) in (
          list_said c rs y decided (attach_numbered capacity ys port cable) (λ x. list_offered capacity ys port
              (none_left (port_refusals capacity ys port) tail x) cable (none_right (port_refusals capacity ys port) tail x).0),
          rows_said c rs y decided,
        )

    pub advertise_said : let c = advertise_change capacity s own port in
        (offer_of c ≡ advertise_answer capacity ys port) × (set ys c.at c.row ≡ advertise_rows capacity ys port)
    unfolding advertise_change advertise_answer advertise_rows present_for
    advertise_said =
        let rs = use_refusals capacity ys port in
        let y = offered_again capacity ys port in
        let c = advertise_change capacity s own port in
        let decided = port_said (no_change s) (λ z n. not_attached z port) (λ z n. changing port (offering z (present_of z n) z.cable.0)) in (
          list_said c rs y decided (use_numbered capacity ys port) (λ x. list_offered capacity ys port (use_port capacity ys port x)
              (port_row ys port).cable.0 (cable_kept capacity ys port x)),
          rows_said c rs y decided,
        )

    -- ---- request and detach

    pub request_said : (word : ℕ)
        → let c = request_change capacity s own port word in
        (c.answer ≡ request_answer capacity ys port word) × (set ys c.at c.row ≡ request_rows capacity ys port word)
    unfolding request_change request_answer request_rows
    request_said word =
        let rs = request_refusals capacity ys port word in
        let y = holding (port_row ys port) (new_held (port_row ys port) word) in
        let c = request_change capacity s own port word in
        let decided =
        port_said (no_change s) (λ z n. not_attached z port ++ (own_refusals z word ++ no_power_now n z port word))
        (λ z n. changing port (holding z (new_held z word)))
        ∙ ap (λ (l : List Refusal). first_of (no_change s) l (changing port y)) (sym (append_assoc (port_refusals capacity ys port)
        (not_attached (port_row ys port) port) (own_refusals (port_row ys port) word
        ++ no_power_now (left_for capacity ys port) (port_row ys port) port word))) in
        (answer_said c rs y decided, rows_said c rs y decided)

    pub detach_said : let c = detach_change capacity s own port in
        (c.answer ≡ detach_answer capacity ys port) × (set ys c.at c.row ≡ detach_rows capacity ys port)
    unfolding detach_change detach_answer detach_rows
    detach_said =
        let rs = use_refusals capacity ys port in
        let y = emptied (port_row ys port) in
        let c = detach_change capacity s own port in
        let decided = port_said (no_change s) (λ z n. not_attached z port) (λ z n. changing port (emptied z)) in
        (answer_said c rs y decided, rows_said c rs y decided)

  -- ---- remaining power

  pub remaining_said : power_left capacity s ≡ remaining_answer capacity ys
  unfolding power_left remaining_answer
  remaining_said = pass_same capacity ys no_power_left _ _ (λ x. ap (λ (n : ℕ). record { verdict = success; power = half_watts (capacity - n) })
      (sum_is capacity ys x))

-- ---- set up

either_way : {A : Type 0} (b : Bool) (n p : ℕ) (after before : A) → cond b after before ≡ first_of (λ n p. before) (refusal (not b) n p ∷ []) after
unfolding first_of
either_way true n p after before = refl
either_way false n p after before = refl

pub set_up_said : (ys : List Row) (capacity : ℕ)
    → let s = standing_of true capacity ys in
    (s.fault ≡ set_up_answer capacity ys) × (cond (standing s) (map emptied ys) ys ≡ set_up_rows capacity ys)
unfolding set_up_answer set_up_rows
set_up_said ys capacity =
    let rs = set_up_refusals capacity ys in
    let v = verdict_of rs in
    let fault = set_up_fault capacity ys in (
      fault,
      ap (λ (u : Verdict). cond (eqb u.number 0) (map emptied ys) ys) fault
          ∙ either_way (eqb v.number 0) v.number v.place (map emptied ys) ys
          ∙ verdict_stands (λ n p. ys) rs (set_up_numbered capacity ys) (map emptied ys),
    )
