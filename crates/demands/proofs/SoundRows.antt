-- Proves the claims of specs/SoundRows.antt: each call writes one sound row, and what is held together stays within the capacity.
-- Assumes nothing.
use mathlib.Core.Path.{◌≡◌, refl, sym, ap, ◌∙◌, subst}
use mathlib.Core.Bool.{Bool, true, false, not}
use mathlib.Core.List.{List, [], ◌∷◌, ◌++◌, map}
use Prim.Native.Nat.{ℕ, zero, suc, ◌+◌, ◌-◌, ◌*◌, ◌≤◌, ◌<◌}
use native.Mathlib.Nat.{le-min, lt-suc_self}
use native.Mathlib.Omega.{arith}
use lib.Dec.{eqb}
use lib.ListN.{length, length-set, length-map, set}
use lib.Seq.{get_or-set_same, get_or-set_other}
use borrow.Author.Tests.{eqb-true, eqb-false, ltb-false, le-ltb}
use Rattle.verdicts.specs.Refusals.{Refusal, refusal, each_place, first_of, success, NoneApply}
use Rattle.verdicts.proofs.First.{none_left, none_right, none_at, none_all, none_append, all_missed}
use Rattle.steps.proofs.RangeLaws.{at_least, at_most}
use Rattle.rules.specs.Profiles.{bad_cable}
use Rattle.requests.specs.Answering.{answer_of}
use Rattle.requests.proofs.Answers.{answer_verdict}
use Rattle.ports.specs.declared.Row.{Row}
use Rattle.ports.specs.Rows.{no_row, row_of, port_row, held_at, all_held, others_held, left_for, together, besides, emptied, present_for, offering, offered, holding}
use Rattle.ports.specs.Soundness.{sound_row}
use Rattle.ports.specs.RuleLists.{rule_list}
use Rattle.ports.specs.Requests.{new_held}
use Rattle.ports.specs.Refusing.{table_refusals, fresh_rows, set_up_refusals, fault_rows, sum_fault, sound_refusals, remaining_refusals, port_refusals, cannot_attach, attach_refusals, use_refusals, own_refusals, no_power_now, request_refusals}
use Rattle.ports.specs.Lending.{unless_refused, set_up_rows, attach_rows, advertise_rows, request_rows, detach_rows}
use Rattle.ports.proofs.Sound.{SoundAttached, SoundLimits, limits_of_lem, sound_empty_lem, sound_attached_lem, attached_sound, empty_sound}
use Rattle.ports.proofs.RuleLists.{attached_from_15, attached_offerable}
use Rattle.ports.proofs.Sums.{others_agree, one_apart}
use Rattle.ports.proofs.Passing.{capacity_low, sound_at, sum_fits, rows_pass, port_at, own_fits, row_sound, use_port, attached, cable_kept}
use Rattle.ports.proofs.Offering.{held_from_15, offered_to_max}
use Rattle.demands.specs.SoundRows.{SoundRows, SetUpSounds, SetUpKeeps, AttachKeeps, AdvertiseKeeps, DetachKeeps, RequestKeeps}
use Rattle.demands.proofs.AcceptedPower.{held_to_P}
use Rattle.demands.proofs.AcceptedPower as accepted

-- ---- sound rows

pub of_clear : (capacity : ℕ) (ys : List Row) → NoneApply (remaining_refusals capacity ys) → SoundRows capacity ys
of_clear capacity ys x = record { each = sound_at capacity ys x; sum = sum_fits capacity ys x }

-- where the number of rows and the capacity are right, no call but set-up is refused with 37
pub to_clear : (capacity : ℕ) (ys : List Row) → NoneApply (table_refusals capacity (length ys)) → SoundRows capacity ys
    → NoneApply (remaining_refusals capacity ys)
to_clear capacity ys x s =
    none_append (table_refusals capacity (length ys)) (sound_refusals capacity ys) x
    (none_append (each_place (fault_rows ys) (length ys)) (sum_fault capacity (all_held ys))
    (none_all (fault_rows ys) (length ys) (λ k h. (ap not (s.each k h), tt))) (le-ltb capacity (all_held ys) s.sum, tt))

-- ---- one row written

module _ (capacity : ℕ) (ys : List Row) (i : ℕ) (y : Row) (at : i < length ys) where
  abbrev u : List Row
  u = set ys i y

  -- the row of each place
  pub new_row : (k : ℕ) → k ≡ i → row_of u k ≡ y
  new_row k e = ap (row_of u) e ∙ get_or-set_same ys i y no_row at

  pub old_row : (k : ℕ) → (k ≡ i → ⊥) → row_of u k ≡ row_of ys k
  old_row k f = get_or-set_other ys i k y no_row f

  pub by_place : (P : ℕ → Row → Type 0) → P i y → ((k : ℕ) → k < length ys → (k ≡ i → ⊥) → P k (row_of ys k))
      → (k : ℕ) → k < length u → P k (row_of u k)
  by_place P new old k h = go (eqb k i) refl where
    go : (b : Bool) → eqb k i ≡ b → P k (row_of u k)
    go true e =
        let q = eqb-true k i e in
        subst (P k) (sym (new_row k q)) (subst (λ (j : ℕ). P j y) (sym q) new)
    go false e =
        let f = eqb-false k i e in
        subst (P k) (sym (old_row k f)) (old k (subst (λ (n : ℕ). k < n) (length-set ys i y) h) f)

  -- what the others hold is as it was
  pub others_same : together (besides i (held_at u)) (length u) ≡ together (besides i (held_at ys)) (length ys)
  others_same =
      others_agree i (held_at u) (held_at ys) (length u) (λ k h f. ap (λ (z : Row). z.held.0) (old_row k f))
      ∙ ap (together (besides i (held_at ys))) (length-set ys i y)

  pub all_is : all_held u ≡ together (besides i (held_at ys)) (length ys) + y.held.0
  all_is =
      let l : i < length u = subst (λ (n : ℕ). i < n) (sym (length-set ys i y)) at in
      let a = one_apart i (held_at u) (length u) l in
      let b = others_same in
      let c = ap (λ (z : Row). z.held.0) (new_row i refl) in
      omega (arith, a, b, c)

  pub written_sound : SoundRows capacity ys → sound_row y ≡ true → together (besides i (held_at ys)) (length ys) + y.held.0 ≤ capacity
      → SoundRows capacity u
  written_sound s good fits = record {
    each = by_place (λ (k : ℕ) (z : Row). sound_row z ≡ true) good (λ k h f. s.each k h);
    sum = let e = all_is in omega (arith, e, fits);
  }

-- ---- all rows emptied

pub emptied_row : (ys : List Row) (k : ℕ) → k < length ys → row_of (map emptied ys) k ≡ emptied (row_of ys k)
emptied_row [] k h = absurd (omega arith)
emptied_row (y ∷ ys) zero h = refl
emptied_row (y ∷ ys) (suc k) h = emptied_row ys k (omega arith)

-- ---- the rows that the calls write

module _ (capacity : ℕ) (t : List Row) (port : ℕ) where
  -- the row that attach and advertise write
  pub offered_sound : NoneApply (port_refusals capacity t port) → (cable : ℕ) → bad_cable cable ≡ false
      → sound_row (offered capacity t port cable) ≡ true
  unfolding offering present_for
  offered_sound x cable good =
      let y = port_row t port in
      let s = row_sound capacity t port x in
      let l = limits_of_lem y s in
      let held = held_from_15 y s in
      let fits = own_fits capacity t port x in
      attached_sound (offered capacity t port cable) (record {
        limits = record { max_low = l.max_low; max_high = l.max_high; pps_high = l.pps_high };
        good_cable = good;
        held_low = held;
        held_high = le-min (held_to_max y s) (omega (arith, fits));
        present_high = offered_to_max capacity t port x;
      })
    where
      held_to_max : (y : Row) → sound_row y ≡ true → y.held.0 ≤ y.max.0
      held_to_max y s = go (eqb y.cable.0 0) refl where
        go : (b : Bool) → eqb y.cable.0 0 ≡ b → y.held.0 ≤ y.max.0
        go true e = let a = sound_empty_lem y s e in omega (arith, a.held_15, a.limits.max_low)
        go false e = let a = sound_attached_lem y s e in omega (arith, a.held_high, a.present_high)

  -- the row that detach writes
  pub emptied_sound : (y : Row) → SoundLimits y → sound_row (emptied y) ≡ true
  unfolding emptied
  emptied_sound y l =
      empty_sound (emptied y) (record {
        limits = record { max_low = l.max_low; max_high = l.max_high; pps_high = l.pps_high };
        no_cable = refl;
        no_present = refl;
        held_15 = refl;
      })

  -- the row that an accepted request writes
  pub holding_sound : (y : Row) (power : ℕ) → SoundAttached y → 15 ≤ power → power ≤ y.present.0 → sound_row (holding y power) ≡ true
  unfolding holding
  holding_sound y power a low high =
      attached_sound (holding y power) (record {
        limits = record { max_low = a.limits.max_low; max_high = a.limits.max_high; pps_high = a.limits.pps_high };
        good_cable = a.good_cable;
        held_low = low;
        held_high = high;
        present_high = a.present_high;
      })

-- an accepted request, of the row's own list
pub own_accepts : (t : List Row) (port word : ℕ) → NoneApply (own_refusals (port_row t port) word) → answer_of (rule_list (port_row t port)) word ≡ success
own_accepts t port word x = answer_verdict (rule_list (port_row t port)) word ∙ all_missed _ _ (own_refusals (port_row t port) word) x

-- ---- each call

-- what is written only where nothing is refused
pub unless : (P : List Row → Type 0) (ys : List Row) (rs : List Refusal) (after : List Row) → P ys → (NoneApply rs → P after)
    → P (unless_refused ys rs after)
unfolding first_of
unless P ys [] after stays goes = goes tt
unless P ys (refusal true n p ∷ rs) after stays goes = stays
unless P ys (refusal false n p ∷ rs) after stays goes = unless P ys rs after stays (λ x. goes (refl, x))

module _ (capacity : ℕ) (ys : List Row) where
  -- what the others hold and the row written stay within the capacity
  same_held : (port cable : ℕ) → NoneApply (port_refusals capacity ys port)
      → others_held ys port + (offered capacity ys port cable).held.0 ≤ capacity
  unfolding offering
  same_held port cable x = own_fits capacity ys port x

  less_held : (port : ℕ) → NoneApply (port_refusals capacity ys port)
      → others_held ys port + (emptied (port_row ys port)).held.0 ≤ capacity
  unfolding emptied
  less_held port p =
      let a = own_fits capacity ys port p in
      let b = held_from_15 (port_row ys port) (row_sound capacity ys port p) in
      omega (arith, a, b)

  new_held_lem : (port word : ℕ) → NoneApply (port_refusals capacity ys port)
      → new_held (port_row ys port) word ≤ left_for capacity ys port
      → others_held ys port + (holding (port_row ys port) (new_held (port_row ys port) word)).held.0 ≤ capacity
  unfolding holding
  new_held_lem port word p h = let a = own_fits capacity ys port p in omega (arith, a, h)

  held_15 : (k : ℕ) → k < length ys → held_at (map emptied ys) k ≡ 15
  unfolding emptied
  held_15 k l = ap (λ (z : Row). z.held.0) (emptied_row ys k l)

  all_15 : (n : ℕ) → ((k : ℕ) → k < n → held_at (map emptied ys) k ≡ 15) → together (held_at (map emptied ys)) n ≡ 15 * n
  unfolding together
  all_15 zero f = refl
  all_15 (suc n) f =
      let a = all_15 n (λ k h. f k (omega arith)) in
      let b = f n (lt-suc_self n) in
      omega (arith, a, b)

  offer_kept : (port cable : ℕ) → NoneApply (port_refusals capacity ys port) → bad_cable cable ≡ false
      → SoundRows capacity (set ys (port - 1) (offered capacity ys port cable))
  offer_kept port cable x good =
      written_sound capacity ys (port - 1) (offered capacity ys port cable) (port_at capacity
      ys port x)
      (of_clear capacity ys (rows_pass capacity ys port x)) (offered_sound capacity ys port x cable good)
      (same_held port cable x)

pub attach_keeps : AttachKeeps
unfolding attach_rows
attach_keeps capacity ys s port cable r zs e =
    subst (SoundRows capacity) (sym e.1) (unless (SoundRows capacity) ys (attach_refusals capacity ys port cable) _ s (λ x.
    offer_kept capacity ys port cable (none_left (port_refusals capacity ys port) (cannot_attach (port_row ys port) port cable) x) (none_right
    (port_refusals capacity ys port) (cannot_attach (port_row ys port) port cable) x).0))

pub advertise_keeps : AdvertiseKeeps
unfolding advertise_rows
advertise_keeps capacity ys s port r zs e =
    subst (SoundRows capacity) (sym e.1) (unless (SoundRows capacity) ys (use_refusals capacity ys port) _ s (λ x.
    offer_kept capacity ys port (port_row ys port).cable.0 (use_port capacity ys port x) (cable_kept capacity ys port x)))

pub detach_keeps : DetachKeeps
unfolding detach_rows
detach_keeps capacity ys s port r zs e =
    subst (SoundRows capacity) (sym e.1) (unless (SoundRows capacity) ys (use_refusals capacity ys port) _ s (λ x.
    let p = use_port capacity ys port x in
    let y = port_row ys port in
    written_sound capacity ys (port - 1) (emptied y) (port_at capacity ys port p) s
    (emptied_sound capacity ys port y (attached capacity ys port x).limits) (less_held capacity ys port p)))

pub request_keeps : RequestKeeps
unfolding request_rows
request_keeps capacity ys s port word r zs e =
    subst (SoundRows capacity) (sym e.1) (unless (SoundRows capacity) ys (request_refusals capacity ys port word) _ s (λ x.
    let u = none_left (use_refusals capacity ys port) (own_refusals (port_row ys port) word ++ no_power_now (left_for capacity ys port) (port_row ys port) port word) x in
    let rest = none_right (use_refusals capacity ys port) (own_refusals (port_row ys port) word ++ no_power_now (left_for capacity ys port) (port_row ys port) port word) x in
    let own = none_left (own_refusals (port_row ys port) word) (no_power_now (left_for capacity ys port) (port_row ys port) port word) rest in
    let left = ltb-false _ _ (none_right (own_refusals (port_row ys port) word) (no_power_now (left_for capacity ys port) (port_row ys port) port word) rest).0 in
    let p = use_port capacity ys port u in
    let y = port_row ys port in
    let a = attached capacity ys port u in
    let high = held_to_P y (attached_offerable y a) word (own_accepts ys port word own) (attached_from_15 y a) in
    let low = accepted.held_from_15 y word in
    written_sound capacity ys (port - 1) (holding y (new_held y word)) (port_at capacity ys port p) s
    (holding_sound capacity ys port y (new_held y word) a low high) (new_held_lem capacity ys port word p left)))

pub set_up_sounds : SetUpSounds
set_up_sounds capacity ys x =
    let table = none_left (table_refusals capacity (length ys)) (each_place (fresh_rows ys) (length ys)) x in
    let rows = none_right (table_refusals capacity (length ys)) (each_place (fresh_rows ys) (length ys)) x in
    let c : length (map emptied ys) ≡ length ys = length-map ys emptied in
    let low = capacity_low capacity ys table in
    record {
      each = λ k h.
          let l : k < length ys = subst (λ (n : ℕ). k < n) c h in
          let row = none_at (fresh_rows ys) (length ys) k rows l in
          let y = row_of ys k in
          subst (λ (z : Row). sound_row z ≡ true) (sym (emptied_row ys k l))
          (emptied_sound capacity ys 0 y (record {
            max_low = at_least 15 200 y.max.0 row.0;
            max_high = at_most 15 200 y.max.0 row.0;
            pps_high = ltb-false 1 y.pps row.1.0;
          }));
      sum =
          let e : all_held (map emptied ys) ≡ 15 * length (map emptied ys) = all_15 capacity ys (length (map emptied ys))
          (λ k h. held_15 capacity ys k (subst (λ (n : ℕ). k < n) c h)) in
          omega (arith, e, c, low);
    }

pub set_up_keeps : SetUpKeeps
unfolding set_up_rows
set_up_keeps capacity ys s r zs e =
    subst (SoundRows capacity) (sym e.1) (unless (SoundRows capacity) ys (set_up_refusals capacity ys) (map emptied ys) s (set_up_sounds capacity ys))
