-- What the tables of refusals say where no row of them applies, and that each row has a number.
-- Assumes nothing.
use mathlib.Core.Path.{◌≡◌, refl}
use mathlib.Core.Bool.{true, false, not}
use mathlib.Core.List.{List, ◌++◌}
use Prim.Native.Nat.{ℕ, ◌+◌, ◌-◌, ◌*◌, ◌≤◌, ◌<◌}
use native.Mathlib.Omega.{arith}
use lib.Dec.{eqb}
use lib.ListN.{length}
use borrow.Author.Tests.{ltb-false, not-false, not-true}
use Rattle.verdicts.specs.Refusals.{each_place, NoneApply}
use Rattle.verdicts.proofs.First.{none_left, none_right, none_at, numbered, numbered_append, numbered_places}
use Rattle.steps.proofs.RangeLaws.{at_least, at_most}
use Rattle.rules.specs.Profiles.{bad_cable}
use Rattle.requests.proofs.Answers.{answer_numbered}
use Rattle.ports.specs.declared.Row.{Row}
use Rattle.ports.specs.Rows.{row_of, port_row, all_held, others_held, held_at, left_for}
use Rattle.ports.specs.Soundness.{sound_row}
use Rattle.ports.specs.RuleLists.{rule_list}
use Rattle.ports.specs.Refusing.{table_refusals, fresh_rows, set_up_refusals, fault_rows, sum_fault, sound_refusals, remaining_refusals, no_such_port, port_refusals, cannot_attach, attach_refusals, not_attached, use_refusals, no_power_now, own_refusals, request_refusals}
use Rattle.ports.proofs.Sound.{SoundAttached, sound_attached_lem}
use Rattle.ports.proofs.Sums.{one_apart, others_at_most}

module _ (capacity : ℕ) (ys : List Row) where
  -- ---- every row has a number

  pub table_numbered : numbered (table_refusals capacity (length ys)) ≡ true
  table_numbered = refl

  pub faults_numbered : numbered (each_place (fault_rows ys) (length ys)) ≡ true
  faults_numbered = numbered_places (fault_rows ys) (λ k. refl) (length ys)

  pub set_up_numbered : numbered (set_up_refusals capacity ys) ≡ true
  set_up_numbered = numbered_append (table_refusals capacity (length ys)) (each_place (fresh_rows ys) (length ys)) table_numbered (numbered_places
      (fresh_rows ys) (λ k. refl) (length ys))

  pub remaining_numbered : numbered (remaining_refusals capacity ys) ≡ true
  remaining_numbered =
      numbered_append (table_refusals capacity (length ys)) (sound_refusals capacity ys) table_numbered
      (numbered_append (each_place (fault_rows ys) (length ys)) (sum_fault capacity (all_held ys)) faults_numbered refl)

  pub port_numbered : (port : ℕ) → numbered (port_refusals capacity ys port) ≡ true
  port_numbered port = numbered_append (remaining_refusals capacity ys) (no_such_port (length ys) port) remaining_numbered refl

  pub attach_numbered : (port cable : ℕ) → numbered (attach_refusals capacity ys port cable) ≡ true
  attach_numbered port cable = numbered_append (port_refusals capacity ys port) (cannot_attach (port_row ys port) port cable) (port_numbered port) refl

  pub use_numbered : (port : ℕ) → numbered (use_refusals capacity ys port) ≡ true
  use_numbered port = numbered_append (port_refusals capacity ys port) (not_attached (port_row ys port) port) (port_numbered port) refl

  pub request_numbered : (port word : ℕ) → numbered (request_refusals capacity ys port word) ≡ true
  request_numbered port word =
      numbered_append (use_refusals capacity ys port) (own_refusals (port_row ys port) word ++ no_power_now (left_for capacity ys port) (port_row ys port) port word) (use_numbered port)
      (numbered_append (own_refusals (port_row ys port) word) (no_power_now (left_for capacity ys port) (port_row ys port) port word) (answer_numbered (rule_list (port_row ys port)) word) refl)

  -- ---- rows that can be looked at

  pub count_high : NoneApply (table_refusals capacity (length ys)) → length ys ≤ 8
  count_high x = at_most 1 8 (length ys) x.0

  pub capacity_low : NoneApply (table_refusals capacity (length ys)) → 15 * length ys ≤ capacity
  capacity_low x = at_least (15 * length ys) 1600 capacity x.1.0

  -- ---- sound rows

  module _ (x : NoneApply (remaining_refusals capacity ys)) where
    pub table_passes : NoneApply (table_refusals capacity (length ys))
    table_passes = none_left (table_refusals capacity (length ys)) (sound_refusals capacity ys) x

    rest : NoneApply (sound_refusals capacity ys)
    rest = none_right (table_refusals capacity (length ys)) (sound_refusals capacity ys) x

    pub sound_at : (k : ℕ) → k < length ys → sound_row (row_of ys k) ≡ true
    sound_at k h =
        not-false (sound_row (row_of ys k)) (none_at (fault_rows ys) (length ys) k (none_left (each_place (fault_rows ys) (length ys))
        (sum_fault capacity (all_held ys)) rest) h).0

    pub sum_fits : all_held ys ≤ capacity
    sum_fits = ltb-false capacity (all_held ys) (none_right (each_place (fault_rows ys) (length ys)) (sum_fault capacity (all_held ys)) rest).0

  -- ---- a port of sound rows

  module _ (port : ℕ) (x : NoneApply (port_refusals capacity ys port)) where
    pub rows_pass : NoneApply (remaining_refusals capacity ys)
    rows_pass = none_left (remaining_refusals capacity ys) (no_such_port (length ys) port) x

    pub port_low : 1 ≤ port
    port_low = at_least 1 (length ys) port (none_right (remaining_refusals capacity ys) (no_such_port (length ys) port) x).0

    pub port_high : port ≤ length ys
    port_high = at_most 1 (length ys) port (none_right (remaining_refusals capacity ys) (no_such_port (length ys) port) x).0

    pub port_at : port - 1 < length ys
    port_at = let l = port_low in let h = port_high in omega (arith, l, h)

    -- what the others hold and the own together stay within the capacity
    pub own_fits : others_held ys port + held_at ys (port - 1) ≤ capacity
    own_fits = let a = others_at_most (port - 1) (held_at ys) (length ys) port_at in let b = sum_fits rows_pass in omega (arith, a, b)

    -- capacity less what the others hold is what all leave of it, and the own again
    pub left_is : (capacity - all_held ys) + held_at ys (port - 1) ≡ left_for capacity ys port
    left_is =
        let a = one_apart (port - 1) (held_at ys) (length ys) port_at in
        let b = sum_fits rows_pass in
        omega (arith, a, b)

    pub row_sound : sound_row (port_row ys port) ≡ true
    row_sound = sound_at rows_pass (port - 1) port_at

  -- ---- an attached port of sound rows

  module _ (port : ℕ) (x : NoneApply (use_refusals capacity ys port)) where
    pub use_port : NoneApply (port_refusals capacity ys port)
    use_port = none_left (port_refusals capacity ys port) (not_attached (port_row ys port) port) x

    pub in_use_lem : eqb (port_row ys port).cable.0 0 ≡ false
    in_use_lem =
        not-true (eqb (port_row ys port).cable.0 0)
        (not-false (not (eqb (port_row ys port).cable.0 0)) (none_right (port_refusals capacity ys port) (not_attached (port_row ys port) port) x).0)

    pub attached : SoundAttached (port_row ys port)
    attached = sound_attached_lem (port_row ys port) (row_sound port use_port) in_use_lem

    pub cable_kept : bad_cable (port_row ys port).cable.0 ≡ false
    cable_kept = attached.good_cable
