-- The tables of refusals by value: each row that applies has a number. Each table begins with the first refusal so far, whose number is its
-- own.
-- Assumes nothing.
use mathlib.Core.Path.{◌≡◌, refl}
use mathlib.Core.Bool.{false}
use mathlib.Core.List.{◌++◌}
use Prim.Native.Nat.{ℕ}
use Rattle.verdicts.proofs.First.{is_number, numbered_append, Without, without_append, without_numbered, Telling, telling_given}
use Rattle.requests.proofs.Answers.{answer_numbered}
use Rattle.ports.specs.declared.Row.{Row}
use Rattle.ports.specs.declared.Standing.{Standing}
use Rattle.ports.specs.RuleLists.{rule_list}
use Rattle.ports.specs.Refusing.{sum_fault, no_such_port, cannot_attach, not_attached, own_refusals, no_power_now}
use Rattle.ports.specs.Standing.{so_far, end_refusals, port_end_refusals}
use Rattle.ports.specs.Deciding.{left_beside, attach_end_refusals, use_end_refusals, request_end_refusals}

-- ---- the tables

-- None of them has a row that applies with the number m, where m is no refusal's and the first refusal so far has another.
module _ (m : ℕ) (out : is_number m ≡ false) (capacity : ℕ) (s : Standing) (given : Without m (so_far s)) where
  pub end_without : Without m (end_refusals capacity s)
  end_without = without_append m (so_far s) (sum_fault capacity s.held) given (without_numbered m out (sum_fault capacity s.held) refl)

  module _ (port : ℕ) where
    pub port_without : Without m (port_end_refusals capacity s port)
    port_without =
        without_append m (end_refusals capacity s) (no_such_port s.count port) end_without (without_numbered m out (no_such_port s.count port) refl)

    module _ (y : Row) where
      pub attach_without : (cable : ℕ) → Without m (attach_end_refusals capacity s y port cable)
      attach_without cable =
          without_append m (port_end_refusals capacity s port) (cannot_attach y port cable) port_without
          (without_numbered m out (cannot_attach y port cable) refl)

      pub use_without : Without m (use_end_refusals capacity s y port)
      use_without =
          without_append m (port_end_refusals capacity s port) (not_attached y port) port_without (without_numbered m out (not_attached y port) refl)

      pub request_without : (word : ℕ) → Without m (request_end_refusals capacity s y port word)
      request_without word =
          let own = own_refusals y word in
          let power = no_power_now (left_beside capacity s y) y port word in
          without_append m (use_end_refusals capacity s y port) (own ++ power) use_without
          (without_numbered m out (own ++ power) (numbered_append own power (answer_numbered (rule_list y) word) refl))

-- 0 is such a number: every row that applies has a number.
module _ (capacity : ℕ) (s : Standing) where
  pub end_telling : Telling (end_refusals capacity s)
  end_telling = end_without 0 refl capacity s (telling_given s.fault)

  module _ (port : ℕ) where
    pub port_telling : Telling (port_end_refusals capacity s port)
    port_telling = port_without 0 refl capacity s (telling_given s.fault) port

    module _ (y : Row) where
      pub attach_telling : (cable : ℕ) → Telling (attach_end_refusals capacity s y port cable)
      attach_telling cable = attach_without 0 refl capacity s (telling_given s.fault) port y cable

      pub use_telling : Telling (use_end_refusals capacity s y port)
      use_telling = use_without 0 refl capacity s (telling_given s.fault) port y

      pub request_telling : (word : ℕ) → Telling (request_end_refusals capacity s y port word)
      request_telling word = request_without 0 refl capacity s (telling_given s.fault) port y word
