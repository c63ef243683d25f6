-- The rule list of a row that can be offered: it passes its rule check, it has 1 to 7 words, and a request on it is refused by a number of
-- the request's own only, never for the shape of the list. No request that is accepted on it has more power than the row's P, so what a port
-- holds stays within 15 .. P. Each claim is proved by the theorem of its name in small letters: the first four in proofs/RuleLists.antt, the last
-- three in proofs/AcceptedPower.antt (docs/STATEMENT.md, "Ports that share").
-- `Offerable` (ports, specs/RuleLists) is a row for which a list can be built. The claims are over the definitions that the contracts cite: `rule_list`, `checked_of` and `answer_of`.
-- Assumes nothing.
use Rattle.std.specs.Prelude.{◌≡◌, ℕ, ◌≤◌}
use Rattle.verdicts.specs.declared.Verdict.{Verdict}
use Rattle.verdicts.specs.Refusals.{success}
use Rattle.rules.specs.Checking.{checked_of}
use Rattle.requests.specs.Answering.{answer_of}
use Rattle.ports.specs.declared.Row.{Row}
use Rattle.ports.specs.RuleLists.{rule_profile, rule_list, Offerable}
use Rattle.ports.specs.Requests.{power_of, new_held}

-- ---- the list

-- it passes the rule check, for the profile that it is built for
abbrev pub RuleListPasses : Type 0
RuleListPasses = (y : Row) → Offerable y → checked_of (rule_profile y) (rule_list y) ≡ success

abbrev pub RuleListNotEmpty : Type 0
RuleListNotEmpty = (y : Row) → Offerable y → 1 ≤ (rule_list y).count

abbrev pub RuleListTo7 : Type 0
RuleListTo7 = (y : Row) → Offerable y → (rule_list y).count ≤ 7

-- the refusals that are a request's own are 20 and 22 to 25, at place 0
pub record OwnRefusal (v : Verdict) : Type 0 where
  pub from_20 : 20 ≤ v.number
  pub to_25 : v.number ≤ 25
  pub not_21 : v.number ≡ 21 → ⊥
  pub place_0 : v.place ≡ 0

-- a request on it is never refused for the list's shape
abbrev pub RefusedByOwn : Type 0
RefusedByOwn = (y : Row) → Offerable y → (w : ℕ) → ((answer_of (rule_list y) w).number ≡ 0 → ⊥) → OwnRefusal (answer_of (rule_list y) w)

-- ---- the power of a request on it

-- what a row holds for a request is never below 15
abbrev pub HeldFrom15 : Type 0
HeldFrom15 = (y : Row) (w : ℕ) → 15 ≤ new_held y w

-- an accepted request has no more power than the P that the list was offered at
abbrev pub AcceptedPower : Type 0
AcceptedPower = (y : Row) → Offerable y → (w : ℕ) → answer_of (rule_list y) w ≡ success → power_of (rule_list y) y.present.0 w ≤ y.present.0

-- so what is held for it is at most P, where P is 15 or more
abbrev pub HeldToP : Type 0
HeldToP = (y : Row) → Offerable y → (w : ℕ) → answer_of (rule_list y) w ≡ success → 15 ≤ y.present.0 → new_held y w ≤ y.present.0
