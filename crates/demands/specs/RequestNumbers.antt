-- What numbers a shared request can get: none, one of its own (20, 22 to 25, at place 0), or one of sharing (30 to 37). So no refusal of a list's
-- shape (10 to 17) comes out of it, for any rows, sound or not. `request_outcome` and `never_of_shape` in proofs/RequestNumbers.antt prove the two
-- claims (docs/STATEMENT.md, "Refusal numbers").
-- Assumes nothing.
use Rattle.std.specs.Prelude.{◌≡◌, Bool, true, List, ℕ, ◌≤◌}
use Rattle.verdicts.specs.declared.Verdict.{Verdict}
use Rattle.verdicts.specs.Refusals.{success}
use Rattle.steps.specs.Ranges.{within}
use Rattle.ports.specs.declared.Row.{Row}
use Rattle.board.specs.Promises.{SharesRequest}
use Rattle.demands.specs.RuleLists.{OwnRefusal}

-- the numbers of sharing
abbrev pub of_sharing : ℕ → Bool
of_sharing n = within 30 37 n

-- success, the request's own refusal, or one of sharing
pub data Outcome (r : Verdict) : Type 0 where
  accepted : r ≡ success → Outcome r
  own : OwnRefusal r → Outcome r
  shared : of_sharing r.number ≡ true → Outcome r

abbrev pub RequestOutcome : Type 0
RequestOutcome = (ys : List Row) (capacity port word : ℕ) (r : Verdict) (zs : List Row) → SharesRequest ys capacity port word r zs → Outcome r

abbrev pub NeverOfShape : Type 0
NeverOfShape =
    (ys : List Row) (capacity port word : ℕ) (r : Verdict) (zs : List Row) → SharesRequest ys capacity port word r zs
    → 10 ≤ r.number → r.number ≤ 17 → ⊥
