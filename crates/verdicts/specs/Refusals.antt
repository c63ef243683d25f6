-- Refusals in order (STATEMENT, "Order"): a call has a table of refusals, one a row, and the first row that applies is the answer.
-- Assumes nothing.
use Rattle.std.specs.Prelude.{◌≡◌, cond, Bool, true, false, List, [], ◌∷◌, ◌++◌, ℕ, zero, suc, eqb, Result, Ok, Err}
use Rattle.verdicts.specs.declared.Verdict.{Verdict}

-- one row: whether the refusal applies, its number, its place
pub data Refusal : Type 0 where
  refusal : Bool → ℕ → ℕ → Refusal

-- the rows of the places 1..n, place by place; `rows k` are those of place k + 1
unfoldable pub each_place : (ℕ → List Refusal) → ℕ → List Refusal
each_place rows zero = []
each_place rows (suc k) = each_place rows k ++ rows k

-- the first row that applies decides, by its number and its place; where none does, the answer stands
unfoldable pub first_of : {A : Type 0} → (ℕ → ℕ → A) → List Refusal → A → A
first_of refused [] answer = answer
first_of refused (refusal true n p ∷ rs) answer = refused n p
first_of refused (refusal false n p ∷ rs) answer = first_of refused rs answer

abbrev pub verdict : ℕ → ℕ → Verdict
verdict n p = record { number = n; place = p }

-- "Success is 0 at place 0."
abbrev pub success : Verdict
success = verdict 0 0

abbrev pub verdict_of : List Refusal → Verdict
verdict_of rs = first_of verdict rs success

-- ---- the same as results, for `?`

-- a refusal as an error
abbrev pub err : {A : Type 0} → ℕ → ℕ → Result A Verdict
err n p = Err (verdict n p)

-- nothing where no row applies, else the first that does
abbrev pub passed_by : List Refusal → Result (Unit {0}) Verdict
passed_by rs = first_of err rs (Ok tt)

-- of a verdict that was given: nothing where it is a success, else the verdict
abbrev pub passed_of : Verdict → Result (Unit {0}) Verdict
passed_of v = cond (eqb v.number 0) (Ok tt) (Err v)

-- and back: the verdict that a result tells
abbrev pub told : Result (Unit {0}) Verdict → Verdict
told (Ok u) = success
told (Err v) = v

-- ---- what is claimed of a table and an answer; no contract cites these

-- no row applies
abbrev pub NoneApply : List Refusal → Type 0
NoneApply [] = Unit {0}
NoneApply (refusal b n p ∷ rs) = (b ≡ false) × NoneApply rs

-- a row with number n and place p applies, and no row before it does
pub record First (rs : List Refusal) (n p : ℕ) : Type 0 where
  pub before : List Refusal
  pub after : List Refusal
  pub stands : rs ≡ before ++ (refusal true n p ∷ after)
  pub clear : NoneApply before
