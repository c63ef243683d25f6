-- Proves the claims of specs/ManyRows.antt.
-- Assumes nothing.
use mathlib.Core.Path.{◌≡◌, ◌∙◌}
use mathlib.Core.Bool.{true, not}
use Prim.Native.Nat.{ℕ, ◌<◌}
use native.Mathlib.Omega.{arith}
use lib.ListN.{length}
use borrow.Author.Tests.{le-leb, lt-leb}
use Rattle.verdicts.specs.Refusals.{verdict, success}
use Rattle.verdicts.proofs.First.{hit}
use Rattle.steps.specs.Ranges.{within}
use Rattle.lists.specs.Writing.{write_refused}
use Rattle.ports.specs.Lending.{no_power_left, set_up_answer, set_up_rows, attach_answer, attach_rows, advertise_answer, advertise_rows, request_answer, request_rows, detach_answer, detach_rows, remaining_answer}
use Rattle.demands.specs.ManyRows.{SetUp30, Attach30, Advertise30, Request30, Detach30, Remaining30}

too_many : (n : ℕ) → 8 < n → not (within 1 8 n) ≡ true
too_many n h = rw (le-leb 1 n (omega (arith, h)), lt-leb n 8 h)

pub set_up_30 : SetUp30
unfolding set_up_answer set_up_rows
set_up_30 ys capacity many r zs e = (
  e.0 ∙ hit verdict success 30 0 _ (too_many (length ys) many),
  e.1 ∙ hit (λ n p. ys) _ 30 0 _ (too_many (length ys) many),
)

pub attach_30 : Attach30
unfolding attach_answer attach_rows
attach_30 ys capacity many port cable r zs e = (
  e.0 ∙ hit write_refused _ 30 0 _ (too_many (length ys) many),
  e.1 ∙ hit (λ n p. ys) _ 30 0 _ (too_many (length ys) many),
)

pub advertise_30 : Advertise30
unfolding advertise_answer advertise_rows
advertise_30 ys capacity many port r zs e = (
  e.0 ∙ hit write_refused _ 30 0 _ (too_many (length ys) many),
  e.1 ∙ hit (λ n p. ys) _ 30 0 _ (too_many (length ys) many),
)

pub request_30 : Request30
unfolding request_answer request_rows
request_30 ys capacity many port word r zs e = (
  e.0 ∙ hit verdict success 30 0 _ (too_many (length ys) many),
  e.1 ∙ hit (λ n p. ys) _ 30 0 _ (too_many (length ys) many),
)

pub detach_30 : Detach30
unfolding detach_answer detach_rows
detach_30 ys capacity many port r zs e = (
  e.0 ∙ hit verdict success 30 0 _ (too_many (length ys) many),
  e.1 ∙ hit (λ n p. ys) _ 30 0 _ (too_many (length ys) many),
)

pub remaining_30 : Remaining30
unfolding remaining_answer
remaining_30 ys capacity many r e = e ∙ hit no_power_left _ 30 0 _ (too_many (length ys) many)
