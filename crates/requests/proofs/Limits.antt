-- A request to an object: the refusals in the order of their numbers, and the range of a voltage.
-- Assumes nothing.
use mathlib.Core.Path.{◌≡◌, ap, ◌∙◌}
use mathlib.Core.Bool.{Bool, true, false, not, ◌&&◌}
use Prim.Native.Nat.{ℕ}
use native.Mathlib.Omega.{arith}
use lib.Dec.{leb}
use borrow.Author.Tests.{le-leb}
use Rattle.verdicts.specs.Refusals.{first_of}
use Rattle.verdicts.proofs.First.{hit, miss}
use Rattle.objects.specs.declared.Object.{Object}
use Rattle.requests.specs.Taking.{mismatch_of, request_of}
use Rattle.requests.specs.Limits.{voltage_not_whole, voltage_outside, operating_too_large, maximum_too_large}
use Rattle.requests.specs.Judging.{refusals_of}

-- whatever the refusals make, and whatever the answer is where there is none
module _ {A : Type 0} (refused : ℕ → ℕ → A) (answer : A) (o : Object) (w : ℕ) where
  pub not_whole : voltage_not_whole o (request_of o w) ≡ true → first_of refused (refusals_of o w) answer ≡ refused 23 0
  not_whole e = hit refused answer 23 0 _ e

  module _ (whole : voltage_not_whole o (request_of o w) ≡ false) where
    pub outside : voltage_outside o (request_of o w) ≡ true → first_of refused (refusals_of o w) answer ≡ refused 22 0
    outside e = miss refused answer 23 0 _ whole ∙ hit refused answer 22 0 _ e

    module _ (inside : voltage_outside o (request_of o w) ≡ false) where
      pub over : operating_too_large o (request_of o w) ≡ true → first_of refused (refusals_of o w) answer ≡ refused 24 0
      over e = miss refused answer 23 0 _ whole ∙ miss refused answer 22 0 _ inside ∙ hit refused answer 24 0 _ e

      pub allowed : operating_too_large o (request_of o w) ≡ false → maximum_too_large o (mismatch_of w) (request_of o w) ≡ false
          → first_of refused (refusals_of o w) answer ≡ answer
      unfolding first_of
      allowed e f = rw (whole, inside, e, f)

-- PPS and AVS requests have no maximum figure
pub no_maximum : (limit : ℕ) (mismatch : Bool) → (not (leb 0 limit) && not mismatch) ≡ false
no_maximum limit mismatch = ap (λ (t : Bool). not t && not mismatch) (le-leb 0 limit (omega arith))
