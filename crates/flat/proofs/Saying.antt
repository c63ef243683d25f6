-- What an answer says tells the answers apart, so the promise of raising gives the answer itself.
-- Assumes nothing.
use Rattle.std.specs.Prelude.{Option, Some, None}
use mathlib.Core.Path.{◌≡◌, refl, ap, ◌∙◌}
use mathlib.Core.Bool.{Bool, cond}
use Prim.Native.Nat.{ℕ, zero, suc}
use native.Mathlib.Omega.{arith}
use borrow.Author.Tests.{lt-ltb}
use lib.Dec.{ltb}
use Rattle.steps.proofs.Saying.{one_answer}
use Rattle.objects.specs.declared.Object.{Object}
use Rattle.objects.specs.Decode.{zero_object}
use Rattle.flat.specs.declared.FlatObject.{FlatObject}
use Rattle.flat.specs.Flat.{raised_by, raised_of, raised_says, flat_says}
use Rattle.flat.specs.Promises.{Raises}

pub raised_one : (r s : Option Object) → raised_says r ≡ raised_says s → r ≡ s
raised_one = one_answer raised_says back same where
  back : ℕ × Object → Option Object
  back (zero, o) = Some o
  back (suc n, o) = None

  same : (r : Option Object) → back (raised_says r) ≡ r
  same (Some o) = refl
  same None = refl

-- what is to be said of a flat object is what the definition's answer says
pub flat_says_lem : (x : FlatObject) → flat_says x ≡ raised_says (raised_of x)
unfolding raised_of
flat_says_lem x = go x.kind where
  go : (k : ℕ) → cond (ltb 4 k) (12, zero_object) (0, (raised_says (raised_by k x)).1) ≡ raised_says (raised_by k x)
  go zero = refl
  go (suc zero) = refl
  go (suc (suc zero)) = refl
  go (suc (suc (suc zero))) = refl
  go (suc (suc (suc (suc zero)))) = refl
  go (suc (suc (suc (suc (suc k))))) = ap (λ (b : Bool). cond b (12, zero_object) (0, zero_object)) (lt-ltb 4 (suc (suc (suc (suc (suc k))))) (omega arith))

pub raised_is : (x : FlatObject) (r : Option Object) → Raises x r → r ≡ raised_of x
raised_is x r e = raised_one r (raised_of x) (e ∙ flat_says_lem x)
