-- Fixed, battery and variable requests: two figures against the advertised one, in the step of the object.
-- Assumes nothing.
use Rattle.std.specs.Prelude.{Ok}
use mathlib.Core.Path.{◌≡◌, sym, ap, ap₂, ◌∙◌}
use mathlib.Core.Bool.{Bool, true, false, not, and-false}
use mathlib.Core.Logic.{◌⊎◌, inl, inr}
use Prim.Native.Nat.{ℕ, ◌*◌, ◌<◌, ◌≤◌}
use native.Mathlib.Omega.{arith}
use lib.Dec.{leb, ltb}
use borrow.Author.Tests.{lt-ltb, le-ltb}
use Rattle.verdicts.specs.Refusals.{first_of, err, passed_by}
use Rattle.verdicts.proofs.First.{hit}
use Rattle.steps.specs.declared.Mv50.{Mv50}
use Rattle.steps.specs.declared.Ma10.{Ma10}
use Rattle.steps.specs.declared.Mw250.{Mw250}
use Rattle.steps.proofs.StepTests.{past}
use Rattle.objects.specs.declared.Object.{Object}
use Rattle.objects.specs.declared.Object.TheVariants.{Fixed, Battery, Variable}
use Rattle.requests.specs.Taking.{mismatch_of, operating_in, maximum_in}
use Rattle.requests.specs.Judging.{figure_rows, figure_refusals, refusals_of}

-- ---- the cases that the code tells apart

module _ (a w : ℕ) where
  pub operating_over : a < operating_in w → passed_by (figure_refusals a w) ≡ err 24 0
  operating_over h = hit err (Ok tt) 24 0 _ (lt-ltb a (operating_in w) h)

  module _ (within : operating_in w ≤ a) where
    pub maximum_over : a < maximum_in w → mismatch_of w ≡ false → passed_by (figure_refusals a w) ≡ err 25 0
    unfolding first_of
    maximum_over h e = rw (le-ltb a (operating_in w) within, lt-ltb a (maximum_in w) h, e)

    pub excused : mismatch_of w ≡ true → passed_by (figure_refusals a w) ≡ Ok tt
    unfolding first_of
    excused e = rw (le-ltb a (operating_in w) within, e, and-false (ltb a (maximum_in w)))

    pub both_within : maximum_in w ≤ a → passed_by (figure_refusals a w) ≡ Ok tt
    unfolding first_of
    both_within h = rw (le-ltb a (operating_in w) within, le-ltb a (maximum_in w) h)

-- ---- the measures

-- figures of one step are compared as the measures they stand for
figures_in : (step advertised w : ℕ) → 0 < step
    → passed_by (figure_refusals advertised w)
    ≡ passed_by (figure_rows (not (leb (operating_in w * step) (advertised * step))) (not (leb (maximum_in w * step) (advertised * step))) w)
figures_in step advertised w pos =
    ap₂ (λ (x y : Bool). passed_by (figure_rows x y w))
    (past step advertised (operating_in w) pos) (past step advertised (maximum_in w) pos)

pub fixed_limits : (f p w : ℕ) (v : Mv50) (a : Ma10)
    → passed_by (figure_refusals a.0 w) ≡ passed_by (refusals_of (Fixed f p v a) w)
unfolding first_of
fixed_limits f p w v a = figures_in 10 a.0 w (omega arith)

pub battery_limits : (w : ℕ) (x m : Mv50) (p : Mw250)
    → passed_by (figure_refusals p.0 w) ≡ passed_by (refusals_of (Battery x m p) w)
unfolding first_of
battery_limits w x m p = figures_in 250 p.0 w (omega arith)

pub variable_limits : (w : ℕ) (x m : Mv50) (a : Ma10)
    → passed_by (figure_refusals a.0 w) ≡ passed_by (refusals_of (Variable x m a) w)
unfolding first_of
variable_limits w x m a = figures_in 10 a.0 w (omega arith)

-- a current is advertised by a fixed object, or by a variable one
pub current_limits : (o : Object) (w : ℕ) (a : Ma10)
    → ((f : ℕ) × (p : ℕ) × (v : Mv50) × (o ≡ Fixed f p v a)) ⊎ ((x : Mv50) × (m : Mv50) × (o ≡ Variable x m a))
    → passed_by (figure_refusals a.0 w) ≡ passed_by (refusals_of o w)
current_limits o w a (inl e) = fixed_limits e.0 e.1 w e.2 a ∙ ap (λ (k : Object). passed_by (refusals_of k w)) (sym e.3)
current_limits o w a (inr e) = variable_limits w e.0 e.1 a ∙ ap (λ (k : Object). passed_by (refusals_of k w)) (sym e.2)
