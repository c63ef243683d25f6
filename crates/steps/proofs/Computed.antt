-- A test that is computed at each number below a bound holds at each.
-- Assumes nothing.
use mathlib.Core.Path.{◌≡◌, ap, ◌∙◌}
use mathlib.Core.Bool.{Bool, true, ◌&&◌, and-eq-true_iff}
use mathlib.Core.Logic.{⊎_elim}
use Prim.Native.Nat.{ℕ, zero, suc, ◌<◌}
use native.Mathlib.Nat.{eq-or-lt_of_le, le_of_suc-le-suc}
use native.Mathlib.Omega.{arith}

unfoldable pub every_below : (ℕ → Bool) → ℕ → Bool
every_below f zero = true
every_below f (suc n) = every_below f n && f n

pub at_each : (f : ℕ → Bool) (n k : ℕ) → every_below f n ≡ true → k < n → f k ≡ true
unfolding every_below
at_each f zero k t h = absurd (omega arith)
at_each f (suc n) k t h =
    let s = (and-eq-true_iff (every_below f n) (f n)).0 t in
    ⊎_elim (λ e. ap f e ∙ s.1) (λ l. at_each f n k s.0 l) (eq-or-lt_of_le (le_of_suc-le-suc h))
