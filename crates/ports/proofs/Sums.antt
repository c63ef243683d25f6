-- Figures together: place by place, and with one of them apart.
-- Assumes nothing.
use mathlib.Core.Path.{◌≡◌, refl, sym, ap, ap₂, ◌∙◌}
use mathlib.Core.Bool.{Bool, true, false}
use mathlib.Core.Logic.{⊎_elim}
use Prim.Native.Nat.{ℕ, zero, suc, ◌+◌, ◌≤◌, ◌<◌}
use native.Mathlib.Nat.{eq-or-lt_of_le, le_of_suc-le-suc, lt-suc_self}
use native.Mathlib.Omega.{arith}
use lib.Dec.{eqb}
use borrow.Author.Tests.{eq-eqb, ne_eqb, eqb-true, eqb-false}
use Rattle.ports.specs.Rows.{together, besides}

pub same_figures : (f g : ℕ → ℕ) (n : ℕ) → ((k : ℕ) → k < n → f k ≡ g k) → together f n ≡ together g n
unfolding together
same_figures f g zero e = refl
same_figures f g (suc n) e = ap₂ ◌+◌ (same_figures f g n (λ k h. e k (omega arith))) (e n (lt-suc_self n))

-- ---- one figure apart

pub besides_own : (own : ℕ) (f : ℕ → ℕ) → besides own f own ≡ 0
unfolding besides
besides_own own f = rw (eq-eqb own own refl) refl

pub besides_other : (own : ℕ) (f : ℕ → ℕ) (k : ℕ) → (k ≡ own → ⊥) → besides own f k ≡ f k
unfolding besides
besides_other own f k h = rw (ne_eqb k own h) refl

-- figures that agree at every other place agree with the own apart
pub others_agree : (own : ℕ) (f g : ℕ → ℕ) (n : ℕ) → ((k : ℕ) → k < n → (k ≡ own → ⊥) → f k ≡ g k)
    → together (besides own f) n ≡ together (besides own g) n
others_agree own f g n same = same_figures (besides own f) (besides own g) n each where
  each : (k : ℕ) → k < n → besides own f k ≡ besides own g k
  each k h = go (eqb k own) refl where
    go : (b : Bool) → eqb k own ≡ b → besides own f k ≡ besides own g k
    go true e =
        let q = eqb-true k own e in
        ap (besides own f) q ∙ besides_own own f ∙ sym (ap (besides own g) q ∙ besides_own own g)
    go false e =
        let q = eqb-false k own e in
        besides_other own f k q ∙ same k h q ∙ sym (besides_other own g k q)

-- past the own place nothing is left out
all_others : (own : ℕ) (f : ℕ → ℕ) (n : ℕ) → n ≤ own → together (besides own f) n ≡ together f n
all_others own f n h = same_figures (besides own f) f n (λ k l. besides_other own f k (λ e. absurd (omega arith)))

pub one_apart : (own : ℕ) (f : ℕ → ℕ) (n : ℕ) → own < n → together f n ≡ together (besides own f) n + f own
unfolding together
one_apart own f zero h = absurd (omega arith)
one_apart own f (suc n) h = ⊎_elim
    (λ e.
    let a = all_others own f n (omega arith) in
    let b : besides own f n ≡ 0 = ap (λ (k : ℕ). besides own f k) (sym e) ∙ besides_own own f in
    let c : f n ≡ f own = ap f (sym e) in
    omega (arith, a, b, c))
    (λ l.
    let a = one_apart own f n l in
    let b = besides_other own f n (λ e. absurd (omega arith)) in
    omega (arith, a, b))
    (eq-or-lt_of_le (le_of_suc-le-suc h))

pub others_at_most : (own : ℕ) (f : ℕ → ℕ) (n : ℕ) → own < n → together (besides own f) n + f own ≤ together f n
others_at_most own f n h = let e = one_apart own f n h in omega (arith, e)
