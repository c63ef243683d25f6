-- When a figure can be given in another step, and that there and back gives the same figure: once, over the two steps.
-- Assumes nothing.
use mathlib.Core.Path.{◌≡◌, refl, sym, ap, ◌∙◌}
use mathlib.Core.Bool.{Bool, true, false, true≢false, and-eq-true_iff}
use mathlib.Core.Logic.{◌⊎◌, inl, inr}
use Prim.Native.Nat.{ℕ, ◌*◌, ◌<◌}
use lib.Dec.{eqb, ltb}
use borrow.Author.Tests.{eq-eqb, lt-ltb, eqb-true, ltb-true}
use Rattle.steps.specs.Rounding.{down_of}
use Rattle.steps.specs.Measure.{stands, or_refused, converted_of}
use Rattle.steps.proofs.RoundingLaws.{down_exact}

stood : (measure step m : ℕ) → stands measure step m ≡ true → (m * step ≡ measure) × (m < 65536)
stood measure step m t =
    let s = (and-eq-true_iff (eqb (m * step) measure) (ltb m 65536)).0 t in
    (eqb-true (m * step) measure s.0, ltb-true m 65536 s.1)

abbrev refuses : Bool × ℕ → Bool
refuses s = s.0

abbrev figure : Bool × ℕ → ℕ
figure s = s.1

kept : (t : Bool) (k m : ℕ) → or_refused t k ≡ (false, m) → (t ≡ true) × (k ≡ m)
kept true k m e = (refl, ap figure e)
kept false k m e = absurd (true≢false (ap refuses e))

let_go : (t : Bool) (k : ℕ) → (t ≡ true → ⊥) → or_refused t k ≡ (true, 0)
let_go true k f = absurd (f refl)
let_go false k f = refl

-- a figure is given exactly when one of 16 bits has the same measure
pub exactly : (n a b m : ℕ) → 0 < b → m * b ≡ n * a → m < 65536 → converted_of n a b ≡ (false, m)
unfolding converted_of
exactly n a b m h e l = rw (down_exact (n * a) b m h e) (simp (eq-eqb (m * b) (n * a) e, lt-ltb m 65536 l))

pub exactly_only : (n a b m : ℕ) → converted_of n a b ≡ (false, m) → (m * b ≡ n * a) × (m < 65536)
unfolding converted_of
exactly_only n a b m e =
    let k = kept (stands (n * a) b (down_of (n * a) b)) (down_of (n * a) b) m e in
    let s = stood (n * a) b (down_of (n * a) b) k.0 in
    rw k.1 at s

-- and it is refused exactly when none has
pub lost : (n a b : ℕ) → ((m : ℕ) → m * b ≡ n * a → m < 65536 → ⊥) → converted_of n a b ≡ (true, 0)
unfolding converted_of
lost n a b f =
    let_go (stands (n * a) b (down_of (n * a) b)) (down_of (n * a) b)
    (λ t. let s = stood (n * a) b (down_of (n * a) b) t in f (down_of (n * a) b) s.0 s.1)

pub lost_only : (n a b : ℕ) → 0 < b → converted_of n a b ≡ (true, 0) → (m : ℕ) → m * b ≡ n * a → m < 65536 → ⊥
lost_only n a b h e m k l = true≢false (ap refuses (sym e ∙ exactly n a b m h k l))

pub there_and_back : (n a b m : ℕ) → 0 < a → n < 65536 → converted_of n a b ≡ (false, m) → converted_of m b a ≡ (false, n)
there_and_back n a b m h l e = exactly m b a n h (sym (exactly_only n a b m e).0) l

-- a conversion is one of the two
pub given_or_refused : (n a b : ℕ) → (converted_of n a b ≡ (false, down_of (n * a) b)) ⊎ (converted_of n a b ≡ (true, 0))
unfolding converted_of
given_or_refused n a b = go (stands (n * a) b (down_of (n * a) b)) where
  go : (t : Bool) → (or_refused t (down_of (n * a) b) ≡ (false, down_of (n * a) b)) ⊎ (or_refused t (down_of (n * a) b) ≡ (true, 0))
  go true = inl refl
  go false = inr refl
