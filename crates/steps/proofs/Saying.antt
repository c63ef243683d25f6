-- What an answer says tells the answers apart: so a promise of what the answer says allows one answer only.
-- Assumes nothing.
use Rattle.std.specs.Prelude.{Option, Some, None}
use mathlib.Core.Path.{◌≡◌, refl, sym, ap, ◌∙◌}
use mathlib.Core.Bool.{Bool, true, false}
use Prim.Native.Nat.{ℕ}
use Rattle.steps.specs.Measure.{says, mv20_says, mv25_says, mv50_says, mv100_says, ma10_says, ma50_says}
use Rattle.steps.specs.declared.Mv20.{Mv20}
use Rattle.steps.specs.declared.Mv25.{Mv25}
use Rattle.steps.specs.declared.Mv50.{Mv50}
use Rattle.steps.specs.declared.Mv100.{Mv100}
use Rattle.steps.specs.declared.Ma10.{Ma10}
use Rattle.steps.specs.declared.Ma50.{Ma50}

-- an answer that can be had back from what it says is the only one that says so
pub one_answer : {A B : Type 0} (says : A → B) (back : B → A) → ((r : A) → back (says r) ≡ r) → (r s : A) → says r ≡ says s → r ≡ s
one_answer says back same r s e = sym (same r) ∙ ap back e ∙ same s

-- so it is with the answer in a step, which is the number that it counts
pub says_one : {A : Type 0} (count : A → ℕ) (of : ℕ → A) → ((v : A) → of (count v) ≡ v) → (r s : Option A) → says count r ≡ says count s → r ≡ s
says_one {A} count of made = one_answer (says count) back same where
  back : Bool × ℕ → Option A
  back (false, m) = Some (of m)
  back (true, m) = None

  same : (r : Option A) → back (says count r) ≡ r
  same (Some v) = ap Some (made v)
  same None = refl

pub mv20_one : (r s : Option Mv20) → mv20_says r ≡ mv20_says s → r ≡ s
mv20_one = says_one (λ (v : Mv20). v.0) (λ m. record { 0 = m }) (λ v. refl)

pub mv25_one : (r s : Option Mv25) → mv25_says r ≡ mv25_says s → r ≡ s
mv25_one = says_one (λ (v : Mv25). v.0) (λ m. record { 0 = m }) (λ v. refl)

pub mv50_one : (r s : Option Mv50) → mv50_says r ≡ mv50_says s → r ≡ s
mv50_one = says_one (λ (v : Mv50). v.0) (λ m. record { 0 = m }) (λ v. refl)

pub mv100_one : (r s : Option Mv100) → mv100_says r ≡ mv100_says s → r ≡ s
mv100_one = says_one (λ (v : Mv100). v.0) (λ m. record { 0 = m }) (λ v. refl)

pub ma10_one : (r s : Option Ma10) → ma10_says r ≡ ma10_says s → r ≡ s
ma10_one = says_one (λ (v : Ma10). v.0) (λ m. record { 0 = m }) (λ v. refl)

pub ma50_one : (r s : Option Ma50) → ma50_says r ≡ ma50_says s → r ≡ s
ma50_one = says_one (λ (v : Ma50). v.0) (λ m. record { 0 = m }) (λ v. refl)
