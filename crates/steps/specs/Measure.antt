-- A figure in one step of measure, given in another (STATEMENT, "Steps of measure").
-- Assumes nothing.
use Rattle.std.specs.Prelude.{Option, Some, None, Bool, true, false, ◌&&◌, ℕ, ◌*◌, ltb, eqb}
use Rattle.steps.specs.Rounding.{down_of}
use Rattle.steps.specs.declared.Mv20.{Mv20}
use Rattle.steps.specs.declared.Mv25.{Mv25}
use Rattle.steps.specs.declared.Mv50.{Mv50}
use Rattle.steps.specs.declared.Mv100.{Mv100}
use Rattle.steps.specs.declared.Ma10.{Ma10}
use Rattle.steps.specs.declared.Ma50.{Ma50}

-- ---- what is to be answered

-- "The conversion gives the exact figure": m steps of this size are the same measure, and m fits 16 bits.
abbrev pub stands : ℕ → ℕ → ℕ → Bool
stands measure step m = eqb (m * step) measure && ltb m 65536

-- ".. or refuses": whether it is refused, and the figure, zero where it is. This refusal has no number.
abbrev pub or_refused : Bool → ℕ → Bool × ℕ
or_refused true m = (false, m)
or_refused false m = (true, 0)

-- Of all m only the whole steps in the measure can stand for it.
abbrev pub count_of : ℕ → ℕ → Bool × ℕ
count_of measure step = or_refused (stands measure step (down_of measure step)) (down_of measure step)

-- A figure in steps of the size `from`, given in steps of the size `to`. The measure, in mV or mA, stays the same.
unfoldable pub converted_of : ℕ → ℕ → ℕ → Bool × ℕ
converted_of figure from to = count_of (figure * from) to

-- ---- what each answer says, by the number that it counts: "Each step has a type of its own", and so has the answer in it

abbrev pub says : {A : Type 0} → (A → ℕ) → Option A → Bool × ℕ
says count (Some v) = (false, count v)
says count None = (true, 0)

abbrev pub scaled_says : Option ℕ → Bool × ℕ
scaled_says r = says (λ (m : ℕ). m) r

abbrev pub mv20_says : Option Mv20 → Bool × ℕ
mv20_says r = says (λ (v : Mv20). v.0) r

abbrev pub mv25_says : Option Mv25 → Bool × ℕ
mv25_says r = says (λ (v : Mv25). v.0) r

abbrev pub mv50_says : Option Mv50 → Bool × ℕ
mv50_says r = says (λ (v : Mv50). v.0) r

abbrev pub mv100_says : Option Mv100 → Bool × ℕ
mv100_says r = says (λ (v : Mv100). v.0) r

abbrev pub ma10_says : Option Ma10 → Bool × ℕ
ma10_says r = says (λ (v : Ma10). v.0) r

abbrev pub ma50_says : Option Ma50 → Bool × ℕ
ma50_says r = says (λ (v : Ma50). v.0) r
