-- A number below 100000 has the same digits, whether each is asked for by its power of ten or they are divided off one by one.
-- Assumes nothing.
use mathlib.Core.Path.{◌≡◌, refl, ap, ap₂, sym, ◌∙◌}
use mathlib.Core.Bool.{false}
use mathlib.Core.Logic.{⊎_elim}
use mathlib.Core.List.{List, [], ◌∷◌}
use Prim.Native.Nat.{ℕ, suc, ◌+◌, ◌/◌, ◌%◌, ◌^◌, ◌≤◌, ◌<◌}
use native.Mathlib.Omega.{arith}
use lib.Dec.{eqb}
use borrow.Author.Tests.{lt-ltb, le-ltb, eqb-true}
use Rattle.std.proofs.lemmas.Bool.{ne_eqb, cases_order}
use Rattle.std.specs.Fmt.{digits, digits_onto, digit_glyph}
use Rattle.steps.proofs.Computed.{every_below, at_each}
use Rattle.lines.specs.Text.{Appended, digit, digit_from, decimal}
use Rattle.lines.specs.Numbers.{number_text}
use Rattle.lines.proofs.Appending.{text_is}

glyph_of : (d : ℕ) → d < 10 → digit_glyph false d ≡ 48 + d
unfolding every_below
glyph_of d h = eqb-true (digit_glyph false d) (48 + d) (at_each (λ (k : ℕ). eqb (digit_glyph false k) (48 + k)) 10 d refl h)

glyph : (n : ℕ) → digit_glyph false (n % 10) ≡ digit n
glyph n = glyph_of (n % 10) (omega arith)

last : (k n : ℕ) (acc : List ℕ) → n < 10 → digits_onto (suc k) 10 false n acc ≡ digit n ∷ acc
last k n acc h = let none : n / 10 ≡ 0 = omega (arith, h) in rw none (ap (λ (d : ℕ). d ∷ acc) (glyph n))

next : (k n : ℕ) (acc : List ℕ) → 10 ≤ n → digits_onto (suc k) 10 false n acc ≡ digits_onto k 10 false (n / 10) (digit n ∷ acc)
next k n acc h =
    simp (ne_eqb (n / 10) 0 (λ (e : n / 10 ≡ 0). omega (arith, e, h)))
    (ap (λ (d : ℕ). digits_onto k 10 false (n / 10) (d ∷ acc)) (glyph n))

absent : (power n : ℕ) → n < power → digit_from power n ≡ []
absent power n h = simp (lt-ltb n power h)

there : (power n : ℕ) → power ≤ n → digit_from power n ≡ digit (n / power) ∷ []
there power n h = simp (le-ltb n power h)

all_digits : (n : ℕ) → digits 10 false n ≡ digits_onto 64 10 false n []
unfolding digits
all_digits n = refl

cell : (n m : ℕ) {xs ys : List ℕ} → n ≡ m → xs ≡ ys → digit n ∷ xs ≡ digit m ∷ ys
cell n m e same = ap₂ (λ (k : ℕ) (l : List ℕ). digit k ∷ l) e same

one : (n : ℕ) → n < 10 → decimal n ≡ digits_onto 64 10 false n []
one n h =
    rw (absent 10000 n (omega (arith, h)), absent 1000 n (omega (arith, h)), absent 100 n (omega (arith, h)), absent 10 n h)
    (sym (last 63 n [] h))

two : (n : ℕ) → 10 ≤ n → n < 100 → decimal n ≡ digits_onto 64 10 false n []
two n l h =
    rw (absent 10000 n (omega (arith, h)), absent 1000 n (omega (arith, h)), absent 100 n h, there 10 n l)
    (sym (next 63 n [] l ∙ last 62 (n / 10) (digit n ∷ []) (omega (arith, h))))

three : (n : ℕ) → 100 ≤ n → n < 1000 → decimal n ≡ digits_onto 64 10 false n []
three n l h =
    rw (absent 10000 n (omega (arith, h)), absent 1000 n h, there 100 n l, there 10 n (omega (arith, l)))
    (
    cell (n / 100) (n / 10 / 10) (omega arith) refl
    ∙ sym (
    next 63 n [] (omega (arith, l))
    ∙ next 62 (n / 10) (digit n ∷ []) (omega (arith, l))
    ∙ last 61 (n / 10 / 10) (digit (n / 10) ∷ digit n ∷ []) (omega (arith, h))
    )
    )

four : (n : ℕ) → 1000 ≤ n → n < 10000 → decimal n ≡ digits_onto 64 10 false n []
four n l h =
    rw (absent 10000 n h, there 1000 n l, there 100 n (omega (arith, l)), there 10 n (omega (arith, l)))
    (
    cell (n / 1000) (n / 10 / 10 / 10) (omega arith) (cell (n / 100) (n / 10 / 10) (omega arith) refl)
    ∙ sym (
    next 63 n [] (omega (arith, l))
    ∙ next 62 (n / 10) (digit n ∷ []) (omega (arith, l))
    ∙ next 61 (n / 10 / 10) (digit (n / 10) ∷ digit n ∷ []) (omega (arith, l))
    ∙ last 60 (n / 10 / 10 / 10) (digit (n / 10 / 10) ∷ digit (n / 10) ∷ digit n ∷ []) (omega (arith, h))
    )
    )

five : (n : ℕ) → 10000 ≤ n → n < 100000 → decimal n ≡ digits_onto 64 10 false n []
five n l h =
    rw (there 10000 n l, there 1000 n (omega (arith, l)), there 100 n (omega (arith, l)), there 10 n (omega (arith, l)))
    (
    cell (n / 10000) (n / 10 / 10 / 10 / 10) (omega arith) (cell (n / 1000) (n / 10 / 10 / 10) (omega arith) (cell (n / 100) (n / 10 / 10) (omega arith) refl))
    ∙ sym (
    next 63 n [] (omega (arith, l))
    ∙ next 62 (n / 10) (digit n ∷ []) (omega (arith, l))
    ∙ next 61 (n / 10 / 10) (digit (n / 10) ∷ digit n ∷ []) (omega (arith, l))
    ∙ next 60 (n / 10 / 10 / 10) (digit (n / 10 / 10) ∷ digit (n / 10) ∷ digit n ∷ []) (omega (arith, l))
    ∙ last 59 (n / 10 / 10 / 10 / 10) (digit (n / 10 / 10 / 10) ∷ digit (n / 10 / 10) ∷ digit (n / 10) ∷ digit n ∷ []) (omega (arith, h))
    )
    )

below_or : (n m : ℕ) {A : Type 0} → (n < m → A) → (m ≤ n → A) → A
below_or n m below above =
    ⊎_elim
    (λ same. above (omega (arith, same)))
    (λ other. ⊎_elim (λ less. below less) (λ more. above (omega (arith, more))) other)
    (cases_order n m)

pub same_decimal : (n : ℕ) → n < 100000 → decimal n ≡ digits 10 false n
same_decimal n h =
    below_or n 10 (λ a. one n a)
    (λ a. below_or n 100 (λ b. two n a b) (λ b. below_or n 1000 (λ c. three n b c) (λ c. below_or n 10000 (λ d. four n c d) (λ d. five n d h))))
    ∙ sym (all_digits n)

-- what is put down of a number is what is told of it
pub told : {a b : List ℕ} {i j : ℕ} (n : ℕ) → n < 2 ^ 16 → Appended a i (decimal n) b j → Appended a i (number_text n) b j
told n h put = text_is (same_decimal n (omega (arith, h))) put
