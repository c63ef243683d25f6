-- Seven places (STATEMENT, "Lists in hand": "A list, of words or of objects, is seven places and a count.").
-- Assumes nothing.
use Rattle.std.specs.Prelude.{cond, List, [], ◌∷◌, ℕ, ltb}

-- the first n places as f has them, the others blank
abbrev pub place_to : {A : Type 0} → (ℕ → A) → A → ℕ → ℕ → A
place_to f blank n k = cond (ltb k n) (f k) blank

unfoldable pub seven_to : {A : Type 0} → (ℕ → A) → A → ℕ → List A
seven_to f blank n =
    place_to f blank n 0
    ∷ place_to f blank n 1
    ∷ place_to f blank n 2
    ∷ place_to f blank n 3
    ∷ place_to f blank n 4
    ∷ place_to f blank n 5
    ∷ place_to f blank n 6
    ∷ []
