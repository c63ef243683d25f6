-- Numbers as the console tells them (docs/CONSOLE.md, Answers): a space and then the digits, with no zero in front.
-- Assumes nothing.
use Rattle.std.specs.Prelude.{List, [], ◌∷◌, ◌++◌, ℕ}
use Rattle.std.specs.Fmt.{decimal}

abbrev pub number_text : ℕ → List ℕ
number_text n = decimal n

abbrev pub numbers_text : List ℕ → List ℕ
numbers_text [] = []
numbers_text (n ∷ ns) = 32 ∷ decimal n ++ numbers_text ns

-- the number and the place, with which every answer begins
abbrev pub verdict_text : ℕ → ℕ → List ℕ
verdict_text number place = decimal number ++ numbers_text (place ∷ [])
