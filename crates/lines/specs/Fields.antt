-- The fields of a line lie between its spaces (docs/CONSOLE.md, Lines and fields).
-- Assumes nothing.
use Rattle.std.specs.Prelude.{◌≡◌, ◌<◌, Bool, List, ℕ, Option, ◌==◌, length, MatchOption, IfSome}
use Rattle.std.specs.List.{before_first, after_first, position_or_len}
use denote.Ref.{Bor}

abbrev pub is_space : ℕ → Bool
is_space b = b == 32

-- what stands before the first space, or all of the line where it has none
abbrev pub first_field : List ℕ → List ℕ
first_field line = before_first is_space line

-- what is left behind the first field: what follows the space behind it, and nothing at the end of the line
abbrev pub IsLeft : List ℕ → Option (Bor (List ℕ)) → Type 0
IsLeft line rest =
    MatchOption rest (position_or_len is_space line ≡ length line) (λ r. (r.now ≡ after_first is_space line) × (position_or_len is_space line < length line))

-- a line is read from the one place to the other: its first field came
abbrev pub Leaves : Option (Bor (List ℕ)) → Option (Bor (List ℕ)) → Type 0
Leaves before after = IfSome before (λ line. IsLeft line.now after)

-- what is said of the field that comes next, where one does
abbrev pub OnNext : Option (Bor (List ℕ)) → (List ℕ → Type 0) → Type 0
OnNext before P = IfSome before (λ line. P (first_field line.now))
