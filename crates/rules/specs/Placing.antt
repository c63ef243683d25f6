-- The word at a place of a list that is built (STATEMENT, "Parts": "the word at a place of a built list, made without the rest").
-- Assumes nothing.
use Rattle.std.specs.Prelude.{cond, ℕ, ◌-◌, ltb, get_or, Option, Some, None}
use Rattle.steps.specs.Ranges.{within}
use Rattle.lists.specs.declared.Words.{Words}
use Rattle.rules.specs.declared.Profile.{Profile}
use Rattle.rules.specs.Building.{word_for, built_count}

-- What each answer says: its refusal number, and the word. 20: "where the place is outside 1 to the count".
abbrev pub placed_says : Option ℕ → ℕ × ℕ
placed_says (Some w) = (0, w)
placed_says None = (20, 0)

-- what is to be said of a place: places count from 1 to the count
abbrev pub place_says : Words → ℕ → ℕ × ℕ
place_says l place = cond (within 1 l.count place) (0, get_or l.words (place - 1) 0) (20, 0)

-- ---- as the code goes: the answer itself, and by the place from 0, of the first n places of a port's full list

unfoldable pub placed_in : Words → ℕ → Option ℕ
placed_in l place = cond (within 1 l.count place) (Some (get_or l.words (place - 1) 0)) None

unfoldable pub full_at : Profile → ℕ → ℕ → Option ℕ
full_at p n at = cond (ltb at n) (Some (word_for p at)) None

abbrev pub placed_at : Profile → ℕ → Option ℕ
placed_at p at = full_at p (built_count p) at
