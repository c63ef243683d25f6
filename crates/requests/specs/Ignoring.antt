-- The bits of a request that are ignored (STATEMENT, "Answering a request": "A reserved bit of a request is ignored, set or clear, and so is
-- a bit that is not examined"). They change no answer: that requests which agree in all other bits get the same one is claimed over the
-- contracts in demands, Ignored. No contract cites this page.
-- Assumes nothing.
use Rattle.std.specs.Prelude.{◌≡◌, Bool, true, not, ◌&&◌, cond, List, [], ◌∷◌, ◌++◌, ℕ, ◌<◌, eqb, Option, Some, None}
use Rattle.objects.specs.Bits.{bits}
use Rattle.objects.specs.declared.Object.{Object}
use Rattle.objects.specs.declared.Object.TheVariants.{Fixed, Battery, Variable, Pps, Avs}
use Rattle.lists.specs.declared.Words.{Words}
use Rattle.requests.specs.Taking.{position_of}
use Rattle.requests.specs.Answering.{bad_position, named_by}

-- fixed, battery, variable: the rows "reserved" are 27, 21 and 20; "not examined" are 25..22
abbrev pub beside_figures : List ℕ
beside_figures = (27 ∷ 21 ∷ 20 ∷ []) ++ (25 ∷ 24 ∷ 23 ∷ 22 ∷ [])

-- PPS and AVS: the rows "reserved" are 27, 21 and 8..7; "not examined" are 26, for want of a maximum figure, and 25..22
abbrev pub beside_voltage : List ℕ
beside_voltage = (27 ∷ 21 ∷ 8 ∷ 7 ∷ []) ++ (26 ∷ 25 ∷ 24 ∷ 23 ∷ 22 ∷ [])

abbrev pub ignored_by : Object → List ℕ
ignored_by (Fixed f p v a) = beside_figures
ignored_by (Battery x m p) = beside_figures
ignored_by (Variable x m a) = beside_figures
ignored_by (Pps l x m a) = beside_voltage
ignored_by (Avs p l h) = beside_voltage

-- all but the position: "Where the position names no object, nothing else in the word counts."
abbrev pub below_position : List ℕ
below_position =
    27 ∷ 26 ∷ 25 ∷ 24 ∷ 23 ∷ 22 ∷ 21 ∷ 20 ∷ 19 ∷ 18 ∷ 17 ∷ 16 ∷ 15 ∷ 14
    ∷ 13 ∷ 12 ∷ 11 ∷ 10 ∷ 9 ∷ 8 ∷ 7 ∷ 6 ∷ 5 ∷ 4 ∷ 3 ∷ 2 ∷ 1 ∷ 0 ∷ []

-- by what the word that is named stands for; where that is no object, the list is refused whatever is asked
abbrev pub ignored_for : Option Object → List ℕ
ignored_for (Some o) = ignored_by o
ignored_for None = below_position

-- on a list
abbrev pub ignored_on : Words → ℕ → List ℕ
ignored_on l w = cond (bad_position l.count (position_of w)) below_position (ignored_for (named_by l w))

abbrev pub is_none_of : ℕ → List ℕ → Bool
is_none_of b [] = true
is_none_of b (x ∷ xs) = not (eqb b x) && is_none_of b xs

-- two words have the same bit at each of the 32 places but these
abbrev pub AgreeOutside : List ℕ → ℕ → ℕ → Type 0
AgreeOutside places w v = (b : ℕ) → b < 32 → is_none_of b places ≡ true → bits w b b ≡ bits v b b

-- two requests on a list that differ in ignored bits alone
abbrev pub SameOn : Words → ℕ → ℕ → Type 0
SameOn l w v = AgreeOutside (ignored_on l w) w v
