-- What each function promises of its result r (STATEMENT, "Steps of measure").
use Rattle.std.specs.Prelude.{Option, ◌≡◌, ℕ}
use Rattle.steps.specs.Rounding.{down_of, up_of, both_of}
use Rattle.steps.specs.Measure.{converted_of, scaled_says, mv20_says, mv25_says, mv50_says, mv100_says, ma10_says, ma50_says}
use Rattle.steps.specs.declared.Roundings.{Roundings}
use Rattle.steps.specs.declared.Mv20.{Mv20}
use Rattle.steps.specs.declared.Mv25.{Mv25}
use Rattle.steps.specs.declared.Mv50.{Mv50}
use Rattle.steps.specs.declared.Mv100.{Mv100}
use Rattle.steps.specs.declared.Ma10.{Ma10}
use Rattle.steps.specs.declared.Ma50.{Ma50}

-- rounding, over numerator and divisor
abbrev pub RoundedDown : ℕ → ℕ → ℕ → Type 0
RoundedDown q d r = r ≡ down_of q d

abbrev pub RoundedUp : ℕ → ℕ → ℕ → Type 0
RoundedUp q d r = r ≡ up_of q d

abbrev pub RoundedBoth : ℕ → ℕ → Roundings → Type 0
RoundedBoth q d r = r ≡ both_of q d

-- "The conversion gives the exact figure, or refuses". The figure counts steps of the size `from`, in mV for a voltage and in mA for a
-- current.
abbrev pub Rescaled : ℕ → ℕ → ℕ → Option ℕ → Type 0
Rescaled figure from to r = scaled_says r ≡ converted_of figure from to

-- The same, with the answer in the type of its own step ("Each step has a type of its own").
abbrev pub ConvertedToMv20 : ℕ → ℕ → Option Mv20 → Type 0
ConvertedToMv20 figure from r = mv20_says r ≡ converted_of figure from 20

abbrev pub ConvertedToMv25 : ℕ → ℕ → Option Mv25 → Type 0
ConvertedToMv25 figure from r = mv25_says r ≡ converted_of figure from 25

abbrev pub ConvertedToMv50 : ℕ → ℕ → Option Mv50 → Type 0
ConvertedToMv50 figure from r = mv50_says r ≡ converted_of figure from 50

abbrev pub ConvertedToMv100 : ℕ → ℕ → Option Mv100 → Type 0
ConvertedToMv100 figure from r = mv100_says r ≡ converted_of figure from 100

abbrev pub ConvertedToMa10 : ℕ → ℕ → Option Ma10 → Type 0
ConvertedToMa10 figure from r = ma10_says r ≡ converted_of figure from 10

abbrev pub ConvertedToMa50 : ℕ → ℕ → Option Ma50 → Type 0
ConvertedToMa50 figure from r = ma50_says r ≡ converted_of figure from 50
