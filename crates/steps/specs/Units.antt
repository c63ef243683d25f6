-- What a figure stands for, in millivolts, milliamperes and milliwatts (STATEMENT, "Steps of measure").
-- Assumes nothing.
use Rattle.std.specs.Prelude.{ℕ, ◌*◌}
use Rattle.steps.specs.declared.Mv20.{Mv20}
use Rattle.steps.specs.declared.Mv25.{Mv25}
use Rattle.steps.specs.declared.Mv50.{Mv50}
use Rattle.steps.specs.declared.Mv100.{Mv100}
use Rattle.steps.specs.declared.Ma10.{Ma10}
use Rattle.steps.specs.declared.Ma50.{Ma50}
use Rattle.steps.specs.declared.Mw250.{Mw250}
use Rattle.steps.specs.declared.HalfWatts.{HalfWatts}

abbrev pub mv20 : Mv20 → ℕ
mv20 v = v.0 * 20

abbrev pub mv25 : Mv25 → ℕ
mv25 v = v.0 * 25

abbrev pub mv50 : Mv50 → ℕ
mv50 v = v.0 * 50

abbrev pub mv100 : Mv100 → ℕ
mv100 v = v.0 * 100

abbrev pub ma10 : Ma10 → ℕ
ma10 a = a.0 * 10

abbrev pub ma50 : Ma50 → ℕ
ma50 a = a.0 * 50

abbrev pub mw250 : Mw250 → ℕ
mw250 p = p.0 * 250

-- half watts
abbrev pub mw500 : HalfWatts → ℕ
mw500 p = p.0 * 500
