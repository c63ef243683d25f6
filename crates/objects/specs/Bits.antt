-- Bit places as STATEMENT names them: `bits w 19 10` is the number in bits 19..10 of a word.
-- Assumes nothing.
use Rattle.std.specs.Prelude.{ℕ, ◌+◌, ◌-◌, ◌/◌, ◌%◌, ◌^◌}

unfoldable pub bits : ℕ → ℕ → ℕ → ℕ
bits w hi lo = w / 2 ^ lo % 2 ^ (hi + 1 - lo)
