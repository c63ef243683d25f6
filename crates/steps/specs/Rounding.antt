-- Rounding of an exact quotient, once, over numerator and divisor (STATEMENT, "Steps of measure"). Whatever STATEMENT rounds down or up
-- is rounded by these two.
use Rattle.std.specs.Prelude.{ℕ, zero, suc, ◌+◌, ◌/◌}
use Rattle.steps.specs.declared.Roundings.{Roundings}

-- "the greatest whole number that is not above it": n with n * d ≤ q. A divisor of 0 gives 0.
unfoldable pub down_of : ℕ → ℕ → ℕ
down_of q zero = 0
down_of q (suc d) = q / suc d

-- "the least whole number that is not below it": n with q ≤ n * d. A divisor of 0 gives 0.
unfoldable pub up_of : ℕ → ℕ → ℕ
up_of q zero = 0
up_of q (suc d) = (q + d) / suc d

-- the two together: "Both follow from one division" (T-03)
abbrev pub both_of : ℕ → ℕ → Roundings
both_of q d = record { down = down_of q d; up = up_of q d }
