-- Currents (STATEMENT, "The builder" and "The rule check"). P chooses them, and for PPS M does.
-- Assumes nothing.
use Rattle.std.specs.Prelude.{Bool, not, cond, ◌&&◌, ◌||◌, ℕ, zero, suc, ◌*◌, min, leb, ltb, eqb}
use Rattle.steps.specs.Rounding.{down_of, up_of}
use Rattle.rules.specs.declared.Profile.{Profile}

-- ---- fixed objects, in 10 mA

-- the quotient "of a fixed object of V volts is 50 P / V, in 10 mA": rounded down and up
abbrev pub down_at : Profile → ℕ → ℕ
down_at p volts = down_of (50 * p.present.0) volts

abbrev pub up_at : Profile → ℕ → ℕ
up_at p volts = up_of (50 * p.present.0) volts

-- R "of the built fixed currents: 0 down, 1 up"
abbrev pub rounded_as : ℕ → ℕ → ℕ → ℕ
rounded_as zero down up = down
rounded_as (suc n) down up = up

-- the limit at a voltage, from 3 A and the cable in one step: "at most 3 A at 5, 9 and 15 V, and at every voltage at most the cable"
abbrev pub limit_by : ℕ → ℕ → ℕ → ℕ
limit_by volts threeA cable = cond (eqb volts 20) cable (min threeA cable)

abbrev pub limit_at : Profile → ℕ → ℕ
limit_at p volts = limit_by volts 300 p.cable.0

-- "Its current is the quotient rounded as R says", within its limit
unfoldable pub built_current : Profile → ℕ → ℕ
built_current p volts = min (rounded_as p.rounding (down_at p volts) (up_at p volts)) (limit_at p volts)

-- "What is allowed", the rows of fixed objects. Of 5, 9 and 15 V: "P is above six times the volts, which is 3 A there"
abbrev pub above_3_A : Profile → ℕ → Bool
above_3_A p volts = not (eqb volts 20) && ltb (6 * volts) p.present.0

-- there "from the smaller of 3 A and the cable up to the smaller of the cable and the quotient rounded up"
abbrev pub allowed_above_3_A : Profile → ℕ → ℕ → Bool
allowed_above_3_A p volts a = leb (min 300 p.cable.0) a && leb a (min p.cable.0 (up_at p volts))

-- otherwise, and at 20 V: "the quotient rounded down, or rounded up, each cut to the cable"
abbrev pub either_rounding : Profile → ℕ → ℕ → Bool
either_rounding p volts a = eqb a (min (down_at p volts) p.cable.0) || eqb a (min (up_at p volts) p.cable.0)

unfoldable pub fixed_allowed : Profile → ℕ → ℕ → Bool
fixed_allowed p volts a = cond (above_3_A p volts) (allowed_above_3_A p volts a) (either_rounding p volts a)

-- ---- PPS, in 50 mA

-- "current before its limit, in 50 mA", "rounded down whatever R says": M half watts by 9, 15 and 20 V, each 10 M / V
abbrev pub prog_down : Profile → ℕ → ℕ
prog_down p volts = down_of (10 * p.max.0) volts

-- the "cable in whole 50 mA": "the greatest figure of 50 mA that is not above the cable", "C / 5 rounded down". A cut and no conversion
abbrev pub cable_in_whole_50_mA : Profile → ℕ
cable_in_whole_50_mA p = down_of p.cable.0 5

-- "at most its limit, and at most the cable in whole 50 mA": the limit is 3 A, and 20 V Prog has none
abbrev pub prog_limit : Profile → ℕ → ℕ
prog_limit p volts = limit_by volts 60 (cable_in_whole_50_mA p)

unfoldable pub prog_current : Profile → ℕ → ℕ
prog_current p volts = min (prog_down p volts) (prog_limit p volts)

-- the rows "in addition": "15 V Prog, 90 < M < 120" and "9 V Prog, 54 < M < 90"
abbrev pub may_exceed : ℕ → ℕ → Bool
may_exceed m volts = (eqb volts 9 && (ltb 54 m && ltb m 90)) || (eqb volts 15 && (ltb 90 m && ltb m 120))

-- "the figure that is built", and of these two "in addition" "from the built figure up to the smaller of the cable in whole 50 mA and" the
-- figure before its limit, rounded down
unfoldable pub prog_allowed : Profile → ℕ → ℕ → Bool
prog_allowed p volts a =
    eqb a (prog_current p volts)
    || (may_exceed p.max.0 volts && (leb (prog_current p volts) a && leb a (min (prog_down p volts) (cable_in_whole_50_mA p))))
