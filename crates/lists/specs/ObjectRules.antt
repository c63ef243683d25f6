-- What the shape of a list asks of its objects (STATEMENT, "Shape of a list"), in millivolts, milliamperes and watts.
-- Assumes nothing.
use Rattle.std.specs.Prelude.{Bool, true, false, not, ◌&&◌, ◌||◌, ℕ, ◌*◌, leb, ltb, eqb}
use Rattle.steps.specs.Units.{mv50, mv100, ma10, mw250}
use Rattle.objects.specs.declared.Object.{Object}
use Rattle.objects.specs.declared.Object.TheVariants.{Fixed, Battery, Variable, Pps, Avs}

-- "No voltage is out of bounds: that of a fixed object is at most 20 V; the maximum of a battery, a variable and a PPS object is at most
-- 21 V, and its minimum is not above its maximum."
abbrev pub within_bounds : Object → Bool
within_bounds (Fixed f p v a) = leb (mv50 v) 20000
within_bounds (Battery x m p) = leb (mv50 x) 21000 && leb (mv50 m) (mv50 x)
within_bounds (Variable x m a) = leb (mv50 x) 21000 && leb (mv50 m) (mv50 x)
within_bounds (Pps l x m a) = leb (mv100 x) 21000 && leb (mv100 m) (mv100 x)
within_bounds (Avs p l h) = true

unfoldable pub out_of_bounds : Object → Bool
out_of_bounds o = not (within_bounds o)

-- millivolts times milliamperes are microwatts
abbrev pub at_most_100_W : ℕ → Bool
at_most_100_W microwatts = leb microwatts 100000000

-- "No fixed, battery or variable object offers more than 100 W". "PPS and AVS have no such bound."
abbrev pub within_100_W : Object → Bool
within_100_W (Fixed f p v a) = at_most_100_W (mv50 v * ma10 a)
within_100_W (Battery x m p) = at_most_100_W (mw250 p * 1000)
within_100_W (Variable x m a) = at_most_100_W (mv50 x * ma10 a)
within_100_W (Pps l x m a) = true
within_100_W (Avs p l h) = true

unfoldable pub over_100_W : Object → Bool
over_100_W o = not (within_100_W o)

-- "first the fixed, then battery, then variable, then AVS, then PPS"
abbrev pub rank_of : Object → ℕ
rank_of (Fixed f p v a) = 0
rank_of (Battery x m p) = 1
rank_of (Variable x m a) = 2
rank_of (Avs p l h) = 3
rank_of (Pps l x m a) = 4

-- within a kind, by the voltage of fixed, the min voltage of battery and variable, the max voltage of PPS
abbrev pub key_of : Object → ℕ
key_of (Fixed f p v a) = v.0
key_of (Battery x m p) = m.0
key_of (Variable x m a) = m.0
key_of (Avs p l h) = 0
key_of (Pps l x m a) = x.0

-- a fixed voltage "is above that of the one before it"; battery, variable and PPS do not fall; "there is no second AVS"
abbrev pub keys_may_follow : Object → ℕ → ℕ → Bool
keys_may_follow (Fixed f p v a) earlier later = ltb earlier later
keys_may_follow (Battery x m p) earlier later = leb earlier later
keys_may_follow (Variable x m a) earlier later = leb earlier later
keys_may_follow (Avs p l h) earlier later = false
keys_may_follow (Pps l x m a) earlier later = leb earlier later

-- "Each word is compared with the one right before it": whether the second object may stand after the first
unfoldable pub may_follow : Object → Object → Bool
may_follow before o = ltb (rank_of before) (rank_of o) || (eqb (rank_of before) (rank_of o) && keys_may_follow o (key_of before) (key_of o))
