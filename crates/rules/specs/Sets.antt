-- The set of objects that a list must have (STATEMENT, "The rule check", 18). "The check does not look at flags, peak currents and the
-- power limited bit".
-- Assumes nothing.
use Rattle.std.specs.Prelude.{Bool, true, false, not, ◌&&◌, ◌||◌, cond, List, [], ◌∷◌, ℕ, zero, suc, ◌+◌, ◌*◌, ltb, eqb, get_or}
use Rattle.std.specs.Bool.{beq}
use Rattle.steps.specs.Units.{mv50, mv100}
use Rattle.objects.specs.declared.Object.{Object}
use Rattle.objects.specs.declared.Object.TheVariants as object
use Rattle.objects.specs.Asking.{of_object, of_fixed, of_pps, of_avs}
use Rattle.objects.specs.Decode.{decode_of}
use Rattle.lists.specs.declared.Words.{Words}
use Rattle.rules.specs.declared.Profile.{Profile}
use Rattle.rules.specs.Tables.{Slot, Nothing, Fixed, Avs, Prog, rails, fixed_slots, avs_slots, prog_slots}

-- ---- an object is what a slot asks for

-- the second AVS current is zero exactly when the range ends at 15 V; every range of a programmable supply begins at 5 V
unfoldable pub fits : Slot → Object → Bool
fits Nothing o = false
fits (Fixed volts) o = of_fixed (λ v a. eqb (mv50 v) (volts * 1000)) o
fits (Avs past15V) o = of_avs (λ l h. beq past15V (not (eqb h.0 0))) o
fits (Prog volts top) o = of_pps (λ x m a. eqb (mv100 x) (top * 100) && eqb (mv100 m) 5000) o

abbrev pub fits_one : List Slot → Object → Bool
fits_one [] o = false
fits_one (s ∷ ss) o = fits s o || fits_one ss o

-- ---- how many objects of a list are so

-- among the first n words
unfoldable pub how_many : (Object → Bool) → List ℕ → ℕ → ℕ
how_many asked ws zero = 0
how_many asked ws (suc k) = how_many asked ws k + cond (of_object asked (decode_of (get_or ws k 0))) 1 0

abbrev pub none : (Object → Bool) → Words → Bool
none asked l = eqb (how_many asked l.words l.count) 0

abbrev pub one : (Object → Bool) → Words → Bool
one asked l = eqb (how_many asked l.words l.count) 1

abbrev pub each_once : List Slot → Words → Bool
each_once [] l = true
each_once (s ∷ ss) l = one (fits s) l && each_once ss l

-- "exactly": each of them once, and of their kind no other
abbrev pub exactly : (Object → Bool) → List Slot → Words → Bool
exactly kind ss l = each_once ss l && none (λ (o : Object). kind o && not (fits_one ss o)) l

-- ---- 18

abbrev pub is_fixed : Object → Bool
is_fixed = of_fixed (λ v a. true)

abbrev pub is_avs : Object → Bool
is_avs = of_avs (λ l h. true)

abbrev pub is_pps : Object → Bool
is_pps = of_pps (λ x m a. true)

abbrev pub is_battery_or_variable : Object → Bool
is_battery_or_variable (object.Fixed f p v a) = false
is_battery_or_variable (object.Battery x m p) = true
is_battery_or_variable (object.Variable x m a) = true
is_battery_or_variable (object.Pps l x m a) = false
is_battery_or_variable (object.Avs p l h) = false

-- "exactly the fixed voltages and the AVS that M calls for", "no battery and no variable object"
abbrev pub right_base : ℕ → Words → Bool
right_base m l = exactly is_fixed (fixed_slots m rails) l && (exactly is_avs (avs_slots m) l && none is_battery_or_variable l)

-- "either no PPS object, or, where P is equal to M, exactly the programmable supplies of M, each once, with their minimum and
-- maximum"; "A PPS object where P is below M is thus refused"
abbrev pub right_pps : Profile → Words → Bool
right_pps p l = none is_pps l || (not (ltb p.present.0 p.max.0) && exactly is_pps (prog_slots p.max.0) l)

unfoldable pub wrong_set : Profile → Words → Bool
wrong_set p l = not (right_base p.max.0 l && right_pps p l)
