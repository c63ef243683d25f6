-- One struct for all five kinds (STATEMENT, "Lists in hand"). "Fields that the kind does not have are not looked at, and are zero in what
-- is given back."
-- Assumes nothing.
use Rattle.std.specs.Prelude.{cond, ℕ, zero, suc, ltb, Option, Some, None}
use Rattle.steps.specs.declared.Mv50.{Mv50}
use Rattle.steps.specs.declared.Mv100.{Mv100}
use Rattle.steps.specs.declared.Ma10.{Ma10}
use Rattle.steps.specs.declared.Ma50.{Ma50}
use Rattle.steps.specs.declared.Mw250.{Mw250}
use Rattle.objects.specs.declared.Side.{Side}
use Rattle.objects.specs.declared.Side.TheVariants.{Source, Sink}
use Rattle.objects.specs.declared.Object.{Object}
use Rattle.objects.specs.declared.Object.TheVariants.{Fixed, Battery, Variable, Pps, Avs}
use Rattle.objects.specs.Decode.{zero_object}
use Rattle.flat.specs.declared.FlatObject.{FlatObject}

-- ---- out: by the object's kind

-- a figure that the kind does not have
abbrev pub no_mv50 : Mv50
no_mv50 = record { 0 = 0 }

abbrev pub no_mv100 : Mv100
no_mv100 = record { 0 = 0 }

abbrev pub no_ma10 : Ma10
no_ma10 = record { 0 = 0 }

abbrev pub no_ma50 : Ma50
no_ma50 = record { 0 = 0 }

abbrev pub no_mw250 : Mw250
no_mw250 = record { 0 = 0 }

-- "0 fixed, 1 battery, 2 variable, 3 PPS, 4 AVS": fixed is 0, so that an empty place is all zero
abbrev pub flat_fixed : ℕ → ℕ → Mv50 → Ma10 → FlatObject
flat_fixed f p v a =
    record { kind = 0; flags = f; peak = p; limited = 0; volts = v; max = no_mv50; min = no_mv50; power = no_mw250; current = a; max100 = no_mv100; min100 = no_mv100; current50 = no_ma50; low = no_ma10; high = no_ma10 }

abbrev pub flat_battery : Mv50 → Mv50 → Mw250 → FlatObject
flat_battery x m p =
    record { kind = 1; flags = 0; peak = 0; limited = 0; volts = no_mv50; max = x; min = m; power = p; current = no_ma10; max100 = no_mv100; min100 = no_mv100; current50 = no_ma50; low = no_ma10; high = no_ma10 }

abbrev pub flat_variable : Mv50 → Mv50 → Ma10 → FlatObject
flat_variable x m a =
    record { kind = 2; flags = 0; peak = 0; limited = 0; volts = no_mv50; max = x; min = m; power = no_mw250; current = a; max100 = no_mv100; min100 = no_mv100; current50 = no_ma50; low = no_ma10; high = no_ma10 }

abbrev pub flat_pps : ℕ → Mv100 → Mv100 → Ma50 → FlatObject
flat_pps l x m a =
    record { kind = 3; flags = 0; peak = 0; limited = l; volts = no_mv50; max = no_mv50; min = no_mv50; power = no_mw250; current = no_ma10; max100 = x; min100 = m; current50 = a; low = no_ma10; high = no_ma10 }

abbrev pub flat_avs : ℕ → Ma10 → Ma10 → FlatObject
flat_avs p l h =
    record { kind = 4; flags = 0; peak = p; limited = 0; volts = no_mv50; max = no_mv50; min = no_mv50; power = no_mw250; current = no_ma10; max100 = no_mv100; min100 = no_mv100; current50 = no_ma50; low = l; high = h }

unfoldable pub flat_of : Object → FlatObject
flat_of (Fixed f p v a) = flat_fixed f p v a
flat_of (Battery x m p) = flat_battery x m p
flat_of (Variable x m a) = flat_variable x m a
flat_of (Pps l x m a) = flat_pps l x m a
flat_of (Avs p l h) = flat_avs p l h

-- ---- in: by the kind number

abbrev pub raised_by : ℕ → FlatObject → Option Object
raised_by zero x = Some (Fixed x.flags x.peak x.volts x.current)
raised_by (suc zero) x = Some (Battery x.max x.min x.power)
raised_by (suc (suc zero)) x = Some (Variable x.max x.min x.current)
raised_by (suc (suc (suc zero))) x = Some (Pps x.limited x.max100 x.min100 x.current50)
raised_by (suc (suc (suc (suc zero)))) x = Some (Avs x.peak x.low x.high)
raised_by (suc (suc (suc (suc (suc k))))) x = None

unfoldable pub raised_of : FlatObject → Option Object
raised_of x = raised_by x.kind x

-- in the list of a sink: "4 is not a sink's kind", and "Peak current and power limited are fields that no sink object has: they are not
-- looked at" (STATEMENT, "Shape of a sink list")
abbrev pub sink_raised_by : ℕ → FlatObject → Option Object
sink_raised_by zero x = Some (Fixed x.flags 0 x.volts x.current)
sink_raised_by (suc zero) x = Some (Battery x.max x.min x.power)
sink_raised_by (suc (suc zero)) x = Some (Variable x.max x.min x.current)
sink_raised_by (suc (suc (suc zero))) x = Some (Pps 0 x.max100 x.min100 x.current50)
sink_raised_by (suc (suc (suc (suc k)))) x = None

unfoldable pub sink_raised : FlatObject → Option Object
sink_raised x = sink_raised_by x.kind x

abbrev pub raised_for : Side → FlatObject → Option Object
raised_for Source x = raised_of x
raised_for Sink x = sink_raised x

-- What each answer says: its refusal number, and the object. 12: "a kind that is not allowed". "On a refusal everything else in the
-- answer is zero".
abbrev pub raised_says : Option Object → ℕ × Object
raised_says (Some o) = (0, o)
raised_says None = (12, zero_object)

-- what is to be said of a flat object: a number above 4 is no kind
abbrev pub flat_says : FlatObject → ℕ × Object
flat_says x = cond (ltb 4 x.kind) (12, zero_object) (0, (raised_says (raised_of x)).1)

-- ---- no contract cites these

-- "0 fixed, 1 battery, 2 variable, 3 PPS, 4 AVS"; of a sink "4 is not a sink's kind"
abbrev pub last_kind : Side → ℕ
last_kind Source = 4
last_kind Sink = 3

-- a flat object with its own fields alone: the others are zero
abbrev pub own_by : ℕ → FlatObject → FlatObject
own_by zero x = flat_fixed x.flags x.peak x.volts x.current
own_by (suc zero) x = flat_battery x.max x.min x.power
own_by (suc (suc zero)) x = flat_variable x.max x.min x.current
own_by (suc (suc (suc zero))) x = flat_pps x.limited x.max100 x.min100 x.current50
own_by (suc (suc (suc (suc zero)))) x = flat_avs x.peak x.low x.high
own_by (suc (suc (suc (suc (suc k))))) x = x

abbrev pub own_fields : FlatObject → FlatObject
own_fields x = own_by x.kind x

-- a flat object without what no sink has
abbrev pub bare_flat : FlatObject → FlatObject
bare_flat x =
    record { kind = x.kind; flags = x.flags; peak = 0; limited = 0; volts = x.volts; max = x.max; min = x.min; power = x.power; current = x.current; max100 = x.max100; min100 = x.min100; current50 = x.current50; low = x.low; high = x.high }

-- what each side keeps of a flat object
abbrev pub own_for : Side → FlatObject → FlatObject
own_for Source x = own_fields x
own_for Sink x = own_fields (bare_flat x)
