-- "Reserved bits, which have to be zero" (STATEMENT, "Object words"; of a sink, "Sink objects"), by the side, the kind, and whether the word
-- is the first of its list.
-- Assumes nothing.
use Rattle.std.specs.Prelude.{Bool, true, false, not, ◌&&◌, ℕ, eqb}
use Rattle.objects.specs.Bits.{bits}
use Rattle.objects.specs.declared.Side.{Side}
use Rattle.objects.specs.declared.Side.TheVariants.{Source, Sink}
use Rattle.objects.specs.declared.Object.{Object}
use Rattle.objects.specs.declared.Object.TheVariants.{Fixed, Battery, Variable, Pps, Avs}

abbrev pub clear : ℕ → ℕ → ℕ → Bool
clear w hi lo = eqb (bits w hi lo) 0

-- "fixed, the first word of a list": 22, of a sink 22..20. "fixed, any later word": 29..22, of a sink 29..20
abbrev pub fixed_clear : Side → Bool → ℕ → Bool
fixed_clear Source true w = clear w 22 22
fixed_clear Source false w = clear w 29 22
fixed_clear Sink true w = clear w 22 20
fixed_clear Sink false w = clear w 29 20

-- of the bits next to power limited: 26..25, of a sink 27..25
abbrev pub limited_clear : Side → ℕ → Bool
limited_clear Source w = clear w 26 25
limited_clear Sink w = clear w 27 25

-- PPS: these, 16 and 7
abbrev pub pps_clear : Side → ℕ → Bool
pps_clear side w = limited_clear side w && clear w 16 16 && clear w 7 7

-- SPR AVS: 25..20
abbrev pub reserved_clear : Side → Object → Bool → ℕ → Bool
reserved_clear side (Fixed f p v a) first w = fixed_clear side first w
reserved_clear side (Battery x m p) first w = true
reserved_clear side (Variable x m a) first w = true
reserved_clear side (Pps l x m a) first w = pps_clear side w
reserved_clear side (Avs p l h) first w = clear w 25 20

unfoldable pub reserved_set : Side → Object → Bool → ℕ → Bool
reserved_set side o first w = not (reserved_clear side o first w)

-- ---- as the code asks, kind by kind

abbrev pub fixed_set : Side → Bool → ℕ → Bool
fixed_set side first w = not (fixed_clear side first w)

abbrev pub limited_set : Side → ℕ → Bool
limited_set side w = not (limited_clear side w)

abbrev pub pps_set : Side → ℕ → Bool
pps_set side w = not (pps_clear side w)
