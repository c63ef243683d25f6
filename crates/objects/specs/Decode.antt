-- What a word says (STATEMENT, "Object words").
-- Assumes nothing.
use Rattle.std.specs.Prelude.{Bool, cond, ◌||◌, ℕ, zero, suc, eqb, Option, Some, None}
use Rattle.objects.specs.Bits.{bits}
use Rattle.objects.specs.declared.Object.{Object}
use Rattle.objects.specs.declared.Object.TheVariants.{Fixed, Battery, Variable, Pps, Avs}
use Rattle.objects.specs.declared.Side.{Side}
use Rattle.objects.specs.declared.Side.TheVariants.{Source, Sink}

-- ---- "The fields of each kind", at their bits

-- fixed, 00b: flags, peak current, voltage, current
abbrev pub fixed_of : ℕ → Object
fixed_of w = Fixed (bits w 29 23) (bits w 21 20) (record { 0 = bits w 19 10 }) (record { 0 = bits w 9 0 })

-- battery, 01b: maximum voltage, minimum voltage, power
abbrev pub battery_of : ℕ → Object
battery_of w = Battery (record { 0 = bits w 29 20 }) (record { 0 = bits w 19 10 }) (record { 0 = bits w 9 0 })

-- variable, 10b: as battery, with a current for the power
abbrev pub variable_of : ℕ → Object
variable_of w = Variable (record { 0 = bits w 29 20 }) (record { 0 = bits w 19 10 }) (record { 0 = bits w 9 0 })

-- PPS, 1100b: power limited, maximum voltage, minimum voltage, current
abbrev pub pps_of : ℕ → Object
pps_of w = Pps (bits w 27 27) (record { 0 = bits w 24 17 }) (record { 0 = bits w 15 8 }) (record { 0 = bits w 6 0 })

-- SPR AVS, 1110b: peak current, first current, second current
abbrev pub avs_of : ℕ → Object
avs_of w = Avs (bits w 27 26) (record { 0 = bits w 19 10 }) (record { 0 = bits w 9 0 })

-- ---- "The kind of a word is in bits 31..30; where these are 11b, bits 29..28 tell which."

-- the number in these bits: 00b, 01b, 10b, or 1100b to 1111b
unfoldable pub kind_bits : ℕ → ℕ
kind_bits w = cond (eqb (bits w 31 30) 3) (bits w 31 28) (bits w 31 30)

abbrev pub is_kind : ℕ → ℕ → Bool
is_kind w kind = eqb (kind_bits w) kind

-- the number of each kind: bits 31..30 where they are 00b, 01b or 10b, else bits 31..28; no contract cites this
abbrev pub kind_number : Object → ℕ
kind_number (Fixed f p v a) = 0
kind_number (Battery x m p) = 1
kind_number (Variable x m a) = 2
kind_number (Pps l x m a) = 12
kind_number (Avs p l h) = 14

-- 11b: 00b is PPS and 10b SPR AVS; 01b is "not allowed (EPR AVS)" and 11b "not allowed (no kind)"
abbrev pub by_augmented : ℕ → ℕ → Option Object
by_augmented zero w = Some (pps_of w)
by_augmented (suc zero) w = None
by_augmented (suc (suc zero)) w = Some (avs_of w)
by_augmented (suc (suc (suc k))) w = None

abbrev pub by_kind : ℕ → ℕ → Option Object
by_kind zero w = Some (fixed_of w)
by_kind (suc zero) w = Some (battery_of w)
by_kind (suc (suc zero)) w = Some (variable_of w)
by_kind (suc (suc (suc k))) w = by_augmented (bits w 29 28) w

unfoldable pub decode_of : ℕ → Option Object
decode_of w = by_kind (bits w 31 30) w

-- ---- by the side whose list the word stands in: a sink has "no AVS object" (STATEMENT, "Sink objects")

abbrev pub except_avs : Option Object → Option Object
except_avs (Some (Fixed f p v a)) = Some (Fixed f p v a)
except_avs (Some (Battery x m p)) = Some (Battery x m p)
except_avs (Some (Variable x m a)) = Some (Variable x m a)
except_avs (Some (Pps l x m a)) = Some (Pps l x m a)
except_avs (Some (Avs p l h)) = None
except_avs None = None

abbrev pub allowed_for : Side → Option Object → Option Object
allowed_for Source d = d
allowed_for Sink d = except_avs d

abbrev pub decode_for : Side → ℕ → Option Object
decode_for side w = allowed_for side (decode_of w)

-- ---- what each answer says: its refusal number, and the object

-- "a fixed object with all its fields zero"
abbrev pub zero_object : Object
zero_object = Fixed 0 0 (record { 0 = 0 }) (record { 0 = 0 })

-- 12: "a kind that is not allowed". "On a refusal everything else in the answer is zero".
abbrev pub decoded_says : Option Object → ℕ × Object
decoded_says (Some o) = (0, o)
decoded_says None = (12, zero_object)

abbrev pub decoded_number : Option Object → ℕ
decoded_number d = (decoded_says d).0

-- ---- what is to be said of a word

-- "not allowed (EPR AVS)" and "not allowed (no kind)". Of a sink "the kinds 1101b, 1110b and 1111b are not allowed" (STATEMENT, "Sink
-- objects").
abbrev pub not_allowed_for : Side → ℕ → Bool
not_allowed_for Source kind = eqb kind 0xD || eqb kind 0xF
not_allowed_for Sink kind = eqb kind 0xD || eqb kind 0xE || eqb kind 0xF

abbrev pub word_says_for : Side → ℕ → ℕ × Object
word_says_for side w = cond (not_allowed_for side (kind_bits w)) (12, zero_object) (0, (decoded_says (decode_of w)).1)

abbrev pub word_says : ℕ → ℕ × Object
word_says w = word_says_for Source w
