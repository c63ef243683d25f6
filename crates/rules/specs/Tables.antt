-- Which objects a port's list has (STATEMENT, "Which objects": "M alone decides which objects a port has, never P.").
-- Assumes nothing.
use Rattle.std.specs.Prelude.{Bool, true, false, ◌&&◌, List, [], ◌∷◌, ◌++◌, ℕ, ltb}
use Rattle.rules.specs.declared.tables.Rail.{Rail}
use Rattle.rules.specs.declared.tables.Supply.{Supply}

-- what stands at a place of a port's list. A programmable supply has the volts of its name and the top of its range in 100 mV
pub data Slot : Type 0 where
  Nothing : Slot
  Fixed : ℕ → Slot
  Avs : Bool → Slot
  Prog : ℕ → ℕ → Slot

-- a slot that is there or not
abbrev pub slot_if : Bool → Slot → List Slot
slot_if true s = s ∷ []
slot_if false s = []

-- "The fixed objects come from four rows": voltage, "there when M is above"
abbrev pub row : ℕ → ℕ → Rail
row volts above = record { volts = volts; above = record { 0 = above } }

abbrev pub rails : List Rail
rails = row 5 0 ∷ row 9 30 ∷ row 15 54 ∷ row 20 90 ∷ []

abbrev pub exceeds : ℕ → Rail → Bool
exceeds m r = ltb r.above.0 m

-- the rows that M exceeds
abbrev pub fixed_slots : ℕ → List Rail → List Slot
fixed_slots m [] = []
fixed_slots m (r ∷ rs) = slot_if (exceeds m r) (Fixed r.volts) ++ fixed_slots m rs

-- "There is one AVS object when M is above 54, and none otherwise. Its second current is zero when M is 90 or less, and not zero above
-- that."
abbrev pub avs_slots : ℕ → List Slot
avs_slots m = slot_if (ltb 54 m) (Avs (ltb 90 m))

unfoldable pub base_slots : ℕ → List Slot
base_slots m = fixed_slots m rails ++ avs_slots m

-- "The programmable supplies, in this order": each with its "maximum" and "there when"
unfoldable pub prog_slots : ℕ → List Slot
prog_slots m =
    slot_if (ltb 30 m && ltb m 90) (Prog 9 110) ++ slot_if (ltb 54 m && ltb m 120) (Prog 15 160) ++ slot_if (ltb 90 m) (Prog 20 210)

-- the full list of a port
abbrev pub slots : ℕ → List Slot
slots m = base_slots m ++ prog_slots m

-- as the code goes through its table of supplies: whether M lies between the ends of a row
abbrev pub holds : ℕ → Supply → Bool
holds m r = ltb r.above.0 m && ltb m r.below.0
