-- The position of a slot and of a word: a word has that of each slot that it fits.
-- Assumes nothing.
use Rattle.std.specs.Prelude.{Option, Some, None}
use Rattle.objects.specs.declared.Object.{Object}
use mathlib.Core.Path.{◌≡◌, refl}
use mathlib.Core.Bool.{true, and-eq-true_iff, false≢true}
use mathlib.Core.List.{List}
use Prim.Native.Nat.{ℕ, ◌+◌, ◌*◌}
use native.Mathlib.Omega.{arith}
use lib.Dec.{eqb}
use lib.ListN.{get_or}
use borrow.Author.Tests.{eqb-true}
use Rattle.objects.specs.declared.Object.TheVariants as object
use Rattle.objects.specs.Asking.{of_object}
use Rattle.objects.specs.Decode.{decode_of}
use Rattle.lists.specs.ObjectRules.{rank_of, key_of}
use Rattle.rules.specs.Tables.{Slot, Nothing, Fixed, Avs, Prog}
use Rattle.rules.specs.Sets.{fits}
use Rattle.rules.proofs.Slots.{slot_rank, slot_key}

-- by the kind, and within a kind by the voltage, which stays below 1024 steps
abbrev pub slot_position : Slot → ℕ
slot_position s = slot_rank s * 1024 + slot_key s

abbrev pub position : Option Object → ℕ
position (Some o) = rank_of o * 1024 + key_of o
position None = 0

abbrev pub word_position : List ℕ → ℕ → ℕ
word_position ws k = position (decode_of (get_or ws k 0))

pub fits_at : (s : Slot) (d : Option Object) → of_object (fits s) d ≡ true → position d ≡ slot_position s
unfolding fits
fits_at Nothing (Some o) e = absurd (false≢true e)
fits_at (Fixed volts) (Some (object.Fixed f p v a)) e = omega (arith, eqb-true (v.0 * 50) (volts * 1000) e)
fits_at (Fixed volts) (Some (object.Battery x m p)) e = absurd (false≢true e)
fits_at (Fixed volts) (Some (object.Variable x m a)) e = absurd (false≢true e)
fits_at (Fixed volts) (Some (object.Pps l x m a)) e = absurd (false≢true e)
fits_at (Fixed volts) (Some (object.Avs p l h)) e = absurd (false≢true e)
fits_at (Avs past15V) (Some (object.Fixed f p v a)) e = absurd (false≢true e)
fits_at (Avs past15V) (Some (object.Battery x m p)) e = absurd (false≢true e)
fits_at (Avs past15V) (Some (object.Variable x m a)) e = absurd (false≢true e)
fits_at (Avs past15V) (Some (object.Pps l x m a)) e = absurd (false≢true e)
fits_at (Avs past15V) (Some (object.Avs p l h)) e = refl
fits_at (Prog volts top) (Some (object.Fixed f p v a)) e = absurd (false≢true e)
fits_at (Prog volts top) (Some (object.Battery x m p)) e = absurd (false≢true e)
fits_at (Prog volts top) (Some (object.Variable x m a)) e = absurd (false≢true e)
fits_at (Prog volts top) (Some (object.Pps l x m a)) e =
    omega (arith, eqb-true (x.0 * 100) (top * 100) ((and-eq-true_iff (eqb (x.0 * 100) (top * 100)) (eqb (m.0 * 100) 5000)).0 e).0)
fits_at (Prog volts top) (Some (object.Avs p l h)) e = absurd (false≢true e)
fits_at s None e = absurd (false≢true e)
