-- An object of no kind in a list that C writes, that is one whose kind number is above 4, or above 3 in the list of a sink: all its fields fit,
-- so 7 is not for it. Where the fields of all others fit too, the answer is 11 if it stands first, and else 12 at its place once no word before it is refused.
-- `no_kind_fits`, `no_kind_first` and `no_kind_in_turn` in proofs/NoKindOrder.antt prove the three claims (docs/STATEMENT.md, "Refusal numbers").
-- Objects and words are looked up in a list from 0 on, and refusals count places from 1: what stands at k has the place k + 1.
-- Assumes nothing.
use Rattle.std.specs.Prelude.{◌≡◌, false, not, ℕ, ◌+◌, ◌<◌, eqb, get_or}
use Rattle.verdicts.specs.Refusals.{each_place, NoneApply}
use Rattle.objects.specs.declared.Side.{Side}
use Rattle.objects.specs.Encode.{encoded_number}
use Rattle.lists.specs.declared.Listing.{Listing}
use Rattle.lists.specs.Shape.{bad_count, is_fixed_5_V, word_rows}
use Rattle.lists.specs.Writing.{wide_rows, write_refused}
use Rattle.flat.specs.declared.FlatObject.{FlatObject}
use Rattle.flat.specs.declared.FlatObjects.{FlatObjects}
use Rattle.flat.specs.Flat.{last_kind}
use Rattle.flat.specs.Reading.{empty_flat}
use Rattle.flat.specs.Writing.{encoded_flat_at, flat_words}
use Rattle.demands.specs.FlatContracts.{FlatWriteForAnswers}

-- the object at place k + 1
abbrev pub object_at : FlatObjects → ℕ → FlatObject
object_at f k = get_or f.places k empty_flat

-- 7 does not apply to it
abbrev pub NoKindFits : Type 0
NoKindFits =
    (side : Side) (f : FlatObjects) (k : ℕ) → last_kind side < (object_at f k).kind → eqb (encoded_number (encoded_flat_at side f.places k)) 7 ≡ false

-- a count of 1 to 7, and all fields of all objects fit
pub record Fits (side : Side) (f : FlatObjects) : Type 0 where
  pub counted : bad_count f.count ≡ false
  pub narrow : NoneApply (each_place (wide_rows (encoded_flat_at side f.places)) f.count)

-- at the first place
abbrev pub NoKindFirst : Type 0
NoKindFirst =
    (side : Side) (f : FlatObjects) (r : Listing) → FlatWriteForAnswers side f r → Fits side f → last_kind side < (object_at f 0).kind → r ≡ write_refused 11 1

-- after a first word of fixed 5 V and words that nothing refuses
abbrev pub NoKindInTurn : Type 0
NoKindInTurn =
    (side : Side) (f : FlatObjects) (r : Listing) → FlatWriteForAnswers side f r → Fits side f
    → not (is_fixed_5_V (get_or (flat_words side f).words 0 0)) ≡ false → (k : ℕ) → k < f.count
    → NoneApply (each_place (word_rows side (flat_words side f).words) k) → last_kind side < (object_at f k).kind → r ≡ write_refused 12 (k + 1)
