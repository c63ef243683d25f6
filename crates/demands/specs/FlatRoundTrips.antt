-- Demand 2, what is read and written, as C has it: an object goes into its flat form and back, and a list from words to flat objects and back.
-- A list comes back as it was up to its count, and zero past it. Each claim is proved by the theorem of its name in small letters in
-- proofs/FlatRoundTrips.antt.
-- Assumes nothing.
use Rattle.std.specs.Prelude.{◌≡◌, ℕ, ◌≤◌, get_or, Option, Some}
use Rattle.objects.specs.declared.Side.{Side}
use Rattle.objects.specs.declared.Side.TheVariants.{Source}
use Rattle.verdicts.specs.Refusals.{success}
use Rattle.objects.specs.declared.Object.{Object}
use Rattle.lists.specs.declared.Words.{Words}
use Rattle.lists.specs.declared.Listing.{Listing}
use Rattle.lists.specs.Kept.{kept_words, Words32}
use Rattle.flat.specs.declared.FlatObject.{FlatObject}
use Rattle.flat.specs.declared.FlatObjects.{FlatObjects}
use Rattle.flat.specs.declared.FlatReading.{FlatReading}
use Rattle.flat.specs.Flat.{own_fields}
use Rattle.flat.specs.Reading.{empty_flat}
use Rattle.flat.specs.Kept.{kept_flat}
use Rattle.demands.specs.CallContracts.{ShapeForAnswers}
use Rattle.demands.specs.FlatContracts.{FlatReadForAnswers, FlatWriteForAnswers, FlattenAnswers, RaiseAnswers, ArinShapeAnswers, ArinReadAnswers, ArinWriteAnswers}

-- ---- one object

-- what was flattened is raised to the same object
abbrev pub FlattenThenRaise : Type 0
FlattenThenRaise = (o : Object) (x : FlatObject) → FlattenAnswers o x → (r : Option Object) → RaiseAnswers x r → r ≡ Some o

-- what was raised is flattened to the same flat object, where the fields that its kind does not have are zero
abbrev pub RaiseThenFlatten : Type 0
RaiseThenFlatten =
    (x : FlatObject) → own_fields x ≡ x → (o : Object) → RaiseAnswers x (Some o) → (y : FlatObject) → FlattenAnswers o y → y ≡ x

-- ---- a list

-- of either side: a list whose shape passes reads and writes back to the same words, zero past the count
abbrev pub FlatReadThenWrite : Type 0
FlatReadThenWrite =
    (side : Side) (l : Words) → Words32 l → ShapeForAnswers side l success
    → (r : FlatReading) → FlatReadForAnswers side l r → (w : Listing) → FlatWriteForAnswers side r.list w
    → (r.verdict ≡ success) × (w ≡ record { verdict = success; list = kept_words l })

abbrev pub ArinReadThenWrite : Type 0
ArinReadThenWrite =
    (l : Words) → Words32 l → ArinShapeAnswers l success
    → (r : FlatReading) → ArinReadAnswers l r → (w : Listing) → ArinWriteAnswers r.list w
    → (r.verdict ≡ success) × (w ≡ record { verdict = success; list = kept_words l })

-- of either side: a flat list that is written reads back to what the side keeps of its objects, zero past the count
abbrev pub FlatWriteThenRead : Type 0
FlatWriteThenRead =
    (side : Side) (f : FlatObjects) (w : Listing) → FlatWriteForAnswers side f w → w.verdict ≡ success
    → (r : FlatReading) → FlatReadForAnswers side w.list r → r ≡ record { verdict = success; list = kept_flat side f }

abbrev pub ArinWriteThenRead : Type 0
ArinWriteThenRead =
    (f : FlatObjects) (w : Listing) → ArinWriteAnswers f w → w.verdict ≡ success
    → (r : FlatReading) → ArinReadAnswers w.list r → r ≡ record { verdict = success; list = kept_flat Source f }

-- past the count a list that was read has fixed objects with all fields zero; objects are looked up from 0 on, so the first past the count
-- stands at the count
abbrev pub FlatReadPast : Type 0
FlatReadPast =
    (side : Side) (l : Words) (r : FlatReading) → FlatReadForAnswers side l r
    → (k : ℕ) → r.list.count ≤ k → get_or r.list.places k empty_flat ≡ empty_flat

abbrev pub ArinReadPast : Type 0
ArinReadPast =
    (l : Words) (r : FlatReading) → ArinReadAnswers l r → (k : ℕ) → r.list.count ≤ k → get_or r.list.places k empty_flat ≡ empty_flat
