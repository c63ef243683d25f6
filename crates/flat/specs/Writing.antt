-- Writing a list of flat objects (STATEMENT, "Lists in hand"), in the order of every list: "10; 7 at the first such object; then as shape
-- from 11 on".
-- Assumes nothing.
use Rattle.objects.specs.declared.Object.{Object}
use Rattle.std.specs.Prelude.{List, ℕ, get_or, Option, Some, None, Result}
use Rattle.verdicts.specs.declared.Verdict.{Verdict}
use Rattle.verdicts.specs.Refusals.{Refusal}
use Rattle.objects.specs.declared.Side.{Side}
use Rattle.objects.specs.declared.Side.TheVariants.{Source}
use Rattle.objects.specs.Encode.{encode_of}
use Rattle.lists.specs.declared.Words.{Words}
use Rattle.lists.specs.declared.Listing.{Listing}
use Rattle.lists.specs.Writing.{words_from, writing_refusals, written_from}
use Rattle.lists.specs.Making.{words_made}
use Rattle.flat.specs.declared.FlatObject.{FlatObject}
use Rattle.flat.specs.declared.FlatObjects.{FlatObjects}
use Rattle.flat.specs.Flat.{raised_for}
use Rattle.flat.specs.Reading.{empty_flat}

-- what the flat object at place k + 1 is raised to
abbrev pub raised_at : Side → List FlatObject → ℕ → Option Object
raised_at side fs k = raised_for side (get_or fs k empty_flat)

-- "An object with another kind number has no field that could be too wide; for the shape it stands as a word of kind 1111b, so it gets 11
-- where it is the first object and 12 in its turn elsewhere."
abbrev pub encoded_raised : Option Object → Option ℕ
encoded_raised (Some o) = encode_of o
encoded_raised None = Some 0xF0000000

abbrev pub encoded_flat_at : Side → List FlatObject → ℕ → Option ℕ
encoded_flat_at side fs k = encoded_raised (raised_at side fs k)

-- "Only the places up to the count are looked at."
abbrev pub flat_words : Side → FlatObjects → Words
flat_words side f = words_from (encoded_flat_at side f.places) f.count

abbrev pub flat_write_refusals : Side → FlatObjects → List Refusal
flat_write_refusals side f = writing_refusals side (encoded_flat_at side f.places) f.count

abbrev pub flat_write_for : Side → FlatObjects → Listing
flat_write_for side f = written_from side (encoded_flat_at side f.places) f.count

abbrev pub flat_write_of : FlatObjects → Listing
flat_write_of f = flat_write_for Source f

-- the words made, before their shape is looked at
abbrev pub flat_made_for : Side → FlatObjects → Result Words Verdict
flat_made_for side f = words_made (encoded_flat_at side f.places) f.count
