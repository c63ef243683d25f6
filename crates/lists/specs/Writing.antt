-- Writing a list (STATEMENT, "Lists in hand": "It looks at the count first (10), then for the first object with a field that is wider
-- than its bits (7, the object's place), and then at the shape of the words that the objects make.").
-- Assumes nothing.
use Rattle.std.specs.Prelude.{Result, Ok, Err, cond, List, [], ◌∷◌, ◌++◌, ℕ, ◌+◌, get_or, replicate, eqb, Option}
use Rattle.verdicts.specs.declared.Verdict.{Verdict}
use Rattle.verdicts.specs.Refusals.{Refusal, refusal, each_place, first_of, verdict, success}
use Rattle.objects.specs.declared.Side.{Side}
use Rattle.objects.specs.declared.Side.TheVariants.{Source}
use Rattle.objects.specs.Encode.{encode_of, encoded_says, encoded_number}
use Rattle.lists.specs.declared.Words.{Words}
use Rattle.lists.specs.declared.Place.{Place}
use Rattle.lists.specs.declared.Objects.{Objects}
use Rattle.lists.specs.declared.Listing.{Listing}
use Rattle.lists.specs.Shape.{bad_count, refusals_for}
use Rattle.lists.specs.Seven.{seven_to}
use Rattle.lists.specs.Reading.{empty_place}

-- ---- by the side, and by what the object at place k + 1 is written as (`made k`), whatever form the objects have

-- 7, at "the first object with a field that is wider than its bits"
abbrev pub wide_rows : (ℕ → Option ℕ) → ℕ → List Refusal
wide_rows made k = refusal (eqb (encoded_number (made k)) 7) 7 (k + 1) ∷ []

-- the word made; a list with no field too wide has one for every object
abbrev pub word_in : Option ℕ → ℕ
word_in e = (encoded_says e).1

abbrev pub words_from : (ℕ → Option ℕ) → ℕ → Words
words_from made n = record { words = seven_to (λ (k : ℕ). word_in (made k)) 0 n; count = n }

abbrev pub no_words : Words
no_words = record { words = replicate 7 0; count = 0 }

-- "10; 7 at the first such object; then as shape from 11 on"
abbrev pub writing_refusals : Side → (ℕ → Option ℕ) → ℕ → List Refusal
writing_refusals side made n = refusal (bad_count n) 10 0 ∷ (each_place (wide_rows made) n ++ refusals_for side (words_from made n))

abbrev pub write_refused : ℕ → ℕ → Listing
write_refused n p = record { verdict = verdict n p; list = no_words }

-- the listing of a result: on a refusal it is empty
abbrev pub listing_told : Result Words Verdict → Listing
listing_told (Ok l) = record { verdict = success; list = l }
listing_told (Err v) = record { verdict = v; list = no_words }

unfoldable pub written_from : Side → (ℕ → Option ℕ) → ℕ → Listing
written_from side made n = first_of write_refused (writing_refusals side made n) (record { verdict = success; list = words_from made n })

-- words that are given, if they have their shape, and none if they do not
unfoldable pub listed_of : Side → Words → Listing
listed_of side l = first_of write_refused (refusals_for side l) (record { verdict = success; list = l })

-- words that were made, if nothing was refused before
abbrev pub finished_of : Side → Listing → Listing
finished_of side m = cond (eqb m.verdict.number 0) (listed_of side m.list) m

-- ---- of objects

abbrev pub encoded_at : List Place → ℕ → Option ℕ
encoded_at ps k = encode_of (get_or ps k empty_place).object

abbrev pub words_of : Objects → Words
words_of o = words_from (encoded_at o.places) o.count

abbrev pub write_refusals : Objects → List Refusal
write_refusals o = writing_refusals Source (encoded_at o.places) o.count

abbrev pub write_of : Objects → Listing
write_of o = written_from Source (encoded_at o.places) o.count
