-- Demand 2, what is read and written: a word becomes an object and that object the same word again, and the other way round; and so do lists.
-- A list comes back as it was up to its count, and zero past it. Each claim is proved by the theorem of its name in small letters
-- (`decode_then_encode` is `DecodeThenEncode`) in proofs/RoundTrips.antt.
-- Assumes nothing.
use Rattle.std.specs.Prelude.{◌≡◌, Bool, false, ℕ, ◌^◌, ◌<◌, Option, Some}
use Rattle.verdicts.specs.Refusals.{success}
use Rattle.objects.specs.declared.Side.{Side}
use Rattle.objects.specs.declared.Object.{Object}
use Rattle.lists.specs.declared.Words.{Words}
use Rattle.lists.specs.declared.Objects.{Objects}
use Rattle.lists.specs.declared.Reading.{Reading}
use Rattle.lists.specs.declared.Listing.{Listing}
use Rattle.lists.specs.Kept.{kept_words, kept_objects, Words32}
use Rattle.demands.specs.CallContracts.{DecodeForAnswers, DecodeAnswers, ReservedAnswers, EncodeAnswers, ShapeAnswers, ReadAnswers, WriteAnswers}

-- ---- one word

-- a word of a kind that its side has, with no reserved bit set, decodes to an object, and that object encodes back to the word
abbrev pub DecodeThenEncode : Type 0
DecodeThenEncode =
    (side : Side) (w : ℕ) → w < 2 ^ 32 → (o : Object) → DecodeForAnswers side w (Some o)
    → (first : Bool) → ReservedAnswers side o first w false → (e : Option ℕ) → EncodeAnswers o e → e ≡ Some w

-- an object whose fields fit encodes to a word, and that word decodes back to the object
abbrev pub EncodeThenDecode : Type 0
EncodeThenDecode = (o : Object) (w : ℕ) → EncodeAnswers o (Some w) → (d : Option Object) → DecodeAnswers w d → d ≡ Some o

-- ---- a list

-- a list whose shape passes reads and writes back to the same words, zero past the count
abbrev pub ReadThenWrite : Type 0
ReadThenWrite =
    (l : Words) → Words32 l → ShapeAnswers l success
    → (r : Reading) → ReadAnswers l r → (w : Listing) → WriteAnswers r.list w
    → (r.verdict ≡ success) × (w ≡ record { verdict = success; list = kept_words l })

-- a list that is written reads back to the same objects, zero past the count
abbrev pub WriteThenRead : Type 0
WriteThenRead =
    (o : Objects) (w : Listing) → WriteAnswers o w → w.verdict ≡ success
    → (r : Reading) → ReadAnswers w.list r → r ≡ record { verdict = success; list = kept_objects o }
