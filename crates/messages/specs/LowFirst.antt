-- Numbers as bytes (STATEMENT, "Messages": "of every number the low byte first"): the 16 bits of a header and the 32 of a word.
-- Assumes nothing.
use Rattle.std.specs.Prelude.{List, [], ◌∷◌, ℕ, ◌+◌, get_or}
use Rattle.objects.specs.Bits.{bits}
use Rattle.objects.specs.Layout.{Field, field, joined}

-- ---- the bytes of a number

abbrev pub two_bytes : ℕ → List ℕ
two_bytes h = bits h 7 0 ∷ bits h 15 8 ∷ []

abbrev pub four_bytes : ℕ → List ℕ
four_bytes w = bits w 7 0 ∷ bits w 15 8 ∷ bits w 23 16 ∷ bits w 31 24 ∷ []

-- ---- the number that bytes make: each byte is a field of eight bits

abbrev pub two_fields : ℕ → ℕ → List Field
two_fields a b = field a 7 0 ∷ field b 15 8 ∷ []

abbrev pub four_fields : ℕ → ℕ → ℕ → ℕ → List Field
four_fields a b c d = field a 7 0 ∷ field b 15 8 ∷ field c 23 16 ∷ field d 31 24 ∷ []

-- from the byte at this place on; a place counts from 0 here
abbrev pub half_at : List ℕ → ℕ → ℕ
half_at bs at = joined (two_fields (get_or bs at 0) (get_or bs (at + 1) 0))

abbrev pub word_at : List ℕ → ℕ → ℕ
word_at bs at = joined (four_fields (get_or bs at 0) (get_or bs (at + 1) 0) (get_or bs (at + 2) 0) (get_or bs (at + 3) 0))
