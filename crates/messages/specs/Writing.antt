-- Writing a message into a buffer that is lent (STATEMENT, "Messages").
-- Assumes nothing.
use Rattle.std.specs.Prelude.{not, List, [], ◌∷◌, ◌++◌, ℕ, zero, suc, ltb, length, drop, get_or, Result, Ok, Err}
use Rattle.verdicts.specs.declared.Verdict.{Verdict}
use Rattle.verdicts.specs.Refusals.{Refusal, refusal, first_of, verdict, success}
use Rattle.objects.specs.Layout.{all_fit, joined}
use Rattle.messages.specs.declared.Message.{Message}
use Rattle.messages.specs.declared.Written.{Written}
use Rattle.messages.specs.LowFirst.{two_bytes, four_bytes}
use Rattle.messages.specs.Headers.{fields_of, length_of}
use Rattle.messages.specs.Refusing.{header_refusals, list_refusals}

-- the bytes of the first n words
abbrev pub word_bytes : List ℕ → ℕ → List ℕ
word_bytes ws zero = []
word_bytes ws (suc n) = word_bytes ws n ++ four_bytes (get_or ws n 0)

-- "Its bytes are the two of the header and then the four of each word"
abbrev pub bytes_of : Message → List ℕ
bytes_of m = two_bytes (joined (fields_of m.header)) ++ word_bytes m.words m.header.count

-- "51, 42, 41, 53, 52; then for type 1 as shape"; the room is the number of bytes lent
abbrev pub writing_refusals : ℕ → Message → List Refusal
writing_refusals room m =
    refusal (not (all_fit (fields_of m.header))) 51 0
    ∷ (header_refusals m.header ++ (refusal (ltb room (length_of m.header)) 52 0 ∷ list_refusals m))

abbrev pub writing_refused : ℕ → ℕ → Written
writing_refused n p = record { verdict = verdict n p; length = 0 }

-- the answer of a result: on a refusal the length is 0
abbrev pub writing_told : Result ℕ Verdict → Written
writing_told (Ok n) = record { verdict = success; length = n }
writing_told (Err v) = record { verdict = v; length = 0 }

-- "It answers the length."
unfoldable pub written_of : ℕ → Message → Written
written_of room m = first_of writing_refused (writing_refusals room m) (record { verdict = success; length = length_of m.header })

-- "The bytes of the buffer past that are as they were"
abbrev pub laid_over : List ℕ → Message → List ℕ
laid_over bs m = bytes_of m ++ drop (length_of m.header) bs

-- "on a refusal every byte is"
unfoldable pub buffer_after : List ℕ → Message → List ℕ
buffer_after bs m = first_of (λ n p. bs) (writing_refusals (length bs) m) (laid_over bs m)
