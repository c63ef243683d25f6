-- Reading a message and taking it apart (STATEMENT, "Messages").
-- Assumes nothing.
use Rattle.std.specs.Prelude.{not, ◌||◌, List, ◌∷◌, ◌++◌, ℕ, ◌+◌, ◌*◌, eqb, ltb, length, replicate, Result, Ok, Err}
use Rattle.verdicts.specs.declared.Verdict.{Verdict}
use Rattle.verdicts.specs.Refusals.{Refusal, refusal, first_of, verdict, success}
use Rattle.lists.specs.Seven.{seven_to}
use Rattle.messages.specs.declared.Header.{Header}
use Rattle.messages.specs.declared.Message.{Message}
use Rattle.messages.specs.declared.MessageReading.{MessageReading}
use Rattle.messages.specs.LowFirst.{half_at, word_at}
use Rattle.messages.specs.Headers.{header_of, length_of}
use Rattle.messages.specs.Refusing.{header_refusals, list_refusals}

-- "the two of the header and then the four of each word"
abbrev pub header_in : List ℕ → Header
header_in bs = header_of (half_at bs 0)

-- the words up to a count, and zero past it
abbrev pub words_in : List ℕ → ℕ → List ℕ
words_in bs n = seven_to (λ (k : ℕ). word_at bs (2 + 4 * k)) 0 n

abbrev pub message_in : List ℕ → Message
message_in bs = record { header = header_in bs; words = words_in bs (header_in bs).count }

-- 40: "fewer than two bytes, or a number of bytes that is not the length that the header's count makes"; then 42, 41, 53
abbrev pub taking_refusals : List ℕ → List Refusal
taking_refusals bs =
    refusal (ltb (length bs) 2 || not (eqb (length bs) (length_of (header_in bs)))) 40 0 ∷ header_refusals (header_in bs)

-- "40, 42, 41, 53; then for type 1 as shape"
abbrev pub reading_refusals : List ℕ → List Refusal
reading_refusals bs = taking_refusals bs ++ list_refusals (message_in bs)

-- "a message is all zeros"
abbrev pub no_message : Message
no_message =
    record {
      header = record { extended = 0; count = 0; id = 0; power_role = 0; revision = 0; data_role = 0; message_type = 0 };
      words = replicate 7 0;
    }

abbrev pub reading_refused : ℕ → ℕ → MessageReading
reading_refused n p = record { verdict = verdict n p; message = no_message }

-- the reading of a result: on a refusal the message is all zeros
abbrev pub reading_told : Result Message Verdict → MessageReading
reading_told (Ok m) = record { verdict = success; message = m }
reading_told (Err v) = record { verdict = v; message = no_message }

abbrev pub read_as : List ℕ → MessageReading
read_as bs = record { verdict = success; message = message_in bs }

unfoldable pub taken_of : List ℕ → MessageReading
taken_of bs = first_of reading_refused (taking_refusals bs) (read_as bs)

unfoldable pub message_read_of : List ℕ → MessageReading
message_read_of bs = first_of reading_refused (reading_refusals bs) (read_as bs)
