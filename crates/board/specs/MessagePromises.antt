-- What each call over messages promises of its answer, and of the bytes (STATEMENT, "Messages"): the definition of the floor below. The
-- contracts cite these names, and so do the theorems over them.
-- Assumes nothing.
use Rattle.std.specs.Prelude.{◌≡◌, List, ℕ, length}
use Rattle.messages.specs.declared.Message.{Message}
use Rattle.messages.specs.declared.MessageReading.{MessageReading}
use Rattle.messages.specs.declared.Written.{Written}
use Rattle.messages.specs.Reading.{taken_of, message_read_of}
use Rattle.messages.specs.Writing.{written_of, buffer_after}

abbrev pub ArinReadsMessage : List ℕ → MessageReading → Type 0
ArinReadsMessage bs r = r ≡ message_read_of bs

abbrev pub ArinTakesMessage : List ℕ → MessageReading → Type 0
ArinTakesMessage bs r = r ≡ taken_of bs

abbrev pub ArinWritesMessage : List ℕ → Message → Written → List ℕ → Type 0
ArinWritesMessage bs m r cs = (r ≡ written_of (length bs) m) × (cs ≡ buffer_after bs m)
