-- What each public call of this crate promises of its answer r (STATEMENT, "Messages"), of the bytes bs that are lent, and, where they
-- are written, of the bytes cs that it leaves. The contracts cite these names, and so do the theorems over them.
-- Assumes nothing.
use Rattle.std.specs.Prelude.{◌≡◌, List, ℕ, length}
use Rattle.messages.specs.declared.Message.{Message}
use Rattle.messages.specs.declared.MessageReading.{MessageReading}
use Rattle.messages.specs.declared.Written.{Written}
use Rattle.messages.specs.Reading.{taken_of, message_read_of}
use Rattle.messages.specs.Writing.{written_of, buffer_after}

-- the bytes are lent for reading alone
abbrev pub TakesMessage : List ℕ → MessageReading → Type 0
TakesMessage bs r = r ≡ taken_of bs

abbrev pub ReadsMessage : List ℕ → MessageReading → Type 0
ReadsMessage bs r = r ≡ message_read_of bs

abbrev pub WritesMessage : List ℕ → Message → Written → List ℕ → Type 0
WritesMessage bs m r cs = (r ≡ written_of (length bs) m) × (cs ≡ buffer_after bs m)
