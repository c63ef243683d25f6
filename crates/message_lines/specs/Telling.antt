-- What is told of a message (docs/CONSOLE.md, Messages): the header's seven numbers, and as many words as it says.
-- Assumes nothing.
use Rattle.std.specs.Prelude.{List, [], ◌∷◌, ◌++◌, ℕ}
use Rattle.messages.specs.declared.Header.{Header}
use Rattle.messages.specs.declared.Message.{Message}
use Rattle.lines.specs.Numbers.{numbers_text}
use Rattle.lines.specs.Text.{places_text}

-- with a space before each number
abbrev pub header_text : Header → List ℕ
header_text h =
    numbers_text (h.extended ∷ h.count ∷ h.id ∷ h.power_role ∷ h.revision ∷ h.data_role ∷ h.message_type ∷ [])

abbrev pub message_text : Message → List ℕ
message_text m = header_text m.header ++ places_text m.words m.header.count 7
