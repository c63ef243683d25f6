-- A message as it is given back (STATEMENT, "Messages"): "the words past" the count "are zero", and what the type in the source says of
-- bytes; no contract cites these. That words have 32 bits is `Words32` (lists, Kept).
-- Assumes nothing.
use Rattle.std.specs.Prelude.{◌≡◌, List, ℕ, ◌^◌, ◌<◌, get_or}
use Rattle.lists.specs.Seven.{seven_to}
use Rattle.messages.specs.declared.Message.{Message}

abbrev pub kept_message : Message → Message
kept_message m =
    record { header = m.header; words = seven_to (λ (k : ℕ). get_or m.words k 0) 0 m.header.count }

-- each byte has 8 bits
pub record Bytes8 (bs : List ℕ) : Type 0 where
  pub fits : (k : ℕ) → get_or bs k 0 < 2 ^ 8

-- the same header, and the same words up to its count
pub record AgreeMessages (m n : Message) : Type 0 where
  pub header : m.header ≡ n.header
  pub words : (k : ℕ) → k < m.header.count → get_or m.words k 0 ≡ get_or n.words k 0
