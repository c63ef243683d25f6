-- The header of a message (STATEMENT, "Messages"): seven fields in 16 bits, and the length that its count makes.
-- Assumes nothing.
use Rattle.std.specs.Prelude.{List, [], ◌∷◌, ℕ, ◌+◌, ◌*◌}
use Rattle.objects.specs.Bits.{bits}
use Rattle.objects.specs.Layout.{Field, field}
use Rattle.messages.specs.declared.Header.{Header}

-- the fields of 16 bits
abbrev pub header_of : ℕ → Header
header_of h =
    record {
      extended = bits h 15 15;
      count = bits h 14 12;
      id = bits h 11 9;
      power_role = bits h 8 8;
      revision = bits h 7 6;
      data_role = bits h 5 5;
      message_type = bits h 4 0;
    }

-- the fields at their bits, the lowest first
abbrev pub fields_of : Header → List Field
fields_of h =
    field h.message_type 4 0
    ∷ field h.data_role 5 5
    ∷ field h.revision 7 6
    ∷ field h.power_role 8 8
    ∷ field h.id 11 9
    ∷ field h.count 14 12
    ∷ field h.extended 15 15
    ∷ []

-- "Its length in bytes is 2 plus 4 times its count"
abbrev pub length_of : Header → ℕ
length_of h = 2 + 4 * h.count
