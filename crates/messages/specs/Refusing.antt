-- What is refused of a message, whether it is read or written (STATEMENT, "Messages"; numbers and order from "Refusal numbers").
-- Assumes nothing.
use Rattle.std.specs.Prelude.{Bool, not, ◌&&◌, ◌||◌, cond, List, [], ◌∷◌, eqb}
use Rattle.verdicts.specs.Refusals.{Refusal, refusal}
use Rattle.lists.specs.declared.Words.{Words}
use Rattle.lists.specs.Shape.{shape_refusals}
use Rattle.messages.specs.declared.Header.{Header}
use Rattle.messages.specs.declared.Message.{Message}

-- "1 is Source_Capabilities, whose words are a list, and 2 is Request, whose one word is a request. The type field alone tells them"
abbrev pub is_source_capabilities : Header → Bool
is_source_capabilities h = eqb h.message_type 1

abbrev pub is_request : Header → Bool
is_request h = eqb h.message_type 2

-- "extended set (42), a type that is neither 1 nor 2 (41), a Request whose count is not 1 (53)"
abbrev pub header_refusals : Header → List Refusal
header_refusals h =
    refusal (not (eqb h.extended 0)) 42 0
    ∷ refusal (not (is_source_capabilities h || is_request h)) 41 0
    ∷ refusal (is_request h && not (eqb h.count 1)) 53 0
    ∷ []

-- "There is one count, the header's"
abbrev pub list_in : Message → Words
list_in m = record { words = m.words; count = m.header.count }

-- "a Source_Capabilities whose words are not a list with its shape, with the numbers and places of the shape check"
abbrev pub list_refusals : Message → List Refusal
list_refusals m = cond (is_source_capabilities m.header) (shape_refusals (list_in m)) []
