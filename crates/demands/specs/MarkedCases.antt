-- The cases of docs/STATEMENT.md, "Worked by hand", that are marked (P): one table, one claim. A row has what a definition gives, one of those
-- that the contracts cite, and what was worked out by hand; the claim is that they are the same in every row. `marked_cases` in
-- proofs/MarkedCases.antt proves `MarkedCases` by computation.
-- Assumes nothing.
use Rattle.std.specs.Prelude.{◌≡◌, List, [], ◌∷◌, ◌++◌, map, ℕ, ◌+◌, ◌*◌, ◌^◌, replicate}
use Rattle.verdicts.specs.declared.Verdict.{Verdict}
use Rattle.verdicts.specs.Refusals.{verdict, success}
use Rattle.lists.specs.declared.Words.{Words}
use Rattle.lists.specs.declared.Listing.{Listing}
use Rattle.rules.specs.Profiles.{half_watts, in_10_mA, default_of}
use Rattle.rules.specs.Building.{built_of}
use Rattle.printed.specs.Ascii.{ascii}
use Rattle.printed.specs.Printed.{printed_of}
use Rattle.requests.specs.Answering.{answer_of}
use Rattle.messages.specs.declared.Message.{Message}
use Rattle.messages.specs.declared.MessageReading.{MessageReading}
use Rattle.messages.specs.declared.Written.{Written}
use Rattle.messages.specs.Reading.{message_read_of}
use Rattle.messages.specs.Writing.{written_of, buffer_after}
use Rattle.ports.specs.declared.Row.{Row}
use Rattle.ports.specs.Lending.{set_up_answer, set_up_rows, attach_answer, attach_rows, advertise_answer, advertise_rows, request_answer, request_rows}

-- what the listing program prints; what a call answers: a list with its verdict, a verdict alone, a message, or a length; and what a
-- call leaves: rows, or a buffer
pub data Answer : Type 0 where
  printed : List ℕ → Answer
  listed : Listing → Answer
  judged : Verdict → Answer
  message : MessageReading → Answer
  wrote : Written → Answer
  left : List Row → Answer
  buffer : List ℕ → Answer

-- what the definition gives, and what was worked out by hand
pub data Case : Type 0 where
  case : Answer → Answer → Case

abbrev pub given : Case → Answer
given (case a b) = a

abbrev pub said : Case → Answer
said (case a b) = b

-- ---- short forms for the table

abbrev pub words : List ℕ → ℕ → Words
words ws n = record { words = ws; count = n }

abbrev pub success_with : List ℕ → ℕ → Answer
success_with ws n = listed (record { verdict = success; list = words ws n })

-- M, P, cable, rounding, PPS wanted; no flags
abbrev pub built : ℕ → ℕ → ℕ → ℕ → ℕ → Answer
built m p cable rounding pps =
    listed (built_of (record { max = half_watts m; present = half_watts p; cable = in_10_mA cable; rounding = rounding; pps = pps; flags = 0 }))

-- a case by M alone has the default profile
abbrev pub alone : ℕ → Answer
alone m = listed (built_of (default_of (half_watts m)).profile)

-- on the list L: a position, a voltage in 25 mV and a current in 50 mA
abbrev pub asked : ℕ → ℕ → ℕ → Answer
asked position volts current =
    judged (answer_of (words (0x0001912C ∷ 0x0002D12C ∷ 0x0004B12C ∷ 0x00064145 ∷ 0xE004B145 ∷ 0 ∷ 0 ∷ []) 5) (position * 2 ^ 28 + volts * 2 ^ 9 + current))

-- capacity 200, two rows of M 130: each port by its cable, its P and what it holds
abbrev pub port : ℕ → ℕ → ℕ → Row
port cable present held = record { max = half_watts 130; pps = 0; cable = in_10_mA cable; present = half_watts present; held = half_watts held }

abbrev pub two : Row → Row → List Row
two a b = a ∷ b ∷ []

-- a fixed object's position, operating and maximum current in 10 mA
abbrev pub fixed : ℕ → ℕ → ℕ
fixed position current = position * 2 ^ 28 + current * 2 ^ 10 + current

-- the list at P 130 and at P 70, with a cable of 500
abbrev pub at_130 : Answer
at_130 = success_with (0x0001912C ∷ 0x0002D12C ∷ 0x0004B12C ∷ 0x00064145 ∷ 0xE004B145 ∷ 0 ∷ 0 ∷ []) 5

abbrev pub at_70 : Answer
at_70 = success_with (0x0001912C ∷ 0x0002D12C ∷ 0x0004B0E9 ∷ 0x000640AF ∷ 0xE003A4AF ∷ 0 ∷ 0 ∷ []) 5

-- the messages, and their bytes
abbrev pub sent : Message
sent =
    record {
      header = record { extended = 0; count = 6; id = 0; power_role = 1; revision = 2; data_role = 1; message_type = 1 };
      words = 0x0001912C ∷ 0x0002D12C ∷ 0x0004B0F0 ∷ 0xE003C000 ∷ 0xC8DC323C ∷ 0xC9403230 ∷ 0 ∷ [];
    }

abbrev pub sent_bytes : List ℕ
sent_bytes =
    0xA1 ∷ 0x61 ∷ 0x2C ∷ 0x91 ∷ 0x01 ∷ 0x00 ∷ 0x2C ∷ 0xD1 ∷ 0x02 ∷ 0x00 ∷ 0xF0 ∷ 0xB0 ∷ 0x04 ∷ 0x00
    ∷ 0x00 ∷ 0xC0 ∷ 0x03 ∷ 0xE0 ∷ 0x3C ∷ 0x32 ∷ 0xDC ∷ 0xC8 ∷ 0x30 ∷ 0x32 ∷ 0x40 ∷ 0xC9 ∷ []

abbrev pub request : Message
request =
    record {
      header = record { extended = 0; count = 1; id = 1; power_role = 0; revision = 2; data_role = 0; message_type = 2 };
      words = 0x40051545 ∷ 0 ∷ 0 ∷ 0 ∷ 0 ∷ 0 ∷ 0 ∷ [];
    }

abbrev pub request_bytes : List ℕ
request_bytes = 0x82 ∷ 0x12 ∷ 0x45 ∷ 0x15 ∷ 0x05 ∷ 0x40 ∷ []

abbrev pub is_message : Message → Answer
is_message m = message (record { verdict = success; message = m })

abbrev pub is_length : ℕ → Answer
is_length n = wrote (record { verdict = success; length = n })

abbrev pub table : List Case
table =
    -- 36 W: the line that the listing program prints for a record of 8 bytes, and the list in it
    case
    (printed (printed_of (0x48 ∷ 0x00 ∷ 0x48 ∷ 0x00 ∷ 0x1E ∷ 0x00 ∷ 0x01 ∷ 0x00 ∷ [])))
    (printed (ascii "0 6 0001912C 0002D12C 0004B0F0 E003C000 C8DC323C C9403230\n"))
    ∷ case (built 72 72 300 0 1) (success_with (0x0001912C ∷ 0x0002D12C ∷ 0x0004B0F0 ∷ 0xE003C000 ∷ 0xC8DC323C ∷ 0xC9403230 ∷ 0 ∷ []) 6)
    -- M 160, P 80, cable 500, rounded up, no PPS: currents 300, 300, 267, 200 and the AVS word E0042CC8
    ∷ case (built 160 80 500 1 0) (success_with (0x0001912C ∷ 0x0002D12C ∷ 0x0004B10B ∷ 0x000640C8 ∷ 0xE0042CC8 ∷ 0 ∷ 0 ∷ []) 5)
    -- M 80 alone: currents 300, 300, 266; AVS 266 and 0
    ∷ case (alone 80) (success_with (0x0001912C ∷ 0x0002D12C ∷ 0x0004B10A ∷ 0xE0042800 ∷ 0 ∷ 0 ∷ 0 ∷ []) 4)
    -- M 160, P 130, cable 500, rounded down: currents 300, 300, 300, 325; AVS 300 and 325. This is the list L
    ∷ case (built 160 130 500 0 0) (success_with (0x0001912C ∷ 0x0002D12C ∷ 0x0004B12C ∷ 0x00064145 ∷ 0xE004B145 ∷ 0 ∷ 0 ∷ []) 5)
    -- M 30 has 5 V alone; M 31 has 9 V too, at 172
    ∷ case (alone 30) (success_with (0x0001912C ∷ 0 ∷ 0 ∷ 0 ∷ 0 ∷ 0 ∷ 0 ∷ []) 1)
    ∷ case (alone 31) (success_with (0x0001912C ∷ 0x0002D0AC ∷ 0 ∷ 0 ∷ 0 ∷ 0 ∷ 0 ∷ []) 2)
    -- M 54 has no 15 V; M 55 has it, at 183
    ∷ case (alone 54) (success_with (0x0001912C ∷ 0x0002D12C ∷ 0 ∷ 0 ∷ 0 ∷ 0 ∷ 0 ∷ []) 2)
    ∷ case (alone 55) (success_with (0x0001912C ∷ 0x0002D12C ∷ 0x0004B0B7 ∷ 0xE002DC00 ∷ 0 ∷ 0 ∷ 0 ∷ []) 4)
    -- on L, position 5, AVS: at 15.0 V 3.25 A is accepted and 3.30 A is not (24); nor is 3.25 A at 14.9 V (24)
    ∷ case (asked 5 600 65) (judged success)
    ∷ case (asked 5 600 66) (judged (verdict 24 0))
    ∷ case (asked 5 596 65) (judged (verdict 24 0))
    -- 15.0 V at 3.25 A with the reserved bits 27, 21, 8 and 7 set
    ∷ case (asked 5 600 (65 + 2 ^ 27 + 2 ^ 21 + 2 ^ 8 + 2 ^ 7)) (judged success)
    -- on L: the figure 602 is no whole 100 mV (23); 8.9 V is below the range (22); there is no position 6 (20)
    ∷ case (asked 5 602 65) (judged (verdict 23 0))
    ∷ case (asked 5 356 65) (judged (verdict 22 0))
    ∷ case (asked 6 600 65) (judged (verdict 20 0))
    -- capacity 200, two rows of M 130, cables of 500: set-up, whatever the rows held
    ∷ case (judged (set_up_answer 200 (two (port 1 2 3) (port 4 5 6)))) (judged success)
    ∷ case (left (set_up_rows 200 (two (port 1 2 3) (port 4 5 6)))) (left (two (port 0 0 15) (port 0 0 15)))
    -- port 1 attaches (P 130)
    ∷ case (listed (attach_answer 200 (two (port 0 0 15) (port 0 0 15)) 1 500)) at_130
    ∷ case (left (attach_rows 200 (two (port 0 0 15) (port 0 0 15)) 1 500)) (left (two (port 500 130 15) (port 0 0 15)))
    -- and takes 20 V at 3.25 A: it holds 130
    ∷ case (judged (request_answer 200 (two (port 500 130 15) (port 0 0 15)) 1 (fixed 4 325))) (judged success)
    ∷ case (left (request_rows 200 (two (port 500 130 15) (port 0 0 15)) 1 (fixed 4 325))) (left (two (port 500 130 130) (port 0 0 15)))
    -- port 2 attaches and is left P 70: currents 300, 300, 233, 175
    ∷ case (listed (attach_answer 200 (two (port 500 130 130) (port 0 0 15)) 2 500)) at_70
    ∷ case (left (attach_rows 200 (two (port 500 130 130) (port 0 0 15)) 2 500)) (left (two (port 500 130 130) (port 500 70 15)))
    -- now port 1 takes 9 V at 2 A, and holds 36
    ∷ case (judged (request_answer 200 (two (port 500 130 130) (port 500 70 15)) 1 (fixed 2 200))) (judged success)
    ∷ case (left (request_rows 200 (two (port 500 130 130) (port 500 70 15)) 1 (fixed 2 200))) (left (two (port 500 130 36) (port 500 70 15)))
    -- so port 2 is advertised P 130
    ∷ case (listed (advertise_answer 200 (two (port 500 130 36) (port 500 70 15)) 2)) at_130
    ∷ case (left (advertise_rows 200 (two (port 500 130 36) (port 500 70 15)) 2)) (left (two (port 500 130 36) (port 500 130 15)))
    -- and takes 20 V at 3.25 A
    ∷ case (judged (request_answer 200 (two (port 500 130 36) (port 500 130 15)) 2 (fixed 4 325))) (judged success)
    ∷ case (left (request_rows 200 (two (port 500 130 36) (port 500 130 15)) 2 (fixed 4 325))) (left (two (port 500 130 36) (port 500 130 130)))
    -- port 1 asks for 20 V at 3.25 A again: the power is gone (36)
    ∷ case (judged (request_answer 200 (two (port 500 130 36) (port 500 130 130)) 1 (fixed 4 325))) (judged (verdict 36 1))
    ∷ case (left (request_rows 200 (two (port 500 130 36) (port 500 130 130)) 1 (fixed 4 325))) (left (two (port 500 130 36) (port 500 130 130)))
    -- 9 V at 3 A it gets, and holds 54
    ∷ case (judged (request_answer 200 (two (port 500 130 36) (port 500 130 130)) 1 (fixed 2 300))) (judged success)
    ∷ case (left (request_rows 200 (two (port 500 130 36) (port 500 130 130)) 1 (fixed 2 300))) (left (two (port 500 130 54) (port 500 130 130)))
    -- a Source_Capabilities with the six words of 36 W, and a Request: read, and written into a buffer of 30 bytes
    ∷ case (message (message_read_of sent_bytes)) (is_message sent)
    ∷ case (wrote (written_of 30 sent)) (is_length 26)
    ∷ case (buffer (buffer_after (replicate 30 0xAA) sent)) (buffer (sent_bytes ++ replicate 4 0xAA))
    ∷ case (message (message_read_of request_bytes)) (is_message request)
    ∷ case (wrote (written_of 30 request)) (is_length 6)
    ∷ case (buffer (buffer_after (replicate 30 0xAA) request)) (buffer (request_bytes ++ replicate 24 0xAA))
    ∷ []

-- what the definitions give for the table is what the table says
abbrev pub MarkedCases : Type 0
MarkedCases = map given table ≡ map said table
