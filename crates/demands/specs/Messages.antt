-- Whole messages (T-02; docs/STATEMENT.md, "Messages"): what is read and written comes back, which bytes are touched, and which are looked at.
-- Each claim is proved by the theorem of its name in small letters (`write_then_read_message` is `WriteThenReadMessage`) in
-- proofs/Messages.antt. The calls go by the names that are their clauses: bs is what is lent, r the answer, and cs the buffer after a call that
-- writes. What the calls refuse is in MessageRefusals, and that they have one outcome in MessageOutcomes.
-- Assumes nothing.
use Rattle.std.specs.Prelude.{◌≡◌, List, ◌++◌, ℕ, ◌≤◌, ◌<◌, length, take, drop, get_or}
use Rattle.verdicts.specs.Refusals.{success}
use Rattle.lists.specs.Kept.{Words32}
use Rattle.messages.specs.declared.Message.{Message}
use Rattle.messages.specs.declared.MessageReading.{MessageReading}
use Rattle.messages.specs.declared.Written.{Written}
use Rattle.messages.specs.Refusing.{list_in}
use Rattle.messages.specs.Kept.{kept_message, Bytes8, AgreeMessages}
use Rattle.messages.specs.Promises.{TakesMessage, ReadsMessage, WritesMessage}
use Rattle.board.specs.MessagePromises.{ArinTakesMessage, ArinReadsMessage, ArinWritesMessage}

-- what a call that reads, or takes apart, and a call that writes allow
abbrev pub Reader : Type 1
Reader = List ℕ → MessageReading → Type 0

abbrev pub Writer : Type 1
Writer = List ℕ → Message → Written → List ℕ → Type 0

-- ---- "Reading what was written gives the same header and the same words up to the count."

-- a message that was written is read from as many bytes as writing said; its words past the count come back as zero
abbrev pub WriteThenRead : Writer → Reader → Type 0
WriteThenRead writes reads =
    (bs : List ℕ) (m : Message) → Words32 (list_in m) → (r : Written) (cs : List ℕ) → writes bs m r cs → r.verdict ≡ success
    → (x : MessageReading) → reads (take r.length cs) x → x ≡ record { verdict = success; message = kept_message m }

abbrev pub WriteThenReadMessage : Type 0
WriteThenReadMessage = WriteThenRead WritesMessage ReadsMessage

abbrev pub WriteThenTakeMessage : Type 0
WriteThenTakeMessage = WriteThenRead WritesMessage TakesMessage

abbrev pub ArinWriteThenReadMessage : Type 0
ArinWriteThenReadMessage = WriteThenRead ArinWritesMessage ArinReadsMessage

abbrev pub ArinWriteThenTakeMessage : Type 0
ArinWriteThenTakeMessage = WriteThenRead ArinWritesMessage ArinTakesMessage

-- ---- "Writing what was read gives the same bytes, whatever stood in the buffer, where there is room for them."

-- the other bytes of the buffer stay
abbrev pub ReadThenWrite : Reader → Writer → Type 0
ReadThenWrite reads writes =
    (bs : List ℕ) → Bytes8 bs → (x : MessageReading) → reads bs x → x.verdict ≡ success
    → (ys : List ℕ) → length bs ≤ length ys → (r : Written) (zs : List ℕ) → writes ys x.message r zs
    → (r ≡ record { verdict = success; length = length bs }) × (zs ≡ bs ++ drop (length bs) ys)

abbrev pub ReadThenWriteMessage : Type 0
ReadThenWriteMessage = ReadThenWrite ReadsMessage WritesMessage

abbrev pub ArinReadThenWriteMessage : Type 0
ArinReadThenWriteMessage = ReadThenWrite ArinReadsMessage ArinWritesMessage

-- "a list whose shape fails can be taken apart and not written": where it is written, the bytes are the same
abbrev pub TakeThenWrite : Reader → Writer → Type 0
TakeThenWrite takes writes =
    (bs : List ℕ) → Bytes8 bs → (x : MessageReading) → takes bs x → x.verdict ≡ success
    → (ys : List ℕ) (r : Written) (zs : List ℕ) → writes ys x.message r zs → r.verdict ≡ success
    → (r.length ≡ length bs) × (zs ≡ bs ++ drop (length bs) ys)

abbrev pub TakeThenWriteMessage : Type 0
TakeThenWriteMessage = TakeThenWrite TakesMessage WritesMessage

abbrev pub ArinTakeThenWriteMessage : Type 0
ArinTakeThenWriteMessage = TakeThenWrite ArinTakesMessage ArinWritesMessage

-- ---- "The bytes of the buffer past that are as they were; on a refusal every byte is, and the length is 0."

-- the length that is answered says which bytes may differ, and a refusal answers 0
abbrev pub KeepsTheRest : Writer → Type 0
KeepsTheRest writes =
    (bs : List ℕ) (m : Message) (r : Written) (cs : List ℕ) → writes bs m r cs
    → (length cs ≡ length bs) × (drop r.length cs ≡ drop r.length bs)

abbrev pub WriteKeepsTheRest : Type 0
WriteKeepsTheRest = KeepsTheRest WritesMessage

abbrev pub ArinWriteKeepsTheRest : Type 0
ArinWriteKeepsTheRest = KeepsTheRest ArinWritesMessage

-- ---- "Its length in bytes is 2 plus 4 times its count: 2 to 30."

-- no message is longer than 30 bytes, and a buffer of 30 is never too short
abbrev pub FitsIn30 : Writer → Type 0
FitsIn30 writes =
    (bs : List ℕ) (m : Message) (r : Written) (cs : List ℕ) → writes bs m r cs
    → (r.length ≤ 30) × (30 ≤ length bs → r.verdict.number ≡ 52 → ⊥)

abbrev pub WriteFitsIn30 : Type 0
WriteFitsIn30 = FitsIn30 WritesMessage

abbrev pub ArinWriteFitsIn30 : Type 0
ArinWriteFitsIn30 = FitsIn30 ArinWritesMessage

-- ---- "The answer of reading and of taking apart depends on nothing but the bytes that are lent"

-- a contract speaks of the lent bytes and of nothing else; said byte by byte, this is what `Settled` says (OneOutcome). As many bytes, and the
-- same one at each place:
pub record SameBytes (bs cs : List ℕ) : Type 0 where
  pub number : length bs ≡ length cs
  pub each : (k : ℕ) → k < length bs → get_or bs k 0 ≡ get_or cs k 0

abbrev pub LooksAtTheBytes : Reader → Type 0
LooksAtTheBytes reads = (bs cs : List ℕ) → SameBytes bs cs → (r s : MessageReading) → reads bs r → reads cs s → r ≡ s

abbrev pub ReadLooksAtTheBytes : Type 0
ReadLooksAtTheBytes = LooksAtTheBytes ReadsMessage

abbrev pub TakeLooksAtTheBytes : Type 0
TakeLooksAtTheBytes = LooksAtTheBytes TakesMessage

abbrev pub ArinReadLooksAtTheBytes : Type 0
ArinReadLooksAtTheBytes = LooksAtTheBytes ArinReadsMessage

abbrev pub ArinTakeLooksAtTheBytes : Type 0
ArinTakeLooksAtTheBytes = LooksAtTheBytes ArinTakesMessage

-- ---- "the words past it are not looked at"

-- messages with the same header and the same words up to its count are written alike
abbrev pub DoesNotLookPast : Writer → Type 0
DoesNotLookPast writes =
    (bs : List ℕ) (m n : Message) → AgreeMessages m n
    → (r s : Written) (cs ds : List ℕ) → writes bs m r cs → writes bs n s ds → (r ≡ s) × (cs ≡ ds)

abbrev pub WriteMessageDoesNotLook : Type 0
WriteMessageDoesNotLook = DoesNotLookPast WritesMessage

abbrev pub ArinWriteMessageDoesNotLook : Type 0
ArinWriteMessageDoesNotLook = DoesNotLookPast ArinWritesMessage
