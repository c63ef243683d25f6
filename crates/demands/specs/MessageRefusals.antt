-- Demand 1, refusals, for the calls over messages (T-02): number n with its place is given exactly when refusal n applies there and none
-- before it does. On a refusal the message is all zero, or the length 0 and the buffer as it was. Each claim is proved by the theorem of its
-- name in small letters in proofs/MessageRefusals.antt; the order is in docs/STATEMENT.md, "Refusal numbers", and the tables are in specs/ of
-- `messages`.
-- Assumes nothing.
use Rattle.std.specs.Prelude.{◌≡◌, List, ℕ, length}
use Rattle.verdicts.specs.Refusals.{Refusal, success}
use Rattle.messages.specs.declared.Message.{Message}
use Rattle.messages.specs.declared.MessageReading.{MessageReading}
use Rattle.messages.specs.declared.Written.{Written}
use Rattle.messages.specs.Reading.{no_message, taking_refusals, reading_refusals}
use Rattle.messages.specs.Writing.{writing_refusals}
use Rattle.messages.specs.Promises.{TakesMessage, ReadsMessage, WritesMessage}
use Rattle.board.specs.MessagePromises.{ArinTakesMessage, ArinReadsMessage, ArinWritesMessage}
use Rattle.demands.specs.Refusals.{Answers}

-- what a call that reads answers, for its contract and its table
abbrev pub RefusesReading : (List ℕ → MessageReading → Type 0) → (List ℕ → List Refusal) → Type 0
RefusesReading allows table =
    (bs : List ℕ) (r : MessageReading) → allows bs r
    → Answers r.verdict (table bs) × ((r.verdict ≡ success → ⊥) → r.message ≡ no_message)

abbrev pub RefusesWriting : (List ℕ → Message → Written → List ℕ → Type 0) → Type 0
RefusesWriting allows =
    (bs : List ℕ) (m : Message) (r : Written) (cs : List ℕ) → allows bs m r cs
    → Answers r.verdict (writing_refusals (length bs) m) × ((r.verdict ≡ success → ⊥) → (r.length ≡ 0) × (cs ≡ bs))

-- ---- messages

abbrev pub TakeMessageRefusals : Type 0
TakeMessageRefusals = RefusesReading TakesMessage taking_refusals

abbrev pub ReadMessageRefusals : Type 0
ReadMessageRefusals = RefusesReading ReadsMessage reading_refusals

abbrev pub WriteMessageRefusals : Type 0
WriteMessageRefusals = RefusesWriting WritesMessage

-- ---- board

abbrev pub ArinTakeMessageRefusals : Type 0
ArinTakeMessageRefusals = RefusesReading ArinTakesMessage taking_refusals

abbrev pub ArinReadMessageRefusals : Type 0
ArinReadMessageRefusals = RefusesReading ArinReadsMessage reading_refusals

abbrev pub ArinWriteMessageRefusals : Type 0
ArinWriteMessageRefusals = RefusesWriting ArinWritesMessage
