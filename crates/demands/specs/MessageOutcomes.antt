-- No second outcome, for the calls over messages (T-02): for every input the contract allows one answer only, and where bytes are written one
-- buffer after the call. `NoSecondMessageOutcome` has a line for each of them. Each line is proved by the theorem of its name,
-- `read_message_settles` for `read_message`, and all together by `no_second_message_outcome`, in proofs/MessageOutcomes.antt
-- (docs/STATEMENT.md, "What the contracts settle").
-- Assumes nothing.
use Rattle.std.specs.Prelude.{◌≡◌, List, ℕ}
use Rattle.messages.specs.declared.Message.{Message}
use Rattle.messages.specs.declared.Written.{Written}
use Rattle.messages.specs.Promises.{TakesMessage, ReadsMessage, WritesMessage}
use Rattle.board.specs.MessagePromises.{ArinTakesMessage, ArinReadsMessage, ArinWritesMessage}
use Rattle.demands.specs.OneOutcome.{Settled}

-- one answer, and one buffer
abbrev pub SettledWriting : (List ℕ → Message → Written → List ℕ → Type 0) → Type 0
SettledWriting allows =
    (bs : List ℕ) (m : Message) (r s : Written) (cs ds : List ℕ) → allows bs m r cs → allows bs m s ds → (r ≡ s) × (cs ≡ ds)

pub record NoSecondMessageOutcome : Type 0 where
  -- messages
  pub take_message : Settled TakesMessage
  pub read_message : Settled ReadsMessage
  pub write_message : SettledWriting WritesMessage
  -- board
  pub arin_take_message : Settled ArinTakesMessage
  pub arin_read_message : Settled ArinReadsMessage
  pub arin_write_message : SettledWriting ArinWritesMessage
