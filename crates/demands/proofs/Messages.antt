-- Proves the claims of specs/Messages.antt, by the laws of `messages`.
-- Assumes nothing.
use mathlib.Core.Path.{◌≡◌, ap, ap₂, sym, subst, ◌∙◌}
use mathlib.Core.List.{List, ◌++◌}
use Prim.Native.Nat.{ℕ, ◌≤◌}
use lib.ListN.{length, take, drop}
use lib.Seq.{ext_get_or}
use Rattle.verdicts.specs.Refusals.{success}
use Rattle.messages.specs.declared.Message.{Message}
use Rattle.messages.specs.declared.MessageReading.{MessageReading}
use Rattle.messages.specs.declared.Written.{Written}
use Rattle.messages.specs.Reading.{message_in, taken_of, message_read_of}
use Rattle.messages.specs.Writing.{bytes_of, written_of, buffer_after}
use Rattle.messages.specs.Kept.{Bytes8}
use Rattle.messages.specs.Promises.{WritesMessage}
use Rattle.messages.proofs.Accepted.{Writable, writable, writes, lays, front, taken_again, read_again, Takeable, takeable, readable, takes, reads, writable_again, laid_again, rest_stays, never_too_short, at_most_30}
use Rattle.messages.proofs.Unread.{written_unread, buffer_unread}
use Rattle.demands.specs.Messages.{WriteThenReadMessage, WriteThenTakeMessage, ReadThenWriteMessage, TakeThenWriteMessage, WriteKeepsTheRest, WriteFitsIn30, SameBytes, ReadLooksAtTheBytes, TakeLooksAtTheBytes, WriteMessageDoesNotLook}
use Rattle.demands.specs.Messages.{ArinWriteThenReadMessage, ArinWriteThenTakeMessage, ArinReadThenWriteMessage, ArinTakeThenWriteMessage, ArinWriteKeepsTheRest, ArinWriteFitsIn30, ArinReadLooksAtTheBytes, ArinTakeLooksAtTheBytes, ArinWriteMessageDoesNotLook}

-- ---- what was written

module _ (bs : List ℕ) (m : Message) (r : Written) (cs : List ℕ) (e : WritesMessage bs m r cs) (good : r.verdict ≡ success) where
  accepted : Writable (length bs) m
  accepted = writable (length bs) m (sym (ap (λ (x : Written). x.verdict) e.0) ∙ good)

  -- as many bytes as writing said are those of the message
  written_front : take r.length cs ≡ bytes_of m
  written_front =
      ap₂ (λ (n : ℕ) (l : List ℕ). take n l) (ap (λ (x : Written). x.length) (e.0 ∙ writes (length bs) m accepted)) e.1
      ∙ front bs m accepted

pub write_then_read_message : WriteThenReadMessage
write_then_read_message bs m fits r cs e good x y =
    y ∙ ap message_read_of (written_front bs m r cs e good) ∙ read_again (length bs) m (accepted bs m r cs e good) fits

pub write_then_take_message : WriteThenTakeMessage
write_then_take_message bs m fits r cs e good x y =
    y ∙ ap taken_of (written_front bs m r cs e good) ∙ taken_again (length bs) m (accepted bs m r cs e good) fits

-- ---- what was read

-- written from what was taken apart, where the list passes
module _ (bs : List ℕ) (small : Bytes8 bs) (t : Takeable bs) (ys : List ℕ) (w : Writable (length ys) (message_in bs)) where
  length_again : written_of (length ys) (message_in bs) ≡ record { verdict = success; length = length bs }
  length_again =
      writes (length ys) (message_in bs) w ∙ ap (λ (n : ℕ). record { verdict = success; length = n }) (sym t.right)

  bytes_again : buffer_after ys (message_in bs) ≡ bs ++ drop (length bs) ys
  bytes_again = lays ys (message_in bs) w ∙ laid_again bs t small ys

pub read_then_write_message : ReadThenWriteMessage
read_then_write_message bs small x e good ys room r zs d =
    let passed = readable bs (sym (ap (λ (y : MessageReading). y.verdict) e) ∙ good) in
    let t = passed.taken in
    let w = writable_again bs t ys room passed.list in
    let same = ap (λ (y : MessageReading). y.message) (e ∙ reads bs t passed.list) in (
      d.0 ∙ ap (written_of (length ys)) same ∙ length_again bs small t ys w,
      d.1 ∙ ap (buffer_after ys) same ∙ bytes_again bs small t ys w,
    )

pub take_then_write_message : TakeThenWriteMessage
take_then_write_message bs small x e good ys r zs d accepts =
    let t = takeable bs (sym (ap (λ (y : MessageReading). y.verdict) e) ∙ good) in
    let same = ap (λ (y : MessageReading). y.message) (e ∙ takes bs t) in
    let said = d.0 ∙ ap (written_of (length ys)) same in
    let w = writable (length ys) (message_in bs) (sym (ap (λ (y : Written). y.verdict) said) ∙ accepts) in (
      ap (λ (y : Written). y.length) (said ∙ length_again bs small t ys w),
      d.1 ∙ ap (buffer_after ys) same ∙ bytes_again bs small t ys w,
    )

-- ---- which bytes are touched, and which are looked at

pub write_keeps_the_rest : WriteKeepsTheRest
write_keeps_the_rest bs m r cs e =
    let rest = rest_stays bs m in
    let n = ap (λ (x : Written). x.length) e.0 in (
      ap length e.1 ∙ rest.0,
      ap₂ (λ (k : ℕ) (l : List ℕ). drop k l) n e.1 ∙ rest.1 ∙ ap (λ (k : ℕ). drop k bs) (sym n),
    )

pub write_fits_in_30 : WriteFitsIn30
write_fits_in_30 bs m r cs e = (
  subst (λ (x : Written). x.length ≤ 30) (sym e.0) (at_most_30 (length bs) m),
  λ h z. never_too_short (length bs) m h (sym (ap (λ (x : Written). x.verdict.number) e.0) ∙ z),
)

same_bytes : (bs cs : List ℕ) → SameBytes bs cs → bs ≡ cs
same_bytes bs cs s = ext_get_or 0 bs cs s.number s.each

pub read_looks_at_the_bytes : ReadLooksAtTheBytes
read_looks_at_the_bytes bs cs s r t e f = e ∙ ap message_read_of (same_bytes bs cs s) ∙ sym f

pub take_looks_at_the_bytes : TakeLooksAtTheBytes
take_looks_at_the_bytes bs cs s r t e f = e ∙ ap taken_of (same_bytes bs cs s) ∙ sym f

pub write_message_does_not_look : WriteMessageDoesNotLook
write_message_does_not_look bs m n a r s cs ds e f =
    (e.0 ∙ written_unread m n a (length bs) ∙ sym f.0, e.1 ∙ buffer_unread m n a bs ∙ sym f.1)

-- ---- board: the contracts are those of the floor below

pub arin_write_then_read_message : ArinWriteThenReadMessage
arin_write_then_read_message = write_then_read_message

pub arin_write_then_take_message : ArinWriteThenTakeMessage
arin_write_then_take_message = write_then_take_message

pub arin_read_then_write_message : ArinReadThenWriteMessage
arin_read_then_write_message = read_then_write_message

pub arin_take_then_write_message : ArinTakeThenWriteMessage
arin_take_then_write_message = take_then_write_message

pub arin_write_keeps_the_rest : ArinWriteKeepsTheRest
arin_write_keeps_the_rest = write_keeps_the_rest

pub arin_write_fits_in_30 : ArinWriteFitsIn30
arin_write_fits_in_30 = write_fits_in_30

pub arin_read_looks_at_the_bytes : ArinReadLooksAtTheBytes
arin_read_looks_at_the_bytes = read_looks_at_the_bytes

pub arin_take_looks_at_the_bytes : ArinTakeLooksAtTheBytes
arin_take_looks_at_the_bytes = take_looks_at_the_bytes

pub arin_write_message_does_not_look : ArinWriteMessageDoesNotLook
arin_write_message_does_not_look = write_message_does_not_look
