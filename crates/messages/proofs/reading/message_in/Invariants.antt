-- `messages::reading::message_in` meets its contract: the invariant is that the words so far are those of the bytes.
-- Assumes nothing.
use mathlib.Core.Path.{◌≡◌}
use mathlib.Core.List.{List}
use Prim.Native.Nat.{ℕ}
use Rattle.std.specs.Iterator.Adapters.{enumerate_source, enumerate_count}
use Rattle.std.specs.Slice.Iter.{chunks_exact_rest, chunks_exact_size}
use Rattle.messages.specs.declared.Header.{Header}
use Rattle.messages.specs.declared.Message.{Message}
use Rattle.messages.specs.Reading.{words_in}
use Rattle.messages.proofs.Chunks.{Left}
use Rattle.messages.proofs.reading.message_in.Given as goal

abbrev pub carrying : Header → List ℕ → Message
carrying h ws = record { header = h; words = ws }

abbrev pub invariant-loop-i : goal.invariant-loop-i
invariant-loop-i l =
    Left l.bytes (chunks_exact_rest (enumerate_source l.i-iterator)) (chunks_exact_size (enumerate_source l.i-iterator)) (enumerate_count l.i-iterator)
    × (l.message ≡ carrying l.initial.message.header (words_in l.bytes (enumerate_count l.i-iterator)))
