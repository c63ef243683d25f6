-- `messages::reading::message_in` meets its contract: the invariant is that the words so far are those of the bytes.
-- Assumes nothing.
use mathlib.Core.Path.{◌≡◌, ap, ap₂, sym, ◌∙◌}
use Prim.Native.Nat.{ℕ, ◌+◌, ◌*◌, ◌<◌}
use native.Mathlib.Omega.{arith}
use lib.ListN.{set}
use Rattle.std.specs.Iterator.Adapters.{enumerate_source, enumerate_count}
use Rattle.std.specs.Slice.Iter.{chunks_exact_rest, chunks_exact_size}
use Rattle.lists.proofs.Sevens.{none_filled, one_filled}
use Rattle.messages.specs.declared.Message.{Message}
use Rattle.messages.specs.LowFirst.{word_at}
use Rattle.messages.specs.Reading.{words_in}
use Rattle.messages.proofs.Chunks.{all_left, none_left, one_fits, one_less, one_word}
use Rattle.messages.proofs.reading.message_in.Invariants.{carrying}
use Rattle.messages.proofs.reading.message_in.Goals as goal

pub loop-i-init : goal.loop-i-init
loop-i-init c =
    let bs = c.args.bytes.now in
    let h = c.args.header in
    let is = c.into_iter-i-iterator.ensures.into_iter_gives in
    let source = ap enumerate_source is ∙ c.enumerate-i-items.ensures.source in
    let zero = ap enumerate_count is ∙ c.enumerate-i-items.ensures.count in (
      all_left bs _ _ _ (omega arith) (ap chunks_exact_size source ∙ c.chunks_exact.ensures.size) (ap chunks_exact_rest source ∙ c.chunks_exact.ensures.rest) zero,
      ap (carrying h) (none_filled _ _) ∙ ap (λ (k : ℕ). carrying h (words_in bs k)) (sym zero),
    )

pub loop-i-preserved : goal.loop-i-preserved
loop-i-preserved c =
    let bs = c.args.bytes.now in
    let h = c.args.header in
    let turn = c.loop-i in
    let k = enumerate_count turn.i-iterator in
    let left = turn.invariant.0 in
    let step = rw c.in-Some.is at c.next.ensures.steps in
    let chunk = step.0.1.0 in
    let long = step.0.1.1 in
    let at : c.in-Some.i ≡ k = step.1 in
    let next : enumerate_count c.next.new.self ≡ k + 1 = step.2 in
    let below : k < 7 = omega (arith, one_fits bs left c.in-Some.four.now _ chunk long) in (
      one_less bs left c.in-Some.four.now _ chunk long _ _ step.0.0 next,
      ap₂ (λ (m : Message) (i : ℕ). carrying m.header (set m.words i c.word_of.result)) turn.invariant.1 at
          ∙ ap (λ (w : ℕ). carrying h (set (words_in bs k) k w)) (c.word_of.ensures ∙ one_word bs left c.in-Some.four.now _ chunk long)
          ∙ ap (carrying h) (one_filled (λ (j : ℕ). word_at bs (2 + 4 * j)) 0 k below)
          ∙ ap (λ (n : ℕ). carrying h (words_in bs n)) (sym next),
    )

pub returns : goal.returns
returns c =
    let step = rw c.in-None.is at c.next.ensures.steps in
    c.loop-i.invariant.1
    ∙ ap (λ (k : ℕ). carrying c.args.header (words_in c.args.bytes.now k))
    (none_left c.args.bytes.now c.loop-i.invariant.0 c.args.header.count c.requires.1 step.0.1.0)
