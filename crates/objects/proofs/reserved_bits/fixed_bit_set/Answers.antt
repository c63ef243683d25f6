-- `objects::reserved_bits::fixed_bit_set` meets its contract: each arm looks at the bit places of its side.
-- Assumes nothing.
use Rattle.objects.proofs.Taking.{taken}
use Rattle.objects.proofs.SetBits.{is_set}
use Rattle.objects.proofs.reserved_bits.fixed_bit_set.Goals as goal

pub returns-then-first : goal.returns-then-first
returns-then-first c = rw (c.in-Source.is, c.if-first.true) (is_set (taken _ 22 22))

pub returns-then-first-2 : goal.returns-then-first-2
returns-then-first-2 c = rw (c.in-Sink.is, c.if-first-2.true) (is_set (taken _ 22 20))

pub returns-else-first : goal.returns-else-first
returns-else-first c = rw (c.in-Source.is, c.if-first.false) (is_set (taken _ 29 22))

pub returns-else-first-2 : goal.returns-else-first-2
returns-else-first-2 c = rw (c.in-Sink.is, c.if-first-2.false) (is_set (taken _ 29 20))
