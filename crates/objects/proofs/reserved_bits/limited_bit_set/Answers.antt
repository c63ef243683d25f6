-- `objects::reserved_bits::limited_bit_set` meets its contract: each arm looks at the bit places of its side.
-- Assumes nothing.
use Rattle.objects.proofs.Taking.{taken}
use Rattle.objects.proofs.SetBits.{is_set}
use Rattle.objects.proofs.reserved_bits.limited_bit_set.Goals as goal

pub returns-in-Source : goal.returns-in-Source
returns-in-Source c = rw c.in-Source.is (is_set (taken _ 26 25))

pub returns-in-Sink : goal.returns-in-Sink
returns-in-Sink c = rw c.in-Sink.is (is_set (taken _ 27 25))
