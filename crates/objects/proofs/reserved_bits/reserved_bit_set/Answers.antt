-- `objects::reserved_bit_set` meets its contract: each arm looks at the bit places of its kind.
-- Assumes nothing.
use Rattle.objects.specs.Reserved.{reserved_set}
use Rattle.objects.proofs.Taking.{taken}
use Rattle.objects.proofs.SetBits.{is_set}
use Rattle.objects.proofs.reserved_bits.reserved_bit_set.Goals as goal

pub returns-in-Fixed : goal.returns-in-Fixed
unfolding reserved_set
returns-in-Fixed c = rw c.in-Fixed.is c.fixed_bit_set.ensures

pub returns-in-Battery : goal.returns-in-Battery
unfolding reserved_set
returns-in-Battery c = rw c.in-Battery.is

pub returns-in-Variable : goal.returns-in-Variable
unfolding reserved_set
returns-in-Variable c = rw c.in-Variable.is

pub returns-in-Pps : goal.returns-in-Pps
unfolding reserved_set
returns-in-Pps c = rw c.in-Pps.is c.pps_bit_set.ensures

pub returns-in-Avs : goal.returns-in-Avs
unfolding reserved_set
returns-in-Avs c = rw c.in-Avs.is (is_set (taken _ 25 20))
