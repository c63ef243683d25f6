-- `requests::take_apart` meets its contract: the three parts side by side.
-- Assumes nothing.
use Rattle.requests.specs.Taking.{taken_apart}
use Rattle.requests.proofs.taking.take_apart.Goals as goal

pub returns : goal.returns
unfolding taken_apart
returns c = cc
