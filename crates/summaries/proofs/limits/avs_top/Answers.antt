-- `summaries::limits::avs_top` meets its contract: where the range ends.
-- Assumes nothing.
use mathlib.Core.Path.{sym}
use Rattle.requests.proofs.AvsLimits.{ends_at_15_V, ends_at_20_V}
use Rattle.summaries.proofs.limits.avs_top.Goals as goal

pub returns-then-high-eq0 : goal.returns-then-high-eq0
returns-then-high-eq0 c = sym (ends_at_15_V c.args.high c.if-high-eq0.true)

pub returns-else-high-eq0 : goal.returns-else-high-eq0
returns-else-high-eq0 c = sym (ends_at_20_V c.args.high c.if-high-eq0.false)
