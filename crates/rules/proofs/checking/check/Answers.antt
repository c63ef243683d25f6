-- `rules::checking::check` meets its contract: it tells what was found.
-- Assumes nothing.
use mathlib.Core.Path.{ap, ◌∙◌}
use Rattle.verdicts.specs.Refusals.{told}
use Rattle.verdicts.proofs.Results.{told_by}
use Rattle.rules.specs.Checking.{check_refusals, checked_of}
use Rattle.rules.proofs.checking.check.Goals as goal

pub returns : goal.returns
unfolding checked_of
returns c = c.from.ensures ∙ ap told c.checked.ensures ∙ told_by (check_refusals c.args.p c.args.list)
