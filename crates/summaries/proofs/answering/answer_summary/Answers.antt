-- `summaries::answer_summary` meets its contract: the verdict that the result tells is that of the table.
-- Assumes nothing.
use mathlib.Core.Path.{ap, ◌∙◌}
use Rattle.verdicts.specs.Refusals.{told}
use Rattle.verdicts.proofs.Results.{told_by}
use Rattle.summaries.specs.Answering.{summary_refusals, answered_by}
use Rattle.summaries.proofs.answering.answer_summary.Goals as goal

pub returns : goal.returns
unfolding answered_by
returns c = c.from.ensures ∙ ap told c.answered.ensures ∙ told_by (summary_refusals c.args.summary c.args.asked)
