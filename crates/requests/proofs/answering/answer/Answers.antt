-- `requests::answering::answer` meets its contract: the verdict that the result tells is that of the table.
-- Assumes nothing.
use mathlib.Core.Path.{ap, ◌∙◌}
use Rattle.verdicts.specs.Refusals.{told}
use Rattle.verdicts.proofs.Results.{told_by}
use Rattle.requests.specs.Answering.{answer_refusals, answer_of}
use Rattle.requests.proofs.answering.answer.Goals as goal

pub returns : goal.returns
unfolding answer_of
returns c = c.from.ensures ∙ ap told c.answered.ensures ∙ told_by (answer_refusals c.args.list c.args.word)
