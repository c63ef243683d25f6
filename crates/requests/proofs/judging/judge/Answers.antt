-- `requests::judging::judge` meets its contract: the verdict that the result tells is that of the table.
-- Assumes nothing.
use mathlib.Core.Path.{ap, ◌∙◌}
use Rattle.verdicts.specs.Refusals.{told}
use Rattle.verdicts.proofs.Results.{told_by}
use Rattle.requests.specs.Judging.{refusals_of, judged_of}
use Rattle.requests.proofs.judging.judge.Goals as goal

pub returns : goal.returns
unfolding judged_of
returns c = c.from.ensures ∙ ap told c.judged.ensures ∙ told_by (refusals_of c.args.o c.args.word)
