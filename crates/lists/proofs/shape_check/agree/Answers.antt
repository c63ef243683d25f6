-- `lists::shape_check::agree` meets its contract: of a source the AVS word decides, of a sink nothing is asked.
-- Assumes nothing.
use mathlib.Core.Path.{ap, sym}
use Rattle.verdicts.specs.Refusals.{first_of, passed_by}
use Rattle.objects.specs.declared.Side.{Side}
use Rattle.lists.specs.Shape.{agreement_rows}
use Rattle.lists.specs.Scanning.{all_counting}
use Rattle.lists.proofs.shape_check.agree.Goals as goal

pub returns-in-Sink : goal.returns-in-Sink
unfolding first_of
returns-in-Sink c = sym (ap (λ (s : Side). passed_by (agreement_rows s (all_counting c.args.words.now))) c.in-Sink.is)
