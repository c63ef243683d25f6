-- `requests::judging::judged` meets its contract: the limits of the kind.
-- Assumes nothing.
use mathlib.Core.Path.{ap, sym}
use native.Mathlib.Omega.{arith}
use Rattle.verdicts.specs.Refusals.{passed_by}
use Rattle.objects.specs.declared.Object.{Object}
use Rattle.requests.specs.Judging.{refusals_of}
use Rattle.requests.proofs.Figures.{current_limits, battery_limits}
use Rattle.requests.proofs.judging.judged.Goals as goal

pub returns-in-Fixed : goal.returns-in-Fixed
returns-in-Fixed c =
    let law = current_limits c.args.o c.args.word c.in-Fixed.current c.in-Fixed.is in
    grind arith

pub returns-in-Battery : goal.returns-in-Battery
returns-in-Battery c =
    let w = c.args.word in
    let law = battery_limits w c.in-Battery.max c.in-Battery.min c.in-Battery.power in
    let is = ap (λ (o : Object). passed_by (refusals_of o w)) (sym c.in-Battery.is) in
    grind arith
