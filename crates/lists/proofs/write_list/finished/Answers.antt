-- `lists::finished` meets its contract: the shape of the words decides.
-- Assumes nothing.
use mathlib.Core.Path.{ap, sym, ◌∙◌}
use Rattle.verdicts.proofs.Results.{went_on}
use Rattle.lists.specs.Writing.{listing_told}
use Rattle.lists.proofs.Writings.{listed_told, finished_on}
use Rattle.lists.proofs.write_list.finished.Goals as goal

pub returns-in-Ok : goal.returns-in-Ok
returns-in-Ok c =
    let m = c.args.made in
    c.from.ensures ∙ ap listing_told c.listed.ensures ∙ listed_told c.args.side m.list
    ∙ sym (finished_on c.args.side m (went_on m.verdict (sym c.passed.ensures ∙ c.in-Ok.is)))
