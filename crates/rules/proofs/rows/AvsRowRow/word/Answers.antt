-- `rules::rows::AvsRowRow::word` meets its contract: the word of the AVS object.
-- Assumes nothing.
use mathlib.Core.Path.{◌∙◌}
use Rattle.rules.proofs.PutDown.{avs_is}
use Rattle.rules.proofs.rows.AvsRowRow.word.Goals as goal

pub returns : goal.returns
returns c = c.avs_with.ensures ∙ avs_is _ _ _ _ _ c.built_current-low.ensures c.second_current-high.ensures
