-- `rules::rows::avs_with` meets its contract: the word of the AVS object.
-- Assumes nothing.
use mathlib.Core.Path.{ap, ◌∙◌}
use Rattle.objects.specs.declared.Object.TheVariants as object
use Rattle.objects.proofs.Saying.{encoded_is}
use Rattle.lists.specs.Writing.{word_in}
use Rattle.rules.proofs.rows.avs_with.Goals as goal

pub returns : goal.returns
returns c =
    let x = c.args in
    c.word_in.ensures ∙ ap word_in (encoded_is (object.Avs 0 x.low x.high) c.avs_word-e.result c.avs_word-e.ensures)
