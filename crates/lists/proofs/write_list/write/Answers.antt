-- `lists::write` meets its contract: the words made are finished by their shape.
-- Assumes nothing.
use mathlib.Core.Path.{ap, ◌∙◌}
use Rattle.objects.specs.declared.Side.TheVariants.{Source}
use Rattle.lists.specs.Writing.{listing_told, finished_of}
use Rattle.lists.proofs.Writings.{made_told, made_finished}
use Rattle.lists.proofs.write_list.write.Goals as goal

pub returns : goal.returns
returns c =
    c.finished.ensures
    ∙ ap (finished_of Source) (c.from.ensures ∙ ap listing_told c.encode_places.ensures ∙ made_told _ _)
    ∙ made_finished Source _ _
