-- `flat::flat_write_for` meets its contract: the words made are finished by their shape.
-- Assumes nothing.
use mathlib.Core.Path.{ap, ◌∙◌}
use Rattle.lists.specs.Writing.{listing_told, finished_of}
use Rattle.lists.proofs.Writings.{made_told, made_finished}
use Rattle.flat.proofs.writing.flat_write_for.Goals as goal

pub returns : goal.returns
returns c =
    c.finished.ensures ∙ ap (finished_of _) (c.from.ensures ∙ ap listing_told c.encode_places.ensures ∙ made_told _ _) ∙ made_finished _ _ _
