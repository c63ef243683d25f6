-- `flat::reading::flat_word` meets its contract: a word of no kind counts as an empty place.
-- Assumes nothing.
use Rattle.std.specs.Prelude.{Option}
use Rattle.objects.specs.declared.Object.{Object}
use mathlib.Core.Path.{ap, sym, ◌∙◌}
use Rattle.objects.proofs.Saying.{decoded_is}
use Rattle.lists.specs.Reading.{object_of}
use Rattle.flat.specs.Flat.{flat_of}
use Rattle.flat.proofs.reading.flat_word.Goals as goal

pub returns-in-None : goal.returns-in-None
unfolding flat_of
returns-in-None c = sym (ap (λ (d : Option Object). flat_of (object_of d)) (sym (decoded_is _ _ c.decode.ensures) ∙ c.in-None.is))
