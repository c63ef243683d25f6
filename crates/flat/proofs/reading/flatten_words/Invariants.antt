-- `flat::reading::flatten_words` meets its contract: the invariant is that the places passed are filled.
-- Assumes nothing.
use mathlib.Core.Path.{◌≡◌}
use Rattle.lists.specs.Seven.{seven_to}
use Rattle.flat.specs.Reading.{empty_flat}
use Rattle.flat.proofs.Readings.{flat_word}
use Rattle.flat.proofs.reading.flatten_words.Given as goal

abbrev pub invariant-loop-i : goal.invariant-loop-i
invariant-loop-i l = l.places ≡ seven_to (flat_word l.fn.list.words) empty_flat l.i
