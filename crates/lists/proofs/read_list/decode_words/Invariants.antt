-- `lists::read_list::decode_words` meets its contract: the invariant is that the places passed are filled.
-- Assumes nothing.
use mathlib.Core.Path.{◌≡◌}
use Rattle.lists.specs.Seven.{seven_to}
use Rattle.lists.specs.Reading.{empty_place, place_of}
use Rattle.lists.proofs.read_list.decode_words.Given as goal

abbrev pub invariant-loop-i : goal.invariant-loop-i
invariant-loop-i l = l.places ≡ seven_to (place_of l.fn.list.words) empty_place l.i
