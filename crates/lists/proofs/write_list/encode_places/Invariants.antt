-- `lists::write_list::encode_places` meets its contract: the invariant is that no object passed is too wide, and the words so far are made.
-- Assumes nothing.
use mathlib.Core.Path.{◌≡◌}
use mathlib.Core.Bool.{false}
use Rattle.lists.specs.Shape.{bad_count}
use Rattle.lists.specs.Writing.{encoded_at}
use Rattle.lists.proofs.Writings.{MadeTo}
use Rattle.lists.proofs.write_list.encode_places.Given as goal

abbrev pub invariant-loop-i : goal.invariant-loop-i
invariant-loop-i l = (bad_count l.count ≡ false) × MadeTo (encoded_at l.fn.list.places) l.i l.words
