-- `flat::writing::encode_places` meets its contract: the invariant is that no object passed is too wide, and the words so far are made.
-- Assumes nothing.
use mathlib.Core.Path.{◌≡◌}
use mathlib.Core.Bool.{false}
use Rattle.lists.specs.Shape.{bad_count}
use Rattle.lists.proofs.Writings.{MadeTo}
use Rattle.flat.specs.Writing.{encoded_flat_at}
use Rattle.flat.proofs.writing.encode_places.Given as goal

abbrev pub invariant-loop-i : goal.invariant-loop-i
invariant-loop-i l = (bad_count l.count ≡ false) × MadeTo (encoded_flat_at l.side l.fn.list.places) l.i l.words
