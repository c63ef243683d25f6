-- `sinks::sink_lists::encode_places` meets its contract: the invariant is that no object passed is too wide, and the words so far are made.
-- Assumes nothing.
use mathlib.Core.Path.{◌≡◌}
use mathlib.Core.Bool.{false}
use Rattle.lists.specs.Shape.{bad_count}
use Rattle.lists.proofs.Writings.{MadeTo}
use Rattle.sinks.specs.SinkLists.{sink_encoded_at}
use Rattle.sinks.proofs.sink_lists.encode_places.Given as goal

abbrev pub invariant-loop-i : goal.invariant-loop-i
invariant-loop-i l = (bad_count l.count ≡ false) × MadeTo (sink_encoded_at l.fn.list.places) l.i l.words
