-- `sinks::sink_lists::decode_words` meets its contract: the invariant is that the places passed are filled.
-- Assumes nothing.
use mathlib.Core.Path.{◌≡◌}
use mathlib.Core.List.{List}
use Prim.Native.Nat.{ℕ}
use lib.ListN.{get_or}
use Rattle.lists.specs.Seven.{seven_to}
use Rattle.sinks.specs.declared.SinkPlace.{SinkPlace}
use Rattle.sinks.specs.SinkLists.{empty_sink, sink_place}
use Rattle.sinks.proofs.sink_lists.decode_words.Given as goal

abbrev pub place_at : List ℕ → ℕ → SinkPlace
place_at ws k = sink_place (get_or ws k 0)

abbrev pub invariant-loop-i : goal.invariant-loop-i
invariant-loop-i l = l.places ≡ seven_to (place_at l.fn.list.words) empty_sink l.i
