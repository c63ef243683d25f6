-- The words of sink objects, one after the other: the object in hand is that of its place, and what is made is finished by its shape.
-- Assumes nothing.
use Rattle.std.specs.Prelude.{Option}
use mathlib.Core.Path.{◌≡◌, ap, ◌∙◌}
use mathlib.Core.List.{List}
use Prim.Native.Nat.{ℕ, ◌<◌}
use lib.ListN.{get_or, length, take}
use Rattle.objects.specs.declared.Side.TheVariants.{Sink}
use Rattle.lists.specs.Writing.{listing_told, finished_of}
use Rattle.lists.proofs.Counted.{counted_at}
use Rattle.lists.proofs.Writings.{made_told, made_finished}
use Rattle.sinks.specs.declared.SinkPlace.{SinkPlace}
use Rattle.sinks.specs.declared.SinkObjects.{SinkObjects}
use Rattle.sinks.specs.SinkWords.{sink_encode_of}
use Rattle.sinks.specs.SinkLists.{empty_sink, sink_encoded_at, sink_made_of, sink_write_of}
use Rattle.sinks.specs.Promises.{SinkEncodes}
use Rattle.sinks.proofs.SinkWords.{sink_encoded_is}

pub made_in : (ps : List SinkPlace) (n k : ℕ) (r : Option ℕ) → k < length (take n ps) → SinkEncodes (get_or (take n ps) k empty_sink).object r → r ≡ sink_encoded_at ps k
made_in ps n k r h e = sink_encoded_is _ r e ∙ ap (λ (p : SinkPlace). sink_encode_of p.object) (counted_at ps n k empty_sink h)

pub making_finished : (o : SinkObjects) → finished_of Sink (listing_told (sink_made_of o)) ≡ sink_write_of o
making_finished o =
    ap (finished_of Sink) (made_told (sink_encoded_at o.places) o.count) ∙ made_finished Sink (sink_encoded_at o.places) o.count
