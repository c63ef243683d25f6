-- `sinks::sink_lists::place_of` meets its contract: a word of no kind that a sink has counts as an empty place.
-- Assumes nothing.
use Rattle.std.specs.Prelude.{Option}
use mathlib.Core.Path.{ap, sym, ◌∙◌}
use Rattle.sinks.specs.declared.SinkObject.{SinkObject}
use Rattle.sinks.specs.declared.SinkPlace.{SinkPlace}
use Rattle.sinks.specs.SinkLists.{sink_in}
use Rattle.sinks.proofs.SinkWords.{sink_decoded_is}
use Rattle.sinks.proofs.sink_lists.place_of.Goals as goal

abbrev placed : Option SinkObject → SinkPlace
placed d = record { object = sink_in d }

pub returns-in-Some : goal.returns-in-Some
returns-in-Some c = ap placed (sym c.in-Some.is ∙ sink_decoded_is _ _ c.sink_decode.ensures)

pub returns-in-None : goal.returns-in-None
returns-in-None c = ap placed (sym c.in-None.is ∙ sink_decoded_is _ _ c.sink_decode.ensures)
