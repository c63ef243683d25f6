-- `sinks::rating::word_above` meets its contract: a word that has no object has no figure.
-- Assumes nothing.
use Rattle.std.specs.Prelude.{Option, Some, None, MatchOption}
use borrow.Author.Rules.{rules}
use Rattle.std.proofs.Common.{tests}
use mathlib.Core.Path.{◌≡◌, ap, ◌∙◌}
use mathlib.Core.Bool.{Bool, false}
use Prim.Native.Nat.{ℕ}
use Rattle.sinks.specs.declared.SinkObject.{SinkObject}
use Rattle.sinks.specs.Rating.{figure_above, object_above}
use Rattle.sinks.proofs.SinkWords.{sink_decoded_is}
use Rattle.sinks.proofs.rating.word_above.Goals as goal

-- P is what is known of the closure's answer
judged : (rating : ℕ) (d : Option SinkObject) {b : Bool} {P : SinkObject → Type 0} → MatchOption d (b ≡ false) P → ((o : SinkObject) → P o → b ≡ figure_above rating o)
    → b ≡ object_above rating d
judged rating (Some o) e f = f o e
judged rating None e f = e

pub returns : goal.returns
returns c =
    judged c.args.rating.0 c.sink_decode.result c.is_some_and.ensures (λ o k. search (rules, tests))
    ∙ ap (object_above c.args.rating.0) (sink_decoded_is c.args.w _ c.sink_decode.ensures)
