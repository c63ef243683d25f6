-- Places past the count are not read: sink lists that agree up to the count get the same answer.
-- Assumes nothing.
use mathlib.Core.Path.{◌≡◌, sym, ap, ◌∙◌}
use mathlib.Core.List.{List, [], ◌∷◌}
use Prim.Native.Nat.{ℕ}
use Rattle.verdicts.specs.Refusals.{refusal, each_place, first_of, verdict, success, verdict_of}
use Rattle.verdicts.proofs.First.{onward, same_places}
use Rattle.objects.specs.declared.Side.TheVariants.{Sink}
use Rattle.lists.specs.declared.Words.{Words}
use Rattle.lists.specs.Unread.{AgreeWords}
use Rattle.lists.proofs.Unread.{recounted, same_past_shape, same_taken, same_written_at}
use Rattle.sinks.specs.declared.SinkPlace.{SinkPlace}
use Rattle.sinks.specs.declared.SinkObjects.{SinkObjects}
use Rattle.sinks.specs.declared.SinkReading.{SinkReading}
use Rattle.sinks.specs.SinkWords.{sink_encode_of}
use Rattle.sinks.specs.SinkLists.{empty_sink, sink_place, sink_read_refused, sink_read_of, sink_encoded_at, sink_write_of}
use Rattle.sinks.specs.Kept.{AgreeSinks}
use Rattle.sinks.specs.Rating.{bad_rating, word_above, ceiling_rows, sink_checked_of}

module _ (l m : Words) (a : AgreeWords l m) where
  pub sink_read_unread : sink_read_of l ≡ sink_read_of m
  unfolding sink_read_of
  sink_read_unread =
      same_taken Sink l.words m.words l.count a.words sink_read_refused as_read empty_sink sink_place ∙ recounted sink_read_of l m a
    where
      as_read : List SinkPlace → SinkReading
      as_read ps = record { verdict = success; list = record { places = ps; count = l.count } }

  same_figures : (rating : ℕ) → each_place (ceiling_rows rating l.words) l.count ≡ each_place (ceiling_rows rating m.words) l.count
  same_figures rating =
      same_places (ceiling_rows rating l.words) (ceiling_rows rating m.words) l.count
      (λ k h. ap (λ (w : ℕ). refusal (word_above rating w) 43 0 ∷ []) (a.words k h))

  pub sink_check_unread : (rating : ℕ) → sink_checked_of rating l ≡ sink_checked_of rating m
  unfolding sink_checked_of
  sink_check_unread rating =
      onward verdict success (refusal (bad_rating rating) 1 0 ∷ []) _
      ∙ ap (first_of verdict (refusal (bad_rating rating) 1 0 ∷ []))
      (same_past_shape Sink l.words m.words l.count a.words verdict success _ _ (ap verdict_of (same_figures rating)))
      ∙ sym (onward verdict success (refusal (bad_rating rating) 1 0 ∷ []) _)
      ∙ recounted (sink_checked_of rating) l m a

pub sink_write_unread : (o q : SinkObjects) → AgreeSinks o q → sink_write_of o ≡ sink_write_of q
sink_write_unread o q a =
    same_written_at (sink_encoded_at o.places) (sink_encoded_at q.places) o.count (λ k h. ap (λ (p : SinkPlace). sink_encode_of p.object) (a.places k h)) Sink q.count a.count
