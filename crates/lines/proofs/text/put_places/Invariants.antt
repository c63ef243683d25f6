-- `lines::text::put_places` meets its contract: the invariant is that the places passed are put; those past the count have no text.
-- Assumes nothing.
use Rattle.lines.specs.Text.{Appended, places_text}
use Rattle.lines.proofs.text.put_places.Given as goal

abbrev pub invariant-loop-word : goal.invariant-loop-word
invariant-loop-word l = Appended l.initial.out l.at (places_text l.fn.words l.fn.count l.word-index) l.out l.next
