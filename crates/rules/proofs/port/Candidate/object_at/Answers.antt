-- `rules::port::Candidate::object_at` meets its contract: a place that counts has its word's object.
-- Assumes nothing.
use mathlib.Core.Path.{sym, ◌∙◌}
use Rattle.objects.proofs.Saying.{decoded_is}
use Rattle.rules.proofs.Steps.{counted}
use Rattle.rules.proofs.port.Candidate.object_at.Goals as goal

pub returns-then-at-self : goal.returns-then-at-self
returns-then-at-self c = decoded_is _ _ c.decode.ensures ∙ sym (counted _ _ c.if-at-self.true)
