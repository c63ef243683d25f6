-- `lines::fields::Fields::seven_words` meets its contract: before the first word nothing was read, and behind it there was something.
-- Assumes nothing.
use Rattle.std.proofs.Common.{◌≡◌, IsSome, ◌<◌}
use Rattle.lines.proofs.fields.Fields.seven_words.Given as goal

abbrev pub invariant-loop-word : goal.invariant-loop-word
invariant-loop-word l = (l.word-index ≡ 0 → l.self.rest ≡ l.fn.self.rest) × (0 < l.word-index → IsSome l.fn.self.rest)
