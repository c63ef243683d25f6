-- `lines::fields::Fields::seven_words` meets its contract: the first word that can be read shows that there was something.
-- Assumes nothing.
use Rattle.std.proofs.Common.{◌≡◌, refl, subst, arith, ℕ, zero, suc, ◌<◌, Option, IsSome}
use Rattle.lines.proofs.fields.Fields.seven_words.Goals as goal

first_or_later : {A : Type 0} (i : ℕ) {then now : Option A} → (i ≡ 0 → now ≡ then) × (0 < i → IsSome then) → IsSome now → IsSome then
first_or_later zero h some = subst IsSome (h.0 refl) some
first_or_later (suc i) h some = h.1 (omega arith)

pub loop-word-preserved : goal.loop-word-preserved
loop-word-preserved c =
    ((λ z. absurd (omega arith)), (λ _. first_or_later c.loop-word.word-index c.loop-word.invariant (c.in_ok-word.ensures.there refl)))
