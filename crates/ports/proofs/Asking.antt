-- What a list that accepts a request answers: success, and nothing but the number 0 is that.
-- Assumes nothing.
use mathlib.Core.Path.{◌≡◌, ap, sym, ◌∙◌}
use Prim.Native.Nat.{ℕ}
use Rattle.verdicts.specs.declared.Verdict.{Verdict}
use Rattle.verdicts.specs.Refusals.{success}
use Rattle.verdicts.proofs.First.{passes}
use Rattle.lists.specs.declared.Words.{Words}
use Rattle.requests.specs.Answering.{answer_refusals, answer_of}
use Rattle.requests.proofs.Answers.{answer_numbered, answer_verdict}

pub accepts : (l : Words) (w : ℕ) → (answer_of l w).number ≡ 0 → answer_of l w ≡ success
accepts l w e =
    answer_verdict l w
    ∙ passes (answer_refusals l w) (answer_numbered l w) (ap (λ (v : Verdict). v.number) (sym (answer_verdict l w)) ∙ e)
