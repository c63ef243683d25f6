-- Proves the claims of specs/At15V.antt, from the law of `requests` on the definition that the contract of `answer` cites.
-- Assumes nothing.
use mathlib.Core.Path.{sym, subst}
use Prim.Native.Nat.{ℕ, max}
use Rattle.verdicts.specs.declared.Verdict.{Verdict}
use Rattle.steps.specs.Units.{ma10}
use Rattle.lists.specs.declared.Words.{Words}
use Rattle.requests.specs.At15V.{AllowsUpTo}
use Rattle.requests.proofs.At15V as there
use Rattle.demands.specs.CallContracts.{AnswerAnswers}
use Rattle.demands.specs.At15V.{AcceptsUpTo, Exactly15V, Exactly15VAlone, Under15V, Over15V}

accepts : (l : Words) (w : ℕ) (v : Verdict) → AnswerAnswers l w v → (milliamperes : ℕ) → AllowsUpTo l w milliamperes → AcceptsUpTo v w milliamperes
accepts l w v e milliamperes a = subst (λ (u : Verdict). AcceptsUpTo u w milliamperes) (sym e) a.accepted

pub exactly_15_V : Exactly15V
exactly_15_V l w low high asks v answers e =
    accepts l w v answers (max (ma10 low) (ma10 high)) (there.at_15_V l w low high asks (there.figure_600 w e))

pub exactly_15_V_alone : Exactly15VAlone
exactly_15_V_alone l w low high asks v answers e z =
    accepts l w v answers (ma10 low) (there.at_15_V_alone l w low high asks (there.figure_600 w e) z)

pub under_15_V : Under15V
under_15_V l w low high asks v answers whole from below =
    accepts l w v answers (ma10 low) (there.below_15_V l w low high asks whole from below)

pub over_15_V : Over15V
over_15_V l w low high asks v answers whole above to second =
    accepts l w v answers (ma10 high) (there.above_15_V l w low high asks whole above to second)
