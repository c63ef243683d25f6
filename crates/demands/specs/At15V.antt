-- The 15.0 V theorem: where the two ranges of an AVS object meet, the larger of its two currents limits. For every list whose shape passes
-- and every AVS object in it, a request at exactly 15.0 V is accepted exactly when its current is at most the larger of the two, and with the
-- second current zero at most the first; under 15.0 V it is held to the first current, over it to the second. Each claim is over the contract
-- of `answer` and is proved by the theorem of its name in small letters (`exactly_15_V` is `Exactly15V`) in proofs/At15V.antt
-- (docs/STATEMENT.md, "Answering a request").
-- `AsksAvs l w low high` (requests, specs/At15V) is a request to an AVS object of the list l with these two currents. The position in a request
-- word counts from 1: 1 names the first word of the list.
-- Assumes nothing.
use Rattle.std.specs.Prelude.{◌≡◌, ◌↔◌, ℕ, ◌%◌, ◌≤◌, ◌<◌, max}
use Rattle.verdicts.specs.declared.Verdict.{Verdict}
use Rattle.verdicts.specs.Refusals.{success}
use Rattle.steps.specs.Units.{mv25, ma10, ma50}
use Rattle.steps.specs.declared.Ma10.{Ma10}
use Rattle.lists.specs.declared.Words.{Words}
use Rattle.requests.specs.Taking.{avs_volts, current_in}
use Rattle.requests.specs.At15V.{AsksAvs}
use Rattle.demands.specs.CallContracts.{AnswerAnswers}

-- accepted exactly when the current asked for is at most so many mA
abbrev pub AcceptsUpTo : Verdict → ℕ → ℕ → Type 0
AcceptsUpTo v w milliamperes = v ≡ success ↔ (ma50 (current_in w) ≤ milliamperes)

-- at 15.0 V, the figure 600 of 25 mV: the larger of the two
abbrev pub Exactly15V : Type 0
Exactly15V =
    (l : Words) (w : ℕ) (low high : Ma10) → AsksAvs l w low high → (v : Verdict) → AnswerAnswers l w v
    → (avs_volts w).0 ≡ 600 → AcceptsUpTo v w (max (ma10 low) (ma10 high))

-- at 15.0 V with the second current zero: the first
abbrev pub Exactly15VAlone : Type 0
Exactly15VAlone =
    (l : Words) (w : ℕ) (low high : Ma10) → AsksAvs l w low high → (v : Verdict) → AnswerAnswers l w v
    → (avs_volts w).0 ≡ 600 → high.0 ≡ 0 → AcceptsUpTo v w (ma10 low)

-- below it, from 9.0 V on, at a whole 100 mV: the first
abbrev pub Under15V : Type 0
Under15V =
    (l : Words) (w : ℕ) (low high : Ma10) → AsksAvs l w low high → (v : Verdict) → AnswerAnswers l w v
    → mv25 (avs_volts w) % 100 ≡ 0 → 9000 ≤ mv25 (avs_volts w) → mv25 (avs_volts w) < 15000 → AcceptsUpTo v w (ma10 low)

-- above it, to 20.0 V, at a whole 100 mV, with a second current: the second
abbrev pub Over15V : Type 0
Over15V =
    (l : Words) (w : ℕ) (low high : Ma10) → AsksAvs l w low high → (v : Verdict) → AnswerAnswers l w v
    → mv25 (avs_volts w) % 100 ≡ 0 → 15000 < mv25 (avs_volts w) → mv25 (avs_volts w) ≤ 20000 → (high.0 ≡ 0 → ⊥)
    → AcceptsUpTo v w (ma10 high)
