-- The answer from a summary: its cases, in order.
-- Assumes nothing.
use mathlib.Core.Path.{◌≡◌, refl, ◌∙◌}
use mathlib.Core.Bool.{true, false}
use Prim.Native.Nat.{ℕ, ◌<◌, ◌≤◌}
use borrow.Author.Tests.{lt-ltb, le-ltb}
use Rattle.verdicts.specs.Refusals.{first_of, verdict, success, verdict_of}
use Rattle.verdicts.proofs.First.{numbered, hit, miss}
use Rattle.requests.specs.Answering.{bad_position}
use Rattle.summaries.specs.declared.Summary.{Summary}
use Rattle.summaries.specs.declared.QuickAsked.{QuickAsked}
use Rattle.summaries.specs.Answering.{row_of, row_refusals, judged_by, summary_refusals, answered_by}

module _ (s : Summary) (a : QuickAsked) where
  -- every row has a number
  pub summary_numbered : numbered (summary_refusals s a) ≡ true
  summary_numbered = refl

  pub answered_verdict : answered_by s a ≡ verdict_of (summary_refusals s a)
  unfolding answered_by
  answered_verdict = refl

  -- whatever the refusals make, and whatever the answer is where there is none
  module _ {A : Type 0} (refused : ℕ → ℕ → A) (answer : A) where
    pub too_many_rows_as : 7 < s.count → first_of refused (summary_refusals s a) answer ≡ refused 10 0
    too_many_rows_as h = hit refused answer 10 0 _ (lt-ltb 7 s.count h)

    module _ (counted : s.count ≤ 7) where
      pub misplaced_as : bad_position s.count a.position ≡ true → first_of refused (summary_refusals s a) answer ≡ refused 20 0
      misplaced_as e = miss refused answer 10 0 _ (le-ltb 7 s.count counted) ∙ hit refused answer 20 0 _ e

      pub by_row_as : bad_position s.count a.position ≡ false
          → first_of refused (summary_refusals s a) answer ≡ first_of refused (row_refusals (row_of s a.position) a.mismatch a.request) answer
      by_row_as e = miss refused answer 10 0 _ (le-ltb 7 s.count counted) ∙ miss refused answer 20 0 _ e

  -- ---- the same, of the verdict

  pub too_many_rows : 7 < s.count → answered_by s a ≡ verdict 10 0
  unfolding answered_by
  too_many_rows h = too_many_rows_as verdict success h

  module _ (counted : s.count ≤ 7) where
    pub misplaced : bad_position s.count a.position ≡ true → answered_by s a ≡ verdict 20 0
    unfolding answered_by
    misplaced e = misplaced_as verdict success counted e

    pub by_row : bad_position s.count a.position ≡ false → answered_by s a ≡ judged_by (row_of s a.position) a.mismatch a.request
    unfolding answered_by judged_by
    by_row e = by_row_as verdict success counted e
