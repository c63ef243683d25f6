-- Making a summary: its cases, and what is had of a refusal.
-- Assumes nothing.
use mathlib.Core.Path.{◌≡◌}
use Prim.Native.Nat.{ℕ}
use Rattle.verdicts.specs.declared.Verdict.{Verdict}
use Rattle.verdicts.specs.Refusals.{success}
use Rattle.verdicts.proofs.First.{onto}
use Rattle.objects.specs.declared.Side.TheVariants.{Source}
use Rattle.lists.specs.declared.Words.{Words}
use Rattle.lists.specs.Seven.{seven_to}
use Rattle.lists.specs.Shape.{shape_refusals, shape_for, shape_of, shaped_of}
use Rattle.lists.proofs.Shapes.{as_shape_refused, as_shape_passes, by_shaped}
use Rattle.summaries.specs.declared.Summarized.{Summarized}
use Rattle.summaries.specs.Summaries.{summary_to, summary_of, summary_refused, summarized_of}

module _ (l : Words) where
  abbrev given : Verdict → ℕ → Summarized
  given v n = record { verdict = v; summary = summary_to l.words n }

  -- the rows of the words that there are to read
  pub summary_shaped : given (shaped_of Source l).verdict (shaped_of Source l).count ≡ summarized_of l
  unfolding summarized_of seven_to
  summary_shaped = by_shaped Source l given

  -- "Making a summary refuses exactly what the shape check refuses, with the same number and place"
  pub summary_verdict : (summarized_of l).verdict ≡ shape_of l
  unfolding summarized_of shape_for
  summary_verdict = onto (λ (r : Summarized). r.verdict) summary_refused (shape_refusals l) (given success l.count)

  pub summary_refused_lem : ((shape_of l).number ≡ 0 → ⊥) → summarized_of l ≡ summary_refused (shape_of l).number (shape_of l).place
  unfolding summarized_of
  summary_refused_lem f = as_shape_refused summary_refused Source l _ f

  pub summary_passes : (shape_of l).number ≡ 0 → summarized_of l ≡ record { verdict = success; summary = summary_of l }
  unfolding summarized_of
  summary_passes e = as_shape_passes summary_refused Source l _ e
