-- `summaries::summarize` meets its contract: the rows of the words that there are to read.
-- Assumes nothing.
use Rattle.summaries.proofs.Makings.{summary_shaped}
use Rattle.summaries.specs.Summaries.{summary_with, summary_to}
use Rattle.summaries.specs.declared.Summarized.{Summarized}
use Rattle.summaries.specs.declared.Summary.{Summary}
use Rattle.lists.proofs.Shapes.{shaped_count}
use Rattle.lists.specs.declared.Shaped.{Shaped}
use Rattle.objects.specs.declared.Side.TheVariants.{Source}
use Rattle.verdicts.specs.declared.Verdict.{Verdict}
use mathlib.Core.List.{List}
use Prim.Native.Nat.{ℕ, ◌≤◌}
use mathlib.Core.Path.{ap, sym, ◌∙◌, subst}
use Rattle.summaries.proofs.making.summarize.Goals as goal

abbrev summarized : Verdict → Summary → Summarized
summarized v s = record { verdict = v; summary = s }

pub limit_words-rows-requires : goal.limit_words-rows-requires
limit_words-rows-requires c = subst (λ (s : Shaped). s.count ≤ 7) (sym c.readable-shaped.ensures) (shaped_count Source _)

pub returns : goal.returns
returns c =
    let l = c.args.list in
    let s = c.readable-shaped.result in
    ap (λ (rs : List (List ℕ)). summarized s.verdict (summary_with s.count rs)) c.limit_words-rows.ensures
    ∙ ap (λ (z : Shaped). summarized z.verdict (summary_to l.words z.count)) c.readable-shaped.ensures
    ∙ summary_shaped l
