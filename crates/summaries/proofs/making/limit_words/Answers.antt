-- `summaries::making::limit_words` meets its contract: the invariant is that the rows passed are filled.
-- Assumes nothing.
use mathlib.Core.Path.{ap, ap₂, sym, ◌∙◌}
use mathlib.Core.List.{List}
use Prim.Native.Nat.{ℕ, ◌<◌}
use native.Mathlib.Omega.{arith}
use lib.ListN.{set}
use Rattle.objects.proofs.Saying.{decoded_is}
use Rattle.lists.proofs.Counted.{counted_below, decoded_in}
use Rattle.lists.proofs.Sevens.{none_filled, one_filled, one_blank}
use Rattle.summaries.specs.Summaries.{no_limits, limits_in, limits_at}
use Rattle.summaries.proofs.NarrowFigures.{decoded_narrow}
use Rattle.summaries.proofs.making.limit_words.Goals as goal
use Rattle.summaries.proofs.making.limit_words.Goals.{in-Some, in_default}

pub loop-i-init : goal.loop-i-init
loop-i-init c = none_filled _ _

pub limits-requires : goal.limits-requires
limits-requires c = decoded_narrow _ _ (sym (decoded_is _ _ c.decode.ensures) ∙ c.in-Some.is)

pub loop-i-preserved : goal.loop-i-preserved
loop-i-preserved c =
    let at = c.loop-i in
    let f = limits_at c.args.list.words in
    let h = c.loop-i-test.true in
    let below : at.i < 7 = omega (arith, counted_below _ _ _ h) in
    let is = sym (decoded_in _ _ _ _ h c.decode.ensures) in
    elim c.match-decode.branch [
      | in-Some w ↦
          w.rows-is
          ∙ ap₂ (λ (rs : List (List ℕ)) (r : List ℕ). set rs at.i r) at.invariant (w.limits.ensures ∙ sym (ap limits_in (is ∙ w.in-Some.is)))
          ∙ one_filled f no_limits at.i below
      | in_default w ↦ w.rows-is ∙ at.invariant ∙ one_blank f no_limits at.i below (ap limits_in (is ∙ w.in_default.is))
    ]
