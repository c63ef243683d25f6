-- `rules::placing::supply_at` meets its contract: the invariant is the place after the rows passed, and that the one asked for is not among them.
-- Assumes nothing.
use mathlib.Core.Path.{◌≡◌, sym, ap, ◌∙◌, subst}
use Prim.Native.Nat.{ℕ, ◌+◌, ◌≤◌}
use native.Mathlib.Omega.{arith}
use lib.ListN.{length}
use Rattle.rules.specs.Tables.{slots}
use Rattle.rules.proofs.TableWalk.{supplies_to, all_supplies, supply_stands, supply_on, supply_skipped}
use Rattle.rules.proofs.PutDown.{prog_anywhere}
use Rattle.rules.proofs.Places.{word_there, none_there, stands_at}
use Rattle.rules.proofs.placing.supply_at.Goals as goal
use Rattle.rules.proofs.placing.supply_at.Goals.{then-is_there+else-at-asked, else-is_there}

pub returns-then-at-asked : goal.returns-then-at-asked
returns-then-at-asked c =
    let p = c.args.port.profile in
    let m = p.max.0 in
    let there = supply_stands m c.args.port.within.max c.loop-row.row-index c.loop-row-test.true (sym c.is_there.ensures ∙ c.if-is_there.true) in
    let st = stands_at m _ _ _ (sym c.loop-row.invariant.0 ∙ c.if-at-asked.true) there in
    word_there p (length (slots m)) c.args.asked _ _ st st.within (c.word.ensures ∙ prog_anywhere p _ _ _)

pub loop-row-preserved : goal.loop-row-preserved
loop-row-preserved c =
    let m = c.args.port.profile.max.0 in
    let i = c.loop-row.row-index in
    let high = c.args.port.within.max in
    elim c.if-is_there.branch [
      | then-is_there+else-at-asked w ↦ (
        w.at-is ∙ ap (λ (n : ℕ). n + 1) c.loop-row.invariant.0 ∙ sym (supply_on m high i c.loop-row-test.true (sym c.is_there.ensures ∙ w.if-is_there.true)),
        omega (arith, w.at-is, c.loop-row.invariant.1, w.if-at-asked.false),
      )
      | else-is_there w ↦ (
        w.at-is ∙ c.loop-row.invariant.0 ∙ sym (supply_skipped m high i c.loop-row-test.true (sym c.is_there.ensures ∙ w.if-is_there.false)),
        omega (arith, w.at-is, c.loop-row.invariant.1),
      )
    ]

pub returns : goal.returns
returns c =
    let p = c.args.port.profile in
    let m = p.max.0 in
    let e : c.loop-row.row-index ≡ 3 = omega arith in
    let full = c.loop-row.invariant.0 ∙ ap (supplies_to m) e ∙ all_supplies m c.args.port.within.max in
    none_there p (length (slots m)) c.args.asked (subst (λ (n : ℕ). n ≤ c.args.asked) full c.loop-row.invariant.1)
