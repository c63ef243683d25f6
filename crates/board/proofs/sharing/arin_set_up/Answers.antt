-- `board::sharing::arin_set_up` meets its contract: all rows are emptied, or none.
-- Assumes nothing.
use mathlib.Core.Path.{sym, ap, subst, ◌∙◌}
use mathlib.Core.Bool.{Bool, true, false, cond}
use mathlib.Core.List.{List}
use Prim.Native.Nat.{ℕ, ◌≤◌}
use native.Mathlib.Nat.{le_refl}
use native.Mathlib.Omega.{arith}
use lib.ListN.{length}
use Rattle.ports.specs.declared.Row.{Row}
use Rattle.ports.specs.declared.Standing.{Standing}
use Rattle.ports.specs.Standing.{standing, standing_of, all_or_none}
use Rattle.ports.proofs.Standings.{count_kept}
use Rattle.ports.proofs.Said.{set_up_said}
use Rattle.board.specs.Rows.{emptied_to}
use Rattle.board.proofs.EmptiedTo.{set_up_emptied}
use Rattle.board.proofs.sharing.arin_set_up.Goals as goal

at_most : (b : Bool) (n : ℕ) → cond b n 0 ≤ n
at_most true n = le_refl n
at_most false n = omega arith

no_more : (ys : List Row) (capacity : ℕ) → all_or_none (standing_of true capacity ys) ≤ length ys
unfolding all_or_none
no_more ys capacity =
    let s = standing_of true capacity ys in
    subst (λ (n : ℕ). cond (standing s) s.count 0 ≤ n) (count_kept true capacity ys (length ys)) (at_most (standing s) s.count)

pub empty_rows-requires : goal.empty_rows-requires
empty_rows-requires c =
    subst (λ (n : ℕ). n ≤ length c.args.rows.now)
    (sym (c.all_or_none-n.ensures ∙ ap all_or_none c.stand-standing.ensures))
    (no_more c.args.rows.now c.args.capacity)

pub returns : goal.returns
returns c = (
  ap (λ (s : Standing). s.fault) c.stand-standing.ensures ∙ (set_up_said c.args.rows.now c.args.capacity).0,
  c.empty_rows.ensures
      ∙ ap (λ (n : ℕ). emptied_to n c.args.rows.now) (c.all_or_none-n.ensures ∙ ap all_or_none c.stand-standing.ensures)
      ∙ set_up_emptied c.args.rows.now c.args.capacity,
)
