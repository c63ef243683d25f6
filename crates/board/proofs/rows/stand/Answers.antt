-- `board::rows::stand` meets its contract: each turn takes one row more, and where the pass ends no later row counts.
-- Assumes nothing.
use mathlib.Core.Path.{◌≡◌, refl, sym, ap, subst, ◌∙◌}
use mathlib.Core.Bool.{Bool, true, false}
use mathlib.Core.List.{List}
use Prim.Native.Nat.{ℕ, suc, ◌+◌, ◌<◌, ◌≤◌}
use native.Mathlib.Numerals.{add-one}
use native.Mathlib.Omega.{arith}
use lib.ListN.{length}
use Rattle.ports.specs.declared.Row.{Row}
use Rattle.ports.specs.declared.Standing.{Standing}
use Rattle.ports.specs.Rows.{row_of}
use Rattle.ports.specs.Standing.{begun, taken_row, goes_on, after_rows, standing_of}
use Rattle.ports.proofs.Standings.{goes_inside, stops_for_good}
use Rattle.board.proofs.rows.stand.Goals as goal

none_judged : (fresh : Bool) (capacity : ℕ) (ys : List Row) → begun capacity (length ys) ≡ after_rows fresh capacity ys 0
unfolding after_rows
none_judged fresh capacity ys = refl

one_more : (fresh : Bool) (capacity : ℕ) (ys : List Row) (k : ℕ)
    → taken_row fresh (after_rows fresh capacity ys k) (row_of ys k) (suc k) ≡ after_rows fresh capacity ys (suc k)
unfolding after_rows
one_more fresh capacity ys k = refl

module _ (fresh : Bool) (capacity : ℕ) (ys : List Row) (k : ℕ) (s : Standing) (is : s ≡ after_rows fresh capacity ys k) where
  inside : (r : Bool) → r ≡ goes_on s k → r ≡ true → (k < length ys) × (length ys ≤ 8)
  inside r g t = goes_inside fresh capacity ys k (subst (λ (x : Standing). goes_on x k ≡ true) is (sym g ∙ t))

  next : taken_row fresh s (row_of ys k) (k + 1) ≡ after_rows fresh capacity ys (k + 1)
  next = rw (add-one k) (ap (λ (x : Standing). taken_row fresh x (row_of ys k) (suc k)) is ∙ one_more fresh capacity ys k)

  ended : k ≤ length ys → (r : Bool) → r ≡ goes_on s k → r ≡ false → s ≡ standing_of fresh capacity ys
  ended l r g f = is ∙ stops_for_good fresh capacity ys k l (subst (λ (x : Standing). goes_on x k ≡ false) is (sym g ∙ f))

pub loop-i-init : goal.loop-i-init
loop-i-init c = c.begin-standing.ensures ∙ none_judged c.args.fresh c.args.capacity.0 c.args.rows.now

pub overflow_cast-i : goal.overflow_cast-i
overflow_cast-i c =
    let a = c.args in
    let l = c.loop-i in
    let h = inside a.fresh a.capacity.0 a.rows.now l.i l.standing l.invariant _ c.goes_on.ensures c.if-not-goes_on.false in
    record { fits = omega (arith, h) }

pub overflow_add-i : goal.overflow_add-i
overflow_add-i c =
    let a = c.args in
    let l = c.loop-i in
    let h = inside a.fresh a.capacity.0 a.rows.now l.i l.standing l.invariant _ c.goes_on.ensures c.if-not-goes_on.false in
    record { fits = omega (arith, h) }

pub loop-i-preserved : goal.loop-i-preserved
loop-i-preserved c =
    let a = c.args in
    let l = c.loop-i in
    c.take_row-standing.ensures ∙ next a.fresh a.capacity.0 a.rows.now l.i l.standing l.invariant

pub returns-then-not-goes_on : goal.returns-then-not-goes_on
returns-then-not-goes_on c =
    let a = c.args in
    let l = c.loop-i in
    ended a.fresh a.capacity.0 a.rows.now l.i l.standing l.invariant (omega arith) _ c.goes_on.ensures c.if-not-goes_on.true
