-- `objects::is_kind` meets its contract: a short number is told by bits 31..30, a long one by 31..28.
-- Assumes nothing.
use mathlib.Core.Path.{ap, sym, ◌∙◌}
use Prim.Native.Nat.{ℕ}
use lib.Dec.{eqb}
use Rattle.objects.proofs.Taking.{taken}
use Rattle.objects.proofs.Cases.{told_short, told_none, told_long}
use Rattle.objects.proofs.decoding.is_kind.Goals as goal

pub returns-then-kind-lt3 : goal.returns-then-kind-lt3
returns-then-kind-lt3 c =
    let x = c.args in
    ap (λ (n : ℕ). eqb n x.kind) (taken x.w 31 30) ∙ told_short x.w x.kind c.if-kind-lt3.true

pub returns-then-kind-lt12 : goal.returns-then-kind-lt12
returns-then-kind-lt12 c =
    let x = c.args in
    sym (told_none x.w x.kind c.if-kind-lt3.false c.if-kind-lt12.true)

pub returns : goal.returns
returns c =
    let x = c.args in
    ap (λ (n : ℕ). eqb n x.kind) (taken x.w 31 28) ∙ told_long x.w x.kind c.if-kind-lt12.false
