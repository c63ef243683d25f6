-- `lists::shape_check::is_fixed_5_v` meets its contract: 5 V is 100 steps of 50 mV.
-- Assumes nothing.
use mathlib.Core.Path.{ap, sym, ◌∙◌}
use mathlib.Core.Bool.{Bool, ◌&&◌}
use lib.Dec.{eqb}
use Rattle.lists.proofs.Telling.{volts_of, fixed_5_V_told}
use Rattle.lists.proofs.shape_check.is_fixed_5_v.Goals as goal

pub returns-then-is_kind : goal.returns-then-is_kind
returns-then-is_kind c =
    let w = c.args.w in
    sym (fixed_5_V_told w ∙ ap (λ (k : Bool). k && eqb (volts_of w) 100) (sym c.is_kind.ensures ∙ c.if-is_kind.true))

pub returns-else-is_kind : goal.returns-else-is_kind
returns-else-is_kind c =
    let w = c.args.w in
    c.if-is_kind.false ∙ sym (fixed_5_V_told w ∙ ap (λ (k : Bool). k && eqb (volts_of w) 100) (sym c.is_kind.ensures ∙ c.if-is_kind.false))
