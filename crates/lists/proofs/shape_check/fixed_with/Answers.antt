-- `lists::shape_check::fixed_with` meets its contract: the kind is looked at first, then the voltage, then the current.
-- Assumes nothing.
use mathlib.Core.Path.{◌≡◌, ap, sym, ◌∙◌}
use mathlib.Core.Bool.{Bool, ◌&&◌}
use lib.Bits.{bit_and}
use lib.Dec.{eqb}
use Rattle.objects.specs.Decode.{is_kind}
use Rattle.lists.proofs.Telling.{volts_of, fixed_told}
use Rattle.lists.proofs.shape_check.fixed_with.Goals as goal
use Rattle.lists.proofs.shape_check.fixed_with.Goals.{then-is_kind, else-is_kind}

pub returns-then-w-volts : goal.returns-then-w-volts
returns-then-w-volts c =
    let x = c.args in
    let at_volts = eqb (volts_of x.w) x.volts.0 in
    let at_current = eqb (bit_and x.w 1023) x.current.0 in
    let both : c.if-is_kind.value ≡ (is_kind x.w 0 && at_volts) = elim c.if-is_kind.branch [
      | then-is_kind w ↦ w.value-is ∙ sym (ap (λ (k : Bool). k && at_volts) (sym c.is_kind.ensures ∙ w.if-is_kind.true))
      | else-is_kind w ↦
          w.value-is ∙ w.if-is_kind.false ∙ sym (ap (λ (k : Bool). k && at_volts) (sym c.is_kind.ensures ∙ w.if-is_kind.false))
    ] in
    sym (fixed_told x.w x.volts x.current ∙ ap (λ (b : Bool). b && at_current) (sym both ∙ c.if-w-volts.true))

pub returns-else-w-volts : goal.returns-else-w-volts
returns-else-w-volts c =
    let x = c.args in
    let at_volts = eqb (volts_of x.w) x.volts.0 in
    let at_current = eqb (bit_and x.w 1023) x.current.0 in
    let both : c.if-is_kind.value ≡ (is_kind x.w 0 && at_volts) = elim c.if-is_kind.branch [
      | then-is_kind w ↦ w.value-is ∙ sym (ap (λ (k : Bool). k && at_volts) (sym c.is_kind.ensures ∙ w.if-is_kind.true))
      | else-is_kind w ↦
          w.value-is ∙ w.if-is_kind.false ∙ sym (ap (λ (k : Bool). k && at_volts) (sym c.is_kind.ensures ∙ w.if-is_kind.false))
    ] in
    c.if-w-volts.false ∙ sym (fixed_told x.w x.volts x.current ∙ ap (λ (b : Bool). b && at_current) (sym both ∙ c.if-w-volts.false))
