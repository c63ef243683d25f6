-- `steps::scaling::rescale` meets its contract: a remainder, or a quotient past 16 bits, leaves no figure that stands for the measure.
-- Assumes nothing.
use mathlib.Core.Path.{sym}
use Prim.Native.Nat.{◌*◌, ◌/◌}
use native.Mathlib.Nat.{mul-mod_left, div-eq_of_eq-mul_left, div-add-mod'}
use native.Mathlib.Omega.{arith}
use Rattle.steps.proofs.ConversionLaws.{exactly, lost}
use Rattle.steps.proofs.scaling.rescale.Goals as goal

pub returns-then-measure-to-ne0 : goal.returns-then-measure-to-ne0
returns-then-measure-to-ne0 c =
    let a = c.args in
    sym (lost a.figure a.from a.to (λ m e l. c.if-measure-to-ne0.true (rw e at (mul-mod_left m a.to))))

pub returns-then-count-ge65536 : goal.returns-then-count-ge65536
returns-then-count-ge65536 c =
    let a = c.args in
    sym (lost a.figure a.from a.to (λ m e l. omega (arith, div-eq_of_eq-mul_left {k = m} c.requires.1 (sym e))))

pub returns : goal.returns
returns c =
    let a = c.args in
    let q = a.figure * a.from in
    sym (exactly a.figure a.from a.to (q / a.to) c.requires.1 (omega (arith, div-add-mod' q a.to)) c.if-count-ge65536.false)
