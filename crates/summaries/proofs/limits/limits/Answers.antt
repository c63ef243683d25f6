-- `summaries::limits::limits` meets its contract: each kind has its row of the table.
-- Assumes nothing.
use mathlib.Core.Path.{◌≡◌, ap, sym, ◌∙◌}
use Prim.Native.Nat.{ℕ, ◌*◌}
use Rattle.summaries.specs.Summaries.{row, limits_of}
use Rattle.summaries.proofs.limits.limits.Goals as goal

pub returns-in-Fixed : goal.returns-in-Fixed
unfolding limits_of
returns-in-Fixed c =
    let x = c.in-Fixed in
    let is : row (x.volts.0 * 50) (x.volts.0 * 50) (x.current.0 * 10) (x.current.0 * 10) ≡ limits_of c.args.o = ap limits_of (sym x.is) in
    cc

pub returns-in-Battery : goal.returns-in-Battery
unfolding limits_of
returns-in-Battery c =
    let x = c.in-Battery in
    let is : row (x.min.0 * 50) (x.max.0 * 50) 0 0 ≡ limits_of c.args.o = ap limits_of (sym x.is) in
    cc

pub returns-in-Variable : goal.returns-in-Variable
unfolding limits_of
returns-in-Variable c =
    let x = c.in-Variable in
    let is : row (x.min.0 * 50) (x.max.0 * 50) (x.current.0 * 10) (x.current.0 * 10) ≡ limits_of c.args.o = ap limits_of (sym x.is) in
    cc

pub returns-in-Pps : goal.returns-in-Pps
unfolding limits_of
returns-in-Pps c =
    let x = c.in-Pps in
    let is : row (x.min.0 * 100) (x.max.0 * 100) (x.current.0 * 50) (x.current.0 * 50) ≡ limits_of c.args.o = ap limits_of (sym x.is) in
    cc

pub returns-in-Avs : goal.returns-in-Avs
unfolding limits_of
returns-in-Avs c =
    let x = c.in-Avs in
    ap (λ (top : ℕ). row 9000 top (x.low.0 * 10) (x.high.0 * 10)) c.avs_top.ensures ∙ ap limits_of (sym x.is)
