-- What came stands behind what was held.
-- Assumes nothing.
use Rattle.std.proofs.Common.{arith}
use Rattle.caps.proofs.Reading.{read_behind}
use Rattle.caps.proofs.input.Input.read.Goals as goal

pub returns : goal.returns
returns g c =
    let got = c.in_ok-got.ensures in
    read_behind
    c.self.inside.block
    c.read.new.buf
    c.self.inside.held
    c.in_ok-got.got
    _
    (omega arith)
    got.bound.0
    _
    _
    _
    c.self.view_is
    c.self.told
    (omega arith)
    got.bytes
