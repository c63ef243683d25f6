-- A decoded request is flat with the fields of its kind.
-- Assumes nothing.
use mathlib.Core.Path.{ap, sym}
use Rattle.flat.specs.Requesting.{bit_of, flat_request_by, flat_request_of}
use Rattle.flat.proofs.requesting.FlatRequestFromQuickAsked.from.Goals as goal

pub returns-in-Fixed : goal.returns-in-Fixed
unfolding flat_request_of
returns-in-Fixed c =
    let a = c.args.asked in
    rw c.addressed-flat.ensures (ap (flat_request_by a.position (bit_of a.mismatch)) (sym c.in-Fixed.is))

pub returns-in-Variable : goal.returns-in-Variable
unfolding flat_request_of
returns-in-Variable c =
    let a = c.args.asked in
    rw c.addressed-flat.ensures (ap (flat_request_by a.position (bit_of a.mismatch)) (sym c.in-Variable.is))

pub returns-in-Pps : goal.returns-in-Pps
unfolding flat_request_of
returns-in-Pps c =
    let a = c.args.asked in
    rw c.addressed-flat.ensures (ap (flat_request_by a.position (bit_of a.mismatch)) (sym c.in-Pps.is))

pub returns-in-Avs : goal.returns-in-Avs
unfolding flat_request_of
returns-in-Avs c =
    let a = c.args.asked in
    rw c.addressed-flat.ensures (ap (flat_request_by a.position (bit_of a.mismatch)) (sym c.in-Avs.is))
