-- `board::sharing::arin_advertise` meets its contract: what `ports` decides by value is what is answered and written.
-- Assumes nothing.
use Rattle.std.proofs.Common.{rules}
use mathlib.Core.Path.{◌≡◌}
use mathlib.Core.Bool.{false}
use Rattle.ports.specs.Rows.{row_of}
use Rattle.ports.specs.Standing.{standing_of, place_of}
use Rattle.ports.specs.Deciding.{advertise_change, offer_of}
use Rattle.ports.proofs.Said.{advertise_said}
use Rattle.board.proofs.Shared.{shared}
use Rattle.board.proofs.sharing.arin_advertise.Goals as goal

pub returns : goal.returns
returns c =
    let x = c.args in
    let ys = x.rows.now in
    let s = standing_of false x.capacity ys in
    let d = advertise_change x.capacity s (row_of ys (place_of s x.port)) x.port in
    let decided : c.share-change.result ≡ d = search rules in
    shared ys offer_of d (advertise_said ys x.capacity x.port) _ decided _ c.share-change.ensures.written _ c.offer.ensures
