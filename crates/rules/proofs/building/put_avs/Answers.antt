-- `rules::building::put_avs` meets its contract: its word above 27 W, with the currents of the rows that are put down.
-- Assumes nothing.
use mathlib.Core.Path.{sym, ◌∙◌}
use borrow.Author.Tests.{ltb-true}
use Rattle.rules.proofs.ProfileCases.{port_fine}
use Rattle.rules.proofs.PutDown.{put_so, put_not, avs_put}
use Rattle.rules.proofs.OwnPlaces.{avs_beside}
use Rattle.rules.proofs.building.put_avs.Goals as goal

pub returns-then-is_there : goal.returns-then-is_there
returns-then-is_there c =
    let port = c.args.port in
    let there = sym c.is_there.ensures ∙ c.if-is_there.true in
    avs_put port.profile port.within.max c.requires
    (put_so there
    (c.avs_with-word.ensures ∙ avs_beside port.profile (port_fine port) (ltb-true 54 _ there) c.requires _ _ _ c.current_in-low.ensures c.current_in-high.ensures)
    c.push.ensures.0 c.push.ensures.1)

pub returns-else-is_there : goal.returns-else-is_there
returns-else-is_there c =
    avs_put c.args.port.profile c.args.port.within.max c.requires (put_not (sym c.is_there.ensures ∙ c.if-is_there.false))
