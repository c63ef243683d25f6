-- `rules::rows::SupplyRow::find` meets its contract: an object of another kind is no programmable supply.
-- Assumes nothing.
use mathlib.Core.Path.{sym}
use Rattle.rules.specs.Sets.{fits}
use Rattle.rules.proofs.OtherKinds.{pps_only}
use Rattle.rules.proofs.Steps.{found_other}
use Rattle.rules.proofs.rows.SupplyRow.find.Goals as goal

pub returns-in_default : goal.returns-in_default
unfolding fits
returns-in_default c = sym (found_other _ _ _ (pps_only _ _ c.in_default.not-Pps))
