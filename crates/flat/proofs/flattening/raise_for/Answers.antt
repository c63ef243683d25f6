-- `flat::flattening::raise_for` meets its contract: each side has its own way.
-- Assumes nothing.
use mathlib.Core.Path.{◌∙◌}
use Rattle.flat.proofs.Saying.{flat_says_lem}
use Rattle.flat.proofs.flattening.raise_for.Goals as goal

pub returns-in-Source : goal.returns-in-Source
returns-in-Source c = rw c.in-Source.is (c.raise.ensures ∙ flat_says_lem _)
