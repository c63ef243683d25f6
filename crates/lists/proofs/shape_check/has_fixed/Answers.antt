-- `lists::shape_check::has_fixed` meets its contract: any word that is such an object will do.
-- Assumes nothing.
use borrow.Author.Rules.{rules}
use Rattle.std.proofs.Common.{tests}
use Rattle.std.proofs.lemmas.Iterator.{YieldsList-from_slice}
use Rattle.std.proofs.lemmas.Iterator.Search.{any_from_yields_List}
use mathlib.Core.Path.{◌∙◌}
use Rattle.steps.specs.Units.{mv50}
use Rattle.lists.proofs.Finding.{is_such, any_such}
use Rattle.lists.proofs.shape_check.has_fixed.Goals as goal

pub returns : goal.returns
returns c =
    let a = c.args in
    any_from_yields_List (is_such (mv50 a.volts) a.current) _ _ _ c.any.ensures.ran (YieldsList-from_slice a.words.now cc) (λ x b q k. search (rules, tests))
    ∙ any_such (mv50 a.volts) a.current a.words.now
