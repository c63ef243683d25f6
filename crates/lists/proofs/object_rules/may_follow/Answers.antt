-- `lists::object_rules::may_follow` meets its contract: the kinds stand in their order, and within a kind the voltages.
-- Assumes nothing.
use mathlib.Core.Path.{ap₂, sym, subst, ◌∙◌}
use Rattle.lists.proofs.Orders.{Stays, less, less_or_equal, above_fixed, above_avs, staying}
use Rattle.lists.proofs.object_rules.may_follow.Goals as goal

pub returns-in-Fixed : goal.returns-in-Fixed
returns-in-Fixed c before o e f = let h = c.in-Fixed in c.lt.ensures ∙ ap₂ less (sym e) (sym f) ∙ above_fixed before o _ (f ∙ c.in-Fixed.is)

pub returns-in-Avs : goal.returns-in-Avs
returns-in-Avs c before o e f = c.lt-in-Avs.ensures ∙ ap₂ less (sym e) (sym f) ∙ above_avs before o (f ∙ c.in-Avs.is)

pub returns-in-Battery : goal.returns-in-Battery
returns-in-Battery c before o e f = c.le.ensures ∙ ap₂ less_or_equal (sym e) (sym f) ∙ staying before o (subst Stays (sym f) c.in-Battery.is)
