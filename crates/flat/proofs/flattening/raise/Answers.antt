-- `flat::raise` meets its contract: each arm of the `match` says which case of `raised_of` holds.
-- Assumes nothing.
use Rattle.std.specs.Prelude.{Option}
use Rattle.objects.specs.declared.Object.{Object}
use mathlib.Core.Path.{◌≡◌, ap, sym, ◌∙◌}
use Rattle.flat.specs.declared.FlatObject.{FlatObject}
use Rattle.flat.specs.Flat.{raised_of, raised_says, flat_says}
use Rattle.flat.proofs.Saying.{flat_says_lem}
use Rattle.flat.proofs.BothWays.{raised_by_lem}
use Rattle.flat.proofs.flattening.raise.Goals as goal

-- an answer that is the definition's says what is to be said
says : (x : FlatObject) (r : Option Object) → r ≡ raised_of x → raised_says r ≡ flat_says x
says x r e = ap raised_says e ∙ sym (flat_says_lem x)

pub returns-in-0 : goal.returns-in-0
returns-in-0 c = says _ _ (sym (raised_by_lem _ 0 c.in-0.is))

pub returns-in-1 : goal.returns-in-1
returns-in-1 c = says _ _ (sym (raised_by_lem _ 1 c.in-1.is))

pub returns-in-2 : goal.returns-in-2
returns-in-2 c = says _ _ (sym (raised_by_lem _ 2 c.in-2.is))

pub returns-in-3 : goal.returns-in-3
returns-in-3 c = says _ _ (sym (raised_by_lem _ 3 c.in-3.is))

pub returns-in-4 : goal.returns-in-4
returns-in-4 c = says _ _ (sym (raised_by_lem _ 4 c.in-4.is))
