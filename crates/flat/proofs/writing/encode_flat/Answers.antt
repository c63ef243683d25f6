-- `flat::writing::encode_flat` meets its contract: an object of a kind has its word, any other that of 1111b.
-- Assumes nothing.
use Rattle.std.specs.Prelude.{Option}
use Rattle.objects.specs.declared.Object.{Object}
use mathlib.Core.Path.{ap, sym, ◌∙◌}
use Prim.Native.Nat.{ℕ}
use Rattle.objects.specs.Encode.{encoded_says}
use Rattle.objects.proofs.Saying.{object_says_lem}
use Rattle.flat.specs.Flat.{raised_for}
use Rattle.flat.specs.Writing.{encoded_raised}
use Rattle.flat.proofs.Saying.{raised_one}
use Rattle.flat.proofs.writing.encode_flat.Goals as goal

abbrev said : Option Object → ℕ × ℕ
said r = encoded_says (encoded_raised r)

pub returns-in-Some : goal.returns-in-Some
returns-in-Some c =
    c.encode.ensures
    ∙ object_says_lem c.in-Some.object
    ∙ ap said (sym c.in-Some.is ∙ raised_one _ (raised_for c.args.side c.args.flat) c.raise_for.ensures)
