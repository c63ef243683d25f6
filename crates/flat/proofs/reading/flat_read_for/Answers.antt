-- `flat::flat_read_for` meets its contract: the objects of the words that there are to read, flattened.
-- Assumes nothing.
use mathlib.Core.Path.{ap, sym, ◌∙◌, subst}
use Prim.Native.Nat.{◌≤◌}
use Rattle.verdicts.specs.declared.Verdict.{Verdict}
use Rattle.lists.specs.declared.Shaped.{Shaped}
use Rattle.lists.specs.Reading.{objects_to}
use Rattle.lists.proofs.Shapes.{shaped_count}
use Rattle.lists.proofs.Readings.{read_shaped}
use Rattle.flat.specs.declared.FlatObjects.{FlatObjects}
use Rattle.flat.specs.declared.FlatReading.{FlatReading}
use Rattle.flat.specs.Reading.{flat_objects, flat_reading, flat_reading_for}
use Rattle.flat.proofs.reading.flat_read_for.Goals as goal

abbrev reading : Verdict → FlatObjects → FlatReading
reading v f = record { verdict = v; list = f }

pub flatten_words-requires : goal.flatten_words-requires
flatten_words-requires c = subst (λ (s : Shaped). s.count ≤ 7) (sym c.readable-shaped.ensures) (shaped_count _ _)

pub returns : goal.returns
unfolding flat_reading_for
returns c =
    let l = c.args.list in
    ap (reading c.readable-shaped.result.verdict) c.flatten_words.ensures
    ∙ ap (λ (s : Shaped). reading s.verdict (flat_objects (objects_to l.words s.count))) c.readable-shaped.ensures
    ∙ ap flat_reading (read_shaped _ l)
