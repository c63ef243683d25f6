-- `lists::read` meets its contract: the objects of the words that there are to read.
-- Assumes nothing.
use mathlib.Core.Path.{ap, sym, ◌∙◌, subst}
use Prim.Native.Nat.{◌≤◌}
use Rattle.verdicts.specs.declared.Verdict.{Verdict}
use Rattle.objects.specs.declared.Side.TheVariants.{Source}
use Rattle.lists.specs.declared.Shaped.{Shaped}
use Rattle.lists.specs.declared.Objects.{Objects}
use Rattle.lists.specs.declared.Reading.{Reading}
use Rattle.lists.specs.Reading.{objects_to}
use Rattle.lists.proofs.Shapes.{shaped_count}
use Rattle.lists.proofs.Readings.{read_shaped}
use Rattle.lists.proofs.read_list.read.Goals as goal

abbrev reading : Verdict → Objects → Reading
reading v o = record { verdict = v; list = o }

pub decode_words-requires : goal.decode_words-requires
decode_words-requires c = subst (λ (s : Shaped). s.count ≤ 7) (sym c.readable-shaped.ensures) (shaped_count Source _)

pub returns : goal.returns
returns c =
    let l = c.args.list in
    ap (reading c.readable-shaped.result.verdict) c.decode_words.ensures
    ∙ ap (λ (s : Shaped). reading s.verdict (objects_to l.words s.count)) c.readable-shaped.ensures
    ∙ read_shaped Source l
