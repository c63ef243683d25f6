-- The cases of reading.
-- Assumes nothing.
use mathlib.Core.Path.{◌≡◌, ap, ◌∙◌}
use Prim.Native.Nat.{ℕ}
use Rattle.verdicts.specs.declared.Verdict.{Verdict}
use Rattle.verdicts.specs.Refusals.{success, NoneApply}
use Rattle.verdicts.proofs.First.{all_missed, onto}
use Rattle.objects.specs.declared.Side.{Side}
use Rattle.lists.specs.declared.Words.{Words}
use Rattle.lists.specs.declared.Reading.{Reading}
use Rattle.lists.specs.Shape.{refusals_for, shape_for, shaped_of}
use Rattle.lists.specs.Reading.{no_objects, objects_to, objects_of, read_refused, read_for}
use Rattle.lists.specs.Seven.{seven_to}
use Rattle.lists.proofs.Shapes.{none_of, shape_success, as_shape_refused, by_shaped}

abbrev pub read_as : Words → Reading
read_as l = record { verdict = success; list = objects_of l }

module _ (side : Side) (l : Words) where
  abbrev given : Verdict → ℕ → Reading
  given v n = record { verdict = v; list = objects_to l.words n }

  -- the objects of the words that there are to read
  pub read_shaped : given (shaped_of side l).verdict (shaped_of side l).count ≡ read_for side l
  unfolding read_for seven_to
  read_shaped = by_shaped side l given

  -- "It refuses exactly what the shape check refuses, with the same number and place."
  pub read_verdict : (read_for side l).verdict ≡ shape_for side l
  unfolding read_for shape_for
  read_verdict = onto (λ (r : Reading). r.verdict) read_refused (refusals_for side l) (read_as l)

  pub read_refused_lem : ((shape_for side l).number ≡ 0 → ⊥) → read_for side l ≡ read_refused (shape_for side l).number (shape_for side l).place
  unfolding read_for
  read_refused_lem f = as_shape_refused read_refused side l (read_as l) f

  pub read_clear : NoneApply (refusals_for side l) → read_for side l ≡ read_as l
  unfolding read_for
  read_clear x = all_missed read_refused (read_as l) (refusals_for side l) x

  pub read_passes : (shape_for side l).number ≡ 0 → read_for side l ≡ read_as l
  read_passes e = read_clear (none_of side l e)

  -- "On a refusal everything else in the answer is zero, a list is empty"
  pub read_empty : ((read_for side l).verdict ≡ success → ⊥) → (read_for side l).list ≡ no_objects
  read_empty f =
      ap (λ (r : Reading). r.list) (read_refused_lem (λ z. f (read_verdict ∙ shape_success side l z)))
