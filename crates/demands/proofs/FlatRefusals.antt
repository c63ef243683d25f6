-- Proves the claims of specs/FlatRefusals.antt, from those of specs/Refusals.antt.
-- Assumes nothing.
use mathlib.Core.Path.{ap, ◌∙◌}
use Rattle.objects.specs.declared.Side.TheVariants.{Source}
use Rattle.lists.proofs.Readings.{read_verdict}
use Rattle.rules.specs.Profiles.{half_watts}
use Rattle.flat.specs.declared.FlatReading.{FlatReading}
use Rattle.flat.specs.Writing.{encoded_flat_at}
use Rattle.flat.proofs.Readings.{flat_read_verdict, flat_read_empty}
use Rattle.demands.specs.FlatRefusals.{FlatReadForRefusals, FlatReadRefusals, FlatWriteForRefusals, FlatWriteRefusals, ArinDefaultRefusals, ArinBuildRefusals, ArinCheckRefusals, ArinShapeRefusals, ArinReadRefusals, ArinWriteRefusals, ArinAnswerRefusals}
use Rattle.demands.proofs.Refusals.{shape_for_refusals, writing_refused_lem, shape_refusals_lem, default_refusals_lem, build_refusals_lem, check_refusals_lem, answer_refusals_lem}

-- ---- flat

pub flat_read_for_refusals : FlatReadForRefusals
flat_read_for_refusals side l r e =
    let v = ap (λ (x : FlatReading). x.verdict) e in (
      shape_for_refusals side l r.verdict (v ∙ flat_read_verdict side l ∙ read_verdict side l),
      λ f. ap (λ (x : FlatReading). x.list) e ∙ flat_read_empty side l (λ z. f (v ∙ z)),
    )

pub flat_read_refusals : FlatReadRefusals
flat_read_refusals l r e = flat_read_for_refusals Source l r e

pub flat_write_for_refusals : FlatWriteForRefusals
flat_write_for_refusals side f r e = writing_refused_lem side (encoded_flat_at side f.places) f.count r e

pub flat_write_refusals_lem : FlatWriteRefusals
flat_write_refusals_lem f r e = flat_write_for_refusals Source f r e

-- ---- board, lists and requests

pub arin_default_refusals : ArinDefaultRefusals
arin_default_refusals m r e = default_refusals_lem (half_watts m) r e

pub arin_build_refusals : ArinBuildRefusals
arin_build_refusals p r e = build_refusals_lem p r e

pub arin_check_refusals : ArinCheckRefusals
arin_check_refusals p l r e = check_refusals_lem p l r e

pub arin_shape_refusals : ArinShapeRefusals
arin_shape_refusals l r e = shape_refusals_lem l r e

pub arin_read_refusals : ArinReadRefusals
arin_read_refusals l r e = flat_read_refusals l r e

pub arin_write_refusals : ArinWriteRefusals
arin_write_refusals f r e = flat_write_refusals_lem f r e

pub arin_answer_refusals : ArinAnswerRefusals
arin_answer_refusals l w r e = answer_refusals_lem l w r e
