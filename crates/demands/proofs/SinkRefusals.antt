-- Proves the claims of specs/SinkRefusals.antt, from those of both sides.
-- Assumes nothing.
use mathlib.Core.Path.{◌≡◌, sym, ap, ◌∙◌, subst}
use mathlib.Core.Bool.{true}
use Prim.Native.Nat.{ℕ}
use native.Mathlib.Omega.{arith}
use Rattle.verdicts.specs.declared.Verdict.{Verdict}
use Rattle.verdicts.proofs.First.{exactly}
use Rattle.objects.specs.declared.Side.TheVariants.{Sink}
use Rattle.objects.specs.Decode.{kind_bits, not_allowed_for}
use Rattle.lists.specs.declared.Words.{Words}
use Rattle.sinks.specs.declared.SinkReading.{SinkReading}
use Rattle.sinks.specs.SinkWords.{zero_sink, sink_fields_of}
use Rattle.sinks.specs.SinkLists.{sink_encoded_at}
use Rattle.sinks.specs.Rating.{sink_check_refusals, sink_checked_of}
use Rattle.sinks.proofs.Readings.{sink_read_verdict, sink_read_empty}
use Rattle.sinks.proofs.Checks.{sink_check_numbered, sink_check_verdict}
use Rattle.demands.specs.Refusals.{Answers}
use Rattle.demands.specs.EnumRefusals.{OneRefusal}
use Rattle.demands.specs.SinkRefusals.{SinkDecode12, SinkEncode7, SinkShapeRefusals, SinkReadRefusals, SinkWriteRefusals, SinkCheckRefusals, ArinSinkShapeRefusals, ArinSinkReadRefusals, ArinSinkWriteRefusals, ArinSinkCheckRefusals}
use Rattle.demands.proofs.Refusals.{answers, shape_for_refusals, writing_refused_lem}
use Rattle.demands.proofs.EnumRefusals.{refused_where, fields_7}
use Rattle.demands.proofs.FlatRefusals.{flat_read_for_refusals, flat_write_for_refusals}

-- ---- one word

pub sink_decode_12 : SinkDecode12
sink_decode_12 w r e =
    subst (OneRefusal zero_sink 12 (not_allowed_for Sink (kind_bits w) ≡ true)) (sym e) (refused_where zero_sink _ 12 (λ z. omega (arith, z)) (not_allowed_for Sink (kind_bits w)))

pub sink_encode_7 : SinkEncode7
sink_encode_7 o r e = fields_7 (sink_fields_of o) r e

-- ---- a list

pub sink_shape_refusals_lem : SinkShapeRefusals
sink_shape_refusals_lem l r e = shape_for_refusals Sink l r e

pub sink_read_refusals : SinkReadRefusals
sink_read_refusals l r e =
    let v = ap (λ (x : SinkReading). x.verdict) e in (
      shape_for_refusals Sink l r.verdict (v ∙ sink_read_verdict l),
      λ f. ap (λ (x : SinkReading). x.list) e ∙ sink_read_empty l (λ z. f (v ∙ z)),
    )

pub sink_write_refusals_lem : SinkWriteRefusals
sink_write_refusals_lem o r e = writing_refused_lem Sink (sink_encoded_at o.places) o.count r e

checked : (rating : ℕ) (l : Words) (r : Verdict) → r ≡ sink_checked_of rating l → Answers r (sink_check_refusals rating l)
checked rating l r e =
    answers r (sink_check_refusals rating l) (exactly (sink_check_refusals rating l) (sink_check_numbered rating l)) (e ∙ sink_check_verdict rating l)

pub sink_check_refusals_lem : SinkCheckRefusals
sink_check_refusals_lem rating l r e = checked rating.0 l r e

-- ---- board

pub arin_sink_shape_refusals : ArinSinkShapeRefusals
arin_sink_shape_refusals l r e = shape_for_refusals Sink l r e

pub arin_sink_read_refusals : ArinSinkReadRefusals
arin_sink_read_refusals l r e = flat_read_for_refusals Sink l r e

pub arin_sink_write_refusals : ArinSinkWriteRefusals
arin_sink_write_refusals f r e = flat_write_for_refusals Sink f r e

pub arin_sink_check_refusals : ArinSinkCheckRefusals
arin_sink_check_refusals rating l r e = checked rating l r e
