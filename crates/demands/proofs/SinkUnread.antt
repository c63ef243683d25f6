-- Proves the claims of specs/SinkUnread.antt, from those of both sides.
-- Assumes nothing.
use mathlib.Core.Path.{sym, ◌∙◌}
use Rattle.objects.specs.declared.Side.TheVariants.{Sink}
use Rattle.sinks.proofs.Unread.{sink_read_unread, sink_write_unread, sink_check_unread}
use Rattle.demands.specs.SinkUnread.{SinkShapeDoesNotLook, SinkReadDoesNotLook, SinkWriteDoesNotLook, SinkCheckDoesNotLook, ArinSinkShapeDoesNotLook, ArinSinkReadDoesNotLook, ArinSinkWriteDoesNotLook, ArinSinkCheckDoesNotLook}
use Rattle.demands.proofs.Unread.{shape_for_does_not_look}
use Rattle.demands.proofs.FlatUnread.{flat_read_for_does_not_look, flat_write_for_does_not_look}

-- ---- sinks

pub sink_shape_does_not_look : SinkShapeDoesNotLook
sink_shape_does_not_look l m a r s e f = shape_for_does_not_look Sink l m a r s e f

pub sink_read_does_not_look : SinkReadDoesNotLook
sink_read_does_not_look l m a r s e f = e ∙ sink_read_unread l m a ∙ sym f

pub sink_write_does_not_look : SinkWriteDoesNotLook
sink_write_does_not_look o q a r s e f = e ∙ sink_write_unread o q a ∙ sym f

pub sink_check_does_not_look : SinkCheckDoesNotLook
sink_check_does_not_look rating l m a r s e f = e ∙ sink_check_unread l m a rating.0 ∙ sym f

-- ---- board

pub arin_sink_shape_does_not_look : ArinSinkShapeDoesNotLook
arin_sink_shape_does_not_look l m a r s e f = shape_for_does_not_look Sink l m a r s e f

pub arin_sink_read_does_not_look : ArinSinkReadDoesNotLook
arin_sink_read_does_not_look l m a r s e f = flat_read_for_does_not_look Sink l m a r s e f

pub arin_sink_write_does_not_look : ArinSinkWriteDoesNotLook
arin_sink_write_does_not_look f g a r s e h = flat_write_for_does_not_look Sink f g a r s e h

pub arin_sink_check_does_not_look : ArinSinkCheckDoesNotLook
arin_sink_check_does_not_look rating l m a r s e f = e ∙ sink_check_unread l m a rating ∙ sym f
