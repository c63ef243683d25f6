-- Proves the claims of specs/FlatUnread.antt, from those of specs/Unread.antt.
-- Assumes nothing.
use mathlib.Core.Path.{sym, ap, ◌∙◌}
use Rattle.objects.specs.declared.Side.TheVariants.{Source}
use Rattle.lists.proofs.Unread.{read_unread}
use Rattle.flat.specs.Reading.{flat_reading, flat_reading_for}
use Rattle.flat.proofs.Unread.{flat_write_unread}
use Rattle.demands.specs.FlatUnread.{FlatReadForDoesNotLook, FlatReadDoesNotLook, FlatWriteForDoesNotLook, FlatWriteDoesNotLook, ArinShapeDoesNotLook, ArinReadDoesNotLook, ArinWriteDoesNotLook, ArinCheckDoesNotLook, ArinAnswerDoesNotLook}
use Rattle.demands.proofs.Unread.{shape_does_not_look, check_does_not_look, answer_does_not_look}

-- ---- flat

pub flat_read_for_does_not_look : FlatReadForDoesNotLook
unfolding flat_reading_for
flat_read_for_does_not_look side l m a r s e f = e ∙ ap flat_reading (read_unread side l m a) ∙ sym f

pub flat_read_does_not_look : FlatReadDoesNotLook
flat_read_does_not_look l m a r s e f = flat_read_for_does_not_look Source l m a r s e f

pub flat_write_for_does_not_look : FlatWriteForDoesNotLook
flat_write_for_does_not_look side f g a r s e h = e ∙ flat_write_unread side f g a ∙ sym h

pub flat_write_does_not_look : FlatWriteDoesNotLook
flat_write_does_not_look f g a r s e h = flat_write_for_does_not_look Source f g a r s e h

-- ---- board, lists and requests

pub arin_shape_does_not_look : ArinShapeDoesNotLook
arin_shape_does_not_look l m a r s e f = shape_does_not_look l m a r s e f

pub arin_read_does_not_look : ArinReadDoesNotLook
arin_read_does_not_look l m a r s e f = flat_read_does_not_look l m a r s e f

pub arin_write_does_not_look : ArinWriteDoesNotLook
arin_write_does_not_look f g a r s e h = flat_write_does_not_look f g a r s e h

pub arin_check_does_not_look : ArinCheckDoesNotLook
arin_check_does_not_look p l m a r s e f = check_does_not_look p l m a r s e f

pub arin_answer_does_not_look : ArinAnswerDoesNotLook
arin_answer_does_not_look w l m a r s e f = answer_does_not_look w l m a r s e f
