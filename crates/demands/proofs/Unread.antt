-- Proves the claims of specs/Unread.antt.
-- Assumes nothing.
use mathlib.Core.Path.{sym, ◌∙◌}
use Rattle.objects.specs.declared.Side.TheVariants.{Source}
use Rattle.lists.proofs.Unread.{shape_unread, shaped_unread, read_unread, write_unread}
use Rattle.rules.proofs.Unread.{check_unread}
use Rattle.requests.proofs.Unread.{answer_unread}
use Rattle.demands.specs.Unread.{ShapeForDoesNotLook, ShapeDoesNotLook, ReadableDoesNotLook, ReadDoesNotLook, WriteDoesNotLook, CheckDoesNotLook, AnswerDoesNotLook}

pub shape_for_does_not_look : ShapeForDoesNotLook
shape_for_does_not_look side l m a r s e f = e ∙ shape_unread side l m a ∙ sym f

pub shape_does_not_look : ShapeDoesNotLook
shape_does_not_look l m a r s e f = shape_for_does_not_look Source l m a r s e f

pub readable_does_not_look : ReadableDoesNotLook
readable_does_not_look side l m a r s e f = e ∙ shaped_unread side l m a ∙ sym f

pub read_does_not_look : ReadDoesNotLook
read_does_not_look l m a r s e f = e ∙ read_unread Source l m a ∙ sym f

pub write_does_not_look : WriteDoesNotLook
write_does_not_look o q a r s e f = e ∙ write_unread o q a ∙ sym f

pub check_does_not_look : CheckDoesNotLook
check_does_not_look p l m a r s e f = e ∙ check_unread p l m a ∙ sym f

pub answer_does_not_look : AnswerDoesNotLook
answer_does_not_look w l m a r s e f = e ∙ answer_unread w l m a ∙ sym f
