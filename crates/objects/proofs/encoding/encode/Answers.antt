-- `objects::encode` meets its contract: in each arm the object is the constructor at the fields bound.
-- Assumes nothing.
use mathlib.Core.Path.{◌∙◌, ap, sym}
use Rattle.objects.specs.Encode.{encode_of, encoded_says}
use Rattle.objects.proofs.Saying.{object_says_lem}
use Rattle.objects.proofs.encoding.encode.Goals as goal

pub returns-in-Battery : goal.returns-in-Battery
returns-in-Battery c =
    ap encoded_says (c.three_word.ensures ∙ ap encode_of (sym c.in-Battery.is)) ∙ sym (object_says_lem c.args.o)

pub returns-in-Variable : goal.returns-in-Variable
returns-in-Variable c =
    ap encoded_says (c.three_word-in-Variable.ensures ∙ ap encode_of (sym c.in-Variable.is)) ∙ sym (object_says_lem c.args.o)
