-- `objects::decoding::decode_sink` meets its contract: each test leaves the words of one kind.
-- Assumes nothing.
use mathlib.Core.Path.{ap, sym, ◌∙◌}
use native.Mathlib.Omega.{arith}
use Prim.Native.Nat.{ℕ}
use Rattle.objects.specs.declared.Object.{Object}
use Rattle.objects.proofs.BySize.{short_of_sink, pps_of_sink, none_of_sink}
use Rattle.objects.proofs.decoding.decode_sink.Goals as goal

-- what is said of an object
abbrev known : Object → ℕ × Object
known o = (0, o)

pub returns-then-w-lt1073741824 : goal.returns-then-w-lt1073741824
returns-then-w-lt1073741824 c = ap known c.fixed.ensures ∙ sym (short_of_sink _ 0 (omega arith) (omega arith) c.if-w-lt1073741824.true)

pub returns-then-w-lt2147483648 : goal.returns-then-w-lt2147483648
returns-then-w-lt2147483648 c = ap known c.battery.ensures ∙ sym (short_of_sink _ 1 (omega arith) c.if-w-lt1073741824.false c.if-w-lt2147483648.true)

pub returns-then-w-lt3221225472 : goal.returns-then-w-lt3221225472
returns-then-w-lt3221225472 c = ap known c.variable.ensures ∙ sym (short_of_sink _ 2 (omega arith) c.if-w-lt2147483648.false c.if-w-lt3221225472.true)

pub returns-then-w-lt3489660928 : goal.returns-then-w-lt3489660928
returns-then-w-lt3489660928 c = ap known c.pps.ensures ∙ sym (pps_of_sink _ c.if-w-lt3221225472.false c.if-w-lt3489660928.true)

pub returns : goal.returns
returns c = sym (none_of_sink _ c.if-w-lt3489660928.false (omega arith))
