-- `objects::reserved_bits::pps_bit_set` meets its contract: three places that must be clear.
-- Assumes nothing.
use mathlib.Core.Path.{sym, ◌∙◌}
use Rattle.objects.specs.Reserved.{clear, limited_clear}
use Rattle.objects.proofs.Taking.{taken}
use Rattle.objects.proofs.SetBits.{is_set, is_clear, is_not_clear, two_set, last_set}
use Rattle.objects.proofs.reserved_bits.pps_bit_set.Goals as goal

pub returns-then-w-ne0 : goal.returns-then-w-ne0
returns-then-w-ne0 c =
    let w = c.args.w in
    sym (two_set (limited_clear c.args.side w) (clear w 7 7) (sym c.limited_bit_set.ensures ∙ c.if-limited_bit_set.false)
    (is_not_clear c.if-w-ne0.true (taken w 16 16)))

pub returns : goal.returns
returns c =
    let w = c.args.w in
    is_set (taken w 7 7)
    ∙ sym (last_set (limited_clear c.args.side w) (clear w 7 7) (sym c.limited_bit_set.ensures ∙ c.if-limited_bit_set.false)
    (is_clear c.if-w-ne0.false (taken w 16 16)))
