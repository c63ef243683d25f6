-- `lines::text::put_numbers` meets its contract: one number more is put at the end.
-- Assumes nothing.
use mathlib.Core.Path.{ap, sym}
use native.Mathlib.Omega.{arith}
use lib.ListN.{get_or, take}
use Rattle.std.proofs.lemmas.List.{take_more}
use Rattle.lines.specs.Numbers.{numbers_text}
use Rattle.lines.proofs.Appending.{text_is}
use Rattle.lines.proofs.Telling.{one_more}
use Rattle.lines.proofs.text.put_numbers.Goals as goal

pub loop-n-preserved : goal.loop-n-preserved
loop-n-preserved c =
    let ns = c.args.numbers.now in
    let i = c.loop-n.n-index in
    let further = sym (ap numbers_text (take_more ns i 0 c.loop-n-test.true)) in (
      text_is further (one_more (take i ns) (get_or ns i 0) c.loop-n.invariant.0 c.put_field-next.ensures.text),
      omega (arith, c.loop-n.invariant.1, c.put_field-next.ensures.end),
    )
