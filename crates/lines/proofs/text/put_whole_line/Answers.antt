-- `lines::text::put_whole_line` meets its contract: its five texts, one after the other; none is longer than the room left for it.
-- Assumes nothing.
use borrow.Author.Rules.{rules}
use native.Mathlib.Omega.{arith}
use Rattle.lines.proofs.Lengths.{decimal_length, places_length}
use Rattle.lines.proofs.text.put_whole_line.Goals as goal

pub put_byte-requires : goal.put_byte-requires
put_byte-requires c =
    omega (
      arith,
      c.put_decimal-space.ensures,
      c.put_byte-next.ensures,
      c.put_decimal-places.ensures,
      c.put_places-end.ensures,
      decimal_length c.args.number (search rules),
      decimal_length c.args.count (search rules),
      places_length c.args.words c.args.count 7,
      c.requires,
    )
