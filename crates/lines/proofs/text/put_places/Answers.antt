-- `lines::text::put_places` meets its contract: the invariant is that the places passed are put; those past the count have no text.
-- Assumes nothing.
use mathlib.Core.Path.{ap, ◌∙◌}
use mathlib.Core.List.{◌∷◌}
use Prim.Native.Nat.{ℕ, ◌<◌, ◌≤◌}
use native.Mathlib.Nat.{min-le_left, min-le_right}
use native.Mathlib.Omega.{arith}
use Rattle.lists.proofs.Counted.{counted_below, counted_at, counted_all}
use Rattle.lines.specs.Text.{hex_word, places_text}
use Rattle.lines.proofs.Appending.{joined, text_is}
use Rattle.lines.proofs.Lengths.{places_length}
use Rattle.lines.proofs.Places.{one_more, all_that_count}
use Rattle.lines.proofs.text.put_places.Goals as goal

pub put_place-next-requires : goal.put_place-next-requires
put_place-next-requires c =
    omega (
      arith,
      c.loop-word.invariant,
      counted_below c.args.words c.places_that_count.result c.loop-word.word-index c.loop-word-test.true,
      c.places_that_count.ensures,
      min-le_right c.args.count 7,
      places_length c.args.words c.args.count c.loop-word.word-index,
      c.requires,
    )

pub loop-word-preserved : goal.loop-word-preserved
loop-word-preserved c =
    let x = c.args in
    let at = c.loop-word in
    let n = c.places_that_count.result in
    let below = counted_below x.words n at.word-index c.loop-word-test.true in
    let counts : at.word-index < x.count = omega (arith, below, c.places_that_count.ensures, min-le_left x.count 7) in
    let same = ap (λ (w : ℕ). 32 ∷ hex_word w) (counted_at x.words n at.word-index 0 c.loop-word-test.true) in
    text_is (one_more x.words x.count at.word-index counts) (joined at.invariant (text_is same c.put_place-next.ensures))

pub returns : goal.returns
returns c =
    let x = c.args in
    let at = c.loop-word in
    let n = c.places_that_count.result in
    let most : n ≤ 7 = omega (arith, c.places_that_count.ensures, min-le_right x.count 7) in
    let all = counted_all x.words n at.word-index (omega (arith, most)) at.auto.word-index-end c.loop-word-test.false in
    text_is
    (ap (places_text x.words x.count) (all ∙ c.places_that_count.ensures) ∙ all_that_count x.words x.count)
    at.invariant
