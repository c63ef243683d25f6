-- `flat::reading::flatten_words` meets its contract: the invariant is that the places passed are filled.
-- Assumes nothing.
use mathlib.Core.Path.{◌≡◌, ap, ap₂, ◌∙◌}
use mathlib.Core.List.{List}
use Prim.Native.Nat.{ℕ, ◌<◌}
use native.Mathlib.Omega.{arith}
use lib.ListN.{set}
use Rattle.objects.specs.Decode.{decode_of}
use Rattle.lists.specs.Seven.{seven_to}
use Rattle.lists.specs.Reading.{object_of}
use Rattle.lists.proofs.Counted.{counted_below, counted_at, counted_all}
use Rattle.lists.proofs.Sevens.{none_filled, one_filled}
use Rattle.flat.specs.declared.FlatObject.{FlatObject}
use Rattle.flat.specs.declared.FlatObjects.{FlatObjects}
use Rattle.flat.specs.Flat.{flat_of}
use Rattle.flat.specs.Reading.{empty_flat}
use Rattle.flat.proofs.Readings.{flat_word, words_flattened}
use Rattle.flat.proofs.reading.flatten_words.Goals as goal

abbrev listed : List FlatObject → ℕ → FlatObjects
listed fs n = record { places = fs; count = n }

pub loop-i-init : goal.loop-i-init
loop-i-init c = none_filled _ _

pub loop-i-preserved : goal.loop-i-preserved
loop-i-preserved c =
    let ws = c.args.list.words in
    let at = c.loop-i in
    let h = c.loop-i-test.true in
    let below : at.i < 7 = omega (arith, counted_below _ _ _ h) in
    ap₂ (λ (fs : List FlatObject) (x : FlatObject). set fs at.i x) at.invariant
    (c.flat_word.ensures ∙ ap (λ (w : ℕ). flat_of (object_of (decode_of w))) (counted_at ws c.args.count at.i 0 h))
    ∙ one_filled (flat_word ws) empty_flat at.i below

pub returns : goal.returns
returns c =
    let x = c.args in
    let at = c.loop-i in
    let e : at.i ≡ x.count = counted_all x.list.words x.count at.i (omega arith) at.auto.i-end c.loop-i-test.false in
    ap (λ (fs : List FlatObject). listed fs x.count)
    (at.invariant ∙ ap (seven_to (flat_word x.list.words) empty_flat) e ∙ words_flattened x.list.words x.count)
