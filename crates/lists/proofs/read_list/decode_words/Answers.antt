-- `lists::read_list::decode_words` meets its contract: the invariant is that the places passed are filled.
-- Assumes nothing.
use Rattle.std.specs.Prelude.{Option}
use mathlib.Core.Path.{ap, ap₂, sym, ◌∙◌}
use mathlib.Core.List.{List}
use Prim.Native.Nat.{◌<◌}
use native.Mathlib.Omega.{arith}
use lib.ListN.{set}
use Rattle.objects.specs.declared.Object.{Object}
use Rattle.lists.specs.declared.Place.{Place}
use Rattle.lists.specs.Reading.{empty_place, object_of, place_of}
use Rattle.lists.proofs.Counted.{counted_below, decoded_in}
use Rattle.lists.proofs.Sevens.{none_filled, one_filled, one_blank}
use Rattle.lists.proofs.read_list.decode_words.Goals as goal
use Rattle.lists.proofs.read_list.decode_words.Goals.{in-Some, in_default}

abbrev placed : Option Object → Place
placed d = record { object = object_of d }

pub loop-i-init : goal.loop-i-init
loop-i-init c = none_filled _ _

pub loop-i-preserved : goal.loop-i-preserved
loop-i-preserved c =
    let at = c.loop-i in
    let f = place_of c.args.list.words in
    let h = c.loop-i-test.true in
    let below : at.i < 7 = omega (arith, counted_below _ _ _ h) in
    let decoded = decoded_in _ _ _ _ h c.decode.ensures in elim c.match-decode.branch [
      | in-Some w ↦
          w.places-is
          ∙ ap₂ (λ (ps : List Place) (p : Place). set ps at.i p) at.invariant (sym (ap placed (sym decoded ∙ w.in-Some.is)))
          ∙ one_filled f empty_place at.i below
      | in_default w ↦
          w.places-is ∙ at.invariant ∙ one_blank f empty_place at.i below (ap placed (sym decoded ∙ w.in_default.is))
    ]
