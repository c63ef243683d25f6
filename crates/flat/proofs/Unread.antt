-- Places past the count are not read: flat lists that agree up to the count are written alike.
-- Assumes nothing.
use mathlib.Core.Path.{◌≡◌, ap}
use Rattle.objects.specs.declared.Side.{Side}
use Rattle.lists.proofs.Unread.{same_written_at}
use Rattle.flat.specs.declared.FlatObject.{FlatObject}
use Rattle.flat.specs.declared.FlatObjects.{FlatObjects}
use Rattle.flat.specs.Flat.{raised_for}
use Rattle.flat.specs.Writing.{encoded_raised, encoded_flat_at, flat_write_for}
use Rattle.flat.specs.Unread.{AgreeFlat}

pub flat_write_unread : (side : Side) (f g : FlatObjects) → AgreeFlat f g → flat_write_for side f ≡ flat_write_for side g
flat_write_unread side f g a =
    same_written_at (encoded_flat_at side f.places) (encoded_flat_at side g.places) f.count
    (λ k h. ap (λ (x : FlatObject). encoded_raised (raised_for side x)) (a.places k h)) side g.count a.count
