-- Proves the claims of specs/FlatRoundTrips.antt.
-- Assumes nothing.
use Rattle.std.specs.Prelude.{Some}
use mathlib.Core.Path.{◌≡◌, sym, ap, ◌∙◌, subst}
use Prim.Native.Nat.{ℕ, ◌≤◌}
use lib.ListN.{get_or}
use Rattle.verdicts.specs.declared.Verdict.{Verdict}
use Rattle.objects.specs.declared.Side.TheVariants.{Source}
use Rattle.lists.specs.declared.Listing.{Listing}
use Rattle.lists.specs.Shape.{shape_for}
use Rattle.lists.proofs.Shapes.{none_of}
use Rattle.lists.proofs.Readings.{read_passes}
use Rattle.lists.proofs.Writings.{write_passes}
use Rattle.flat.specs.declared.FlatReading.{FlatReading}
use Rattle.flat.specs.Flat.{raised_of}
use Rattle.flat.specs.Reading.{empty_flat, flat_reading, flat_reading_for}
use Rattle.flat.specs.Writing.{encoded_flat_at, flat_write_for}
use Rattle.flat.proofs.BothWays.{raise_flat, flat_raise_same}
use Rattle.flat.proofs.Saying.{raised_is}
use Rattle.flat.proofs.Readings.{empty_past}
use Rattle.flat.proofs.RoundTrips.{flat_read_write, flat_write_read, flat_write_is}
use Rattle.demands.specs.FlatRoundTrips.{FlattenThenRaise, RaiseThenFlatten, FlatReadThenWrite, ArinReadThenWrite, FlatWriteThenRead, ArinWriteThenRead, FlatReadPast, ArinReadPast}

-- ---- one object

pub flatten_then_raise : FlattenThenRaise
flatten_then_raise o x e r f = raised_is x r f ∙ ap raised_of e ∙ raise_flat o

pub raise_then_flatten : RaiseThenFlatten
raise_then_flatten x own o e y f = f ∙ flat_raise_same x o (sym (raised_is x (Some o) e)) own

-- ---- a list

pub flat_read_then_write : FlatReadThenWrite
unfolding flat_reading_for
flat_read_then_write side l typed s r e w f =
    let n : (shape_for side l).number ≡ 0 = ap (λ (v : Verdict). v.number) (sym s) in
    let p = e ∙ ap flat_reading (read_passes side l n) in (
      ap (λ (x : FlatReading). x.verdict) p,
      f ∙ ap (λ (x : FlatReading). flat_write_for side x.list) p ∙ flat_read_write side l typed (none_of side l n),
    )

pub arin_read_then_write : ArinReadThenWrite
arin_read_then_write l typed s r e w f = flat_read_then_write Source l typed s r e w f

pub flat_write_then_read : FlatWriteThenRead
flat_write_then_read side f w e s r g =
    let x = write_passes side (encoded_flat_at side f.places) f.count (ap (λ (v : Verdict). v.number) (sym (ap (λ (y : Listing). y.verdict) e) ∙ s)) in
    g ∙ ap (λ (y : Listing). flat_reading_for side y.list) (e ∙ flat_write_is side f x) ∙ flat_write_read side f x

pub arin_write_then_read : ArinWriteThenRead
arin_write_then_read f w e s r g = flat_write_then_read Source f w e s r g

-- ---- past the count

pub flat_read_past : FlatReadPast
flat_read_past side l r e =
    subst (λ (x : FlatReading). (k : ℕ) → x.list.count ≤ k → get_or x.list.places k empty_flat ≡ empty_flat) (sym e) (empty_past side l)

pub arin_read_past : ArinReadPast
arin_read_past l r e = flat_read_past Source l r e
