-- Proves the claims of specs/RoundTrips.antt.
-- Assumes nothing.
use Rattle.std.specs.Prelude.{Some}
use mathlib.Core.Path.{◌≡◌, sym, ap, ◌∙◌}
use Rattle.verdicts.specs.declared.Verdict.{Verdict}
use Rattle.objects.proofs.Saying.{decoded_is, decoded_for, encoded_is}
use Rattle.objects.proofs.RoundTrip as one_word
use Rattle.objects.specs.declared.Side.TheVariants.{Source}
use Rattle.lists.specs.declared.Reading.{Reading}
use Rattle.lists.specs.declared.Listing.{Listing}
use Rattle.lists.specs.Shape.{shape_of}
use Rattle.lists.specs.Reading.{read_of}
use Rattle.lists.specs.Writing.{encoded_at, write_of}
use Rattle.lists.proofs.Shapes.{none_of}
use Rattle.lists.proofs.Readings.{read_passes}
use Rattle.lists.proofs.Writings.{write_passes, write_clear}
use Rattle.lists.proofs.RoundTrips as whole-list
use Rattle.demands.specs.RoundTrips.{DecodeThenEncode, EncodeThenDecode, ReadThenWrite, WriteThenRead}

-- ---- one word

pub decode_then_encode : DecodeThenEncode
decode_then_encode side w h o d first r e q = encoded_is o e q ∙ one_word.decode_encode w h first side o (sym (decoded_for side w (Some o) d)) (sym r)

pub encode_then_decode : EncodeThenDecode
encode_then_decode o w e d q = decoded_is w d q ∙ one_word.encode_decode o w (sym (encoded_is o (Some w) e))

-- ---- a list

pub read_then_write : ReadThenWrite
read_then_write l typed s r e w f =
    let n : (shape_of l).number ≡ 0 = ap (λ (v : Verdict). v.number) (sym s) in
    let p = e ∙ read_passes Source l n in
    (ap (λ (x : Reading). x.verdict) p, f ∙ ap (λ (x : Reading). write_of x.list) p ∙ whole-list.read_write l typed (none_of Source l n))

pub write_then_read : WriteThenRead
write_then_read o w e s r f =
    let x = write_passes Source (encoded_at o.places) o.count (ap (λ (v : Verdict). v.number) (sym (ap (λ (y : Listing). y.verdict) e) ∙ s)) in
    f ∙ ap (λ (y : Listing). read_of y.list) (e ∙ write_clear Source (encoded_at o.places) o.count x) ∙ whole-list.write_read o x
