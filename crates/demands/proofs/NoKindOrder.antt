-- Proves the claims of specs/NoKindOrder.antt.
-- Assumes nothing.
use mathlib.Core.Path.{◌≡◌, ap, ◌∙◌}
use mathlib.Core.Bool.{not}
use Prim.Native.Nat.{ℕ, ◌+◌, ◌<◌}
use borrow.Author.Tests.{eq-eqb}
use lib.Dec.{eqb}
use lib.ListN.{get_or}
use Rattle.verdicts.specs.Refusals.{each_place, first_of}
use Rattle.verdicts.proofs.First.{hit, miss, onward, all_missed, decided}
use Rattle.objects.specs.declared.Side.{Side}
use Rattle.objects.specs.Decode.{decode_for, decoded_number}
use Rattle.objects.specs.Encode.{encoded_number}
use Rattle.lists.specs.declared.Listing.{Listing}
use Rattle.lists.specs.Shape.{is_fixed_5_V, word_rows, agreement_rows, refusals_for}
use Rattle.lists.specs.Writing.{wide_rows, word_in, write_refused, written_from}
use Rattle.lists.proofs.Sevens.{filled_at}
use Rattle.lists.proofs.Shapes.{count_low, count_high}
use Rattle.lists.proofs.Writings.{written_as}
use Rattle.flat.specs.declared.FlatObjects.{FlatObjects}
use Rattle.flat.specs.Flat.{raised_for}
use Rattle.flat.specs.Writing.{encoded_raised, encoded_flat_at, flat_words}
use Rattle.flat.proofs.NoKind.{unknown_is, eleven_of_no_kind, twelve_of_no_kind}
use Rattle.flat.proofs.BothWays.{raise_refuses}
use Rattle.demands.specs.FlatContracts.{FlatWriteForAnswers}
use Rattle.demands.specs.NoKindOrder.{object_at, Fits, NoKindFits, NoKindFirst, NoKindInTurn}

pub no_kind_fits : NoKindFits
no_kind_fits side f k h =
    ap (λ (r : _). eqb (encoded_number (encoded_raised r)) 7) (unknown_is (raised_for side (object_at f k)) ((raise_refuses side (object_at f k)).1 h))

module _ (side : Side) (f : FlatObjects) (r : Listing) (e : FlatWriteForAnswers side f r) (fits : Fits side f) where
  abbrev made : ℕ → ℕ
  made k = word_in (encoded_flat_at side f.places k)

  abbrev written : Listing
  written = written_as (encoded_flat_at side f.places) f.count

  word_there : (k : ℕ) → k < f.count → get_or (flat_words side f).words k 0 ≡ made k
  word_there k h = filled_at made 0 f.count k (count_high f.count fits.counted) h

  by_shape : r ≡ first_of write_refused (refusals_for side (flat_words side f)) written
  unfolding written_from
  by_shape =
      e
      ∙ miss write_refused written 10 0 _ fits.counted
      ∙ onward write_refused written (each_place (wide_rows (encoded_flat_at side f.places)) f.count) (refusals_for side (flat_words side f))
      ∙ all_missed write_refused _ (each_place (wide_rows (encoded_flat_at side f.places)) f.count) fits.narrow

pub no_kind_first : NoKindFirst
no_kind_first side f r e fits h =
    by_shape side f r e fits
    ∙ miss write_refused (written side f r e fits) 10 0 _ fits.counted
    ∙ hit write_refused (written side f r e fits) 11 1 _
    (ap (λ (w : ℕ). not (is_fixed_5_V w)) (word_there side f r e fits 0 (count_low f.count fits.counted)) ∙ ap not (eleven_of_no_kind side (object_at f 0) h))

pub no_kind_in_turn : NoKindInTurn
no_kind_in_turn side f r e fits first k inside clear h =
    by_shape side f r e fits
    ∙ miss write_refused (written side f r e fits) 10 0 _ fits.counted
    ∙ miss write_refused (written side f r e fits) 11 1 _ first
    ∙ onward write_refused (written side f r e fits) (each_place (word_rows side (flat_words side f).words) f.count) (agreement_rows side (flat_words side f))
    ∙ decided (word_rows side (flat_words side f).words) write_refused k f.count (write_refused 12 (k + 1)) inside clear
    (λ x. hit write_refused x 12 (k + 1) _
    (ap (λ (w : ℕ). eqb (decoded_number (decode_for side w)) 12) (word_there side f r e fits k inside) ∙ eq-eqb _ 12 ((twelve_of_no_kind side (object_at f k)).1 h))) _
