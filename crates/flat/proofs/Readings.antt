-- What reading gives as flat objects: refused as the shape check refuses, and zero past the count.
-- Assumes nothing.
use mathlib.Core.Path.{◌≡◌, refl, sym, ap, ◌∙◌}
use mathlib.Core.Bool.{Bool, true, false, cond}
use mathlib.Core.List.{List}
use Prim.Native.Nat.{ℕ, ◌≤◌}
use native.Mathlib.Omega.{arith}
use borrow.Author.Tests.{ltb-true, ltb-false}
use lib.Dec.{ltb}
use lib.ListN.{get_or}
use Rattle.objects.specs.Decode.{decode_of}
use Rattle.verdicts.specs.Refusals.{success}
use Rattle.verdicts.proofs.First.{by_first}
use Rattle.objects.specs.declared.Side.{Side}
use Rattle.lists.specs.declared.Words.{Words}
use Rattle.lists.specs.declared.Place.{Place}
use Rattle.lists.specs.declared.Objects.{Objects}
use Rattle.lists.specs.declared.Reading.{Reading}
use Rattle.lists.specs.Seven.{place_to, seven_to}
use Rattle.lists.specs.Shape.{refusals_for}
use Rattle.lists.specs.Reading.{empty_place, no_objects, object_of, place_of, read_refused, read_for}
use Rattle.lists.proofs.Sevens.{none_filled, filled_at, past_filled}
use Rattle.lists.proofs.Readings.{read_as, read_empty}
use Rattle.flat.specs.declared.FlatObject.{FlatObject}
use Rattle.flat.specs.Flat.{flat_of}
use Rattle.flat.specs.Reading.{empty_flat, flat_at, flat_objects, flat_reading_for}
use Rattle.flat.specs.Kept.{no_flat}

-- an empty place is flattened to an empty one
pub empty_flat_lem : flat_of empty_place.object ≡ empty_flat
unfolding flat_of
empty_flat_lem = refl

no_flat_lem : flat_objects no_objects ≡ no_flat
unfolding seven_to flat_of
no_flat_lem = refl

-- the object of a word, flattened: what reading gives at its place
abbrev pub flat_word : List ℕ → ℕ → FlatObject
flat_word ws k = flat_of (object_of (decode_of (get_or ws k 0)))

pub words_flattened : (ws : List ℕ) (n : ℕ) → seven_to (flat_word ws) empty_flat n ≡ seven_to (flat_at (seven_to (place_of ws) empty_place n)) empty_flat 7
unfolding seven_to
words_flattened ws n = rw (one 0, one 1, one 2, one 3, one 4, one 5, one 6) where
  one : (k : ℕ) → place_to (flat_word ws) empty_flat n k ≡ flat_of (place_to (place_of ws) empty_place n k).object
  one k = go (ltb k n) where
    go : (b : Bool) → cond b (flat_word ws k) empty_flat ≡ flat_of (cond b (place_of ws k) empty_place).object
    go true = refl
    go false = sym empty_flat_lem

abbrev EmptyPast : Objects → Type 0
EmptyPast o = (k : ℕ) → o.count ≤ k → get_or o.places k empty_place ≡ empty_place

module _ (side : Side) (l : Words) where
  pub flat_read_verdict : (flat_reading_for side l).verdict ≡ (read_for side l).verdict
  unfolding flat_reading_for
  flat_read_verdict = refl

  pub flat_read_list : (flat_reading_for side l).list ≡ flat_objects (read_for side l).list
  unfolding flat_reading_for
  flat_read_list = refl

  -- "On a refusal everything else in the answer is zero, a list is empty"
  pub flat_read_empty : ((flat_reading_for side l).verdict ≡ success → ⊥) → (flat_reading_for side l).list ≡ no_flat
  flat_read_empty f = flat_read_list ∙ ap flat_objects (read_empty side l (λ z. f (flat_read_verdict ∙ z))) ∙ no_flat_lem

  read_past : EmptyPast (read_for side l).list
  unfolding read_for
  read_past =
      by_first (λ (r : Reading). EmptyPast r.list) read_refused (refusals_for side l) (read_as l)
      (λ n p k h. ap (λ (ps : List Place). get_or ps k empty_place) (none_filled (place_of l.words) empty_place) ∙ past_filled (place_of l.words) empty_place 0 k h)
      (λ k h. past_filled (place_of l.words) empty_place l.count k h)

  -- "in a list of objects such a place is a fixed object with all its fields zero"
  pub empty_past : (k : ℕ) → (flat_reading_for side l).list.count ≤ k → get_or (flat_reading_for side l).list.places k empty_flat ≡ empty_flat
  unfolding flat_reading_for
  empty_past k h = go (ltb k 7) refl where
    f : ℕ → FlatObject
    f = flat_at (read_for side l).list.places

    go : (b : Bool) → ltb k 7 ≡ b → get_or (seven_to f empty_flat 7) k empty_flat ≡ empty_flat
    go true e =
        filled_at f empty_flat 7 k (omega arith) (ltb-true k 7 e) ∙ ap (λ (p : Place). flat_of p.object) (read_past k h) ∙ empty_flat_lem
    go false e = past_filled f empty_flat 7 k (ltb-false k 7 e)
