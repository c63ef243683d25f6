-- One word judged: the cases of `judged_of`, and what a judgement says of the word's rows.
-- Assumes nothing.
use Rattle.std.specs.Prelude.{Result, Ok, Err, Option, Some, None}
use mathlib.Core.Path.{◌≡◌, refl, sym, ap, ◌∙◌}
use mathlib.Core.Bool.{Bool, true, false, not}
use mathlib.Core.List.{List}
use Prim.Native.Nat.{ℕ, zero, suc, ◌+◌, ◌-◌, ◌<◌}
use native.Mathlib.Omega.{arith}
use lib.Dec.{eqb}
use lib.ListN.{get_or}
use Rattle.verdicts.specs.declared.Verdict.{Verdict}
use Rattle.verdicts.specs.Refusals.{first_of, err, verdict, NoneApply}
use Rattle.verdicts.proofs.Results.{none_applied, value_meant, refused_as}
use Rattle.objects.specs.declared.Side.{Side}
use Rattle.objects.specs.declared.Object.{Object}
use Rattle.objects.specs.Decode.{decode_for, decoded_number}
use Rattle.objects.specs.Reserved.{reserved_set}
use Rattle.lists.specs.declared.object_rules.Standing.{Standing}
use Rattle.lists.specs.ObjectRules.{out_of_bounds, over_100_W, may_follow}
use Rattle.lists.specs.Shape.{out_of_order, word_refusals, word_rows}
use Rattle.lists.specs.Reading.{object_of}
use Rattle.lists.specs.Judging.{standing_of, judged_of, Judges}

module _ (side : Side) (first : Bool) (place : ℕ) (before : Object) (w : ℕ) where
  pub not_known : decode_for side w ≡ None → Err (verdict 12 place) ≡ judged_of side first place before w
  unfolding judged_of first_of
  not_known d = rw d

  module _ (o : Object) (d : decode_for side w ≡ Some o) where
    pub reserved : reserved_set side o first w ≡ true → Err (verdict 13 place) ≡ judged_of side first place before w
    unfolding judged_of first_of
    reserved r = rw d (rw r)

    module _ (r : reserved_set side o first w ≡ false) where
      pub bound : out_of_bounds o ≡ true → Err (verdict 15 place) ≡ judged_of side first place before w
      unfolding judged_of first_of
      bound b = rw d (rw (r, b))

      module _ (b : out_of_bounds o ≡ false) where
        pub power : over_100_W o ≡ true → Err (verdict 16 place) ≡ judged_of side first place before w
        unfolding judged_of first_of
        power p = rw d (rw (r, b, p))

        module _ (p : over_100_W o ≡ false) where
          pub order : out_of_order first (Some before) (Some o) ≡ true → Err (verdict 14 place) ≡ judged_of side first place before w
          unfolding judged_of first_of
          order q = rw d (rw (r, b, p, q))

          pub fine : out_of_order first (Some before) (Some o) ≡ false → Ok (standing_of o) ≡ judged_of side first place before w
          unfolding judged_of first_of
          fine q = rw d (rw (r, b, p, q))

pub first_in_order : (first : Bool) (before o : Object) → first ≡ true → out_of_order first (Some before) (Some o) ≡ false
first_in_order first before o f = rw f

pub later_in_order : (first : Bool) (before o : Object) → first ≡ false → out_of_order first (Some before) (Some o) ≡ not (may_follow before o)
later_in_order first before o f = rw f

-- ---- what a judgement says

-- a word that has no fault of kind has an object
pub has_object : (d : Option Object) → eqb (decoded_number d) 12 ≡ false → d ≡ Some (object_of d)
has_object (Some o) e = refl
has_object None e = let z : true ≡ false = e in cc

-- the object before a place, which stands so; before the first place any object will do
pub record Before (side : Side) (ws : List ℕ) (k : ℕ) (s : Standing) : Type 0 where
  pub object : Object
  pub stands : standing_of object ≡ s
  pub decoded : 0 < k → decode_for side (get_or ws (k - 1) 0) ≡ Some object

module _ (side : Side) (ws : List ℕ) where
  -- how the object at a place stands
  abbrev pub standing_at : ℕ → Standing
  standing_at k = standing_of (object_of (decode_for side (get_or ws k 0)))

  -- the judgement is by the rows of the place
  by_rows : (k : ℕ) {s : Standing} {r : Result Standing Verdict} → Before side ws k s → Judges side (eqb k 0) (k + 1) s (get_or ws k 0) r
      → r ≡ first_of err (word_rows side ws k) (Ok (standing_at k))
  unfolding judged_of first_of
  by_rows zero b j = j b.object b.stands
  by_rows (suc k) b j =
      j b.object b.stands
      ∙ ap (λ (d : Option Object). first_of err (word_refusals side (eqb (suc k) 0) (suc k + 1) d (get_or ws (suc k) 0)) (Ok (standing_at (suc k))))
      (sym (b.decoded (omega arith)))

  module _ (k : ℕ) {s : Standing} {r : Result Standing Verdict} (b : Before side ws k s) (j : Judges side (eqb k 0) (k + 1) s (get_or ws k 0) r) where
    -- a word that is refused, whatever comes behind
    pub refused_word : {v : Verdict} → r ≡ Err v → (x : Result (Unit {0}) Verdict) → first_of err (word_rows side ws k) x ≡ Err v
    refused_word q x = refused_as (standing_at k) (word_rows side ws k) (sym (by_rows k b j) ∙ q) err x

    pub fine_word : {t : Standing} → r ≡ Ok t → NoneApply (word_rows side ws k)
    fine_word q = none_applied (standing_at k) (word_rows side ws k) (sym (by_rows k b j) ∙ q)

    pub fine_standing : {t : Standing} → r ≡ Ok t → t ≡ standing_at k
    fine_standing q = value_meant (standing_at k) (word_rows side ws k) (sym (by_rows k b j) ∙ q)

    pub fine_object : {t : Standing} → r ≡ Ok t → decode_for side (get_or ws k 0) ≡ Some (object_of (decode_for side (get_or ws k 0)))
    fine_object q = has_object (decode_for side (get_or ws k 0)) (fine_word q).0

    -- and the next word has it before it
    pub next_before : {t : Standing} → r ≡ Ok t → Before side ws (k + 1) t
    next_before q =
        let z : k + 1 - 1 ≡ k = omega arith in record {
          object = object_of (decode_for side (get_or ws k 0));
          stands = sym (fine_standing q);
          decoded = λ h.
              ap (λ (i : ℕ). decode_for side (get_or ws i 0)) z ∙ fine_object q;
        }
