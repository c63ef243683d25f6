-- A list has each of some slots once and nothing besides, exactly where it has as many words and each stands at its slot.
-- Assumes nothing.
use mathlib.Core.Path.{◌≡◌, sym, subst}
use mathlib.Core.Bool.{true, ◌&&◌, and-eq-true_iff}
use mathlib.Core.List.{List}
use Prim.Native.Nat.{ℕ, ◌<◌}
use native.Mathlib.Omega.{arith}
use lib.Dec.{eqb}
use lib.ListN.{length, get_or}
use borrow.Author.Tests.{eqb-true, eq-eqb}
use Rattle.verdicts.specs.Refusals.{NoneApply}
use Rattle.objects.specs.Decode.{decode_of}
use Rattle.lists.specs.declared.Words.{Words}
use Rattle.lists.specs.Shape.{shape_refusals}
use Rattle.rules.specs.Tables.{Slot, Nothing}
use Rattle.rules.specs.Sets.{none, each_once}
use Rattle.rules.specs.Following.{all_fit}
use Rattle.rules.proofs.Tests.{same_test}
use Rattle.rules.proofs.Counting.{none_all, none_at}
use Rattle.rules.proofs.Matching.{Lined, Slotted, matched, each_once_lem}
use Rattle.rules.proofs.Positions.{slot_position, word_position, fits_at}
use Rattle.rules.proofs.Rising.{Rising}
use Rattle.rules.proofs.Level.{word_known, words_level}
use Rattle.rules.proofs.Listed.{asked, stray, once_at, once_all, fitted, not_stray, fit_at, fit_all}

abbrev slot_at : List Slot → ℕ → ℕ
slot_at ss i = slot_position (get_or ss i Nothing)

module _ (l : Words) (y : NoneApply (shape_refusals l)) (ss : List Slot) (rising : Rising ss) where
  lined : Lined (asked ss) l.words (slot_at ss) (word_position l.words) (length ss) l.count
  lined = record {
    rising = rising;
    level = words_level l y;
    meets = λ i k h j e. fits_at (get_or ss i Nothing) (decode_of (get_or l.words k 0)) e;
  }

  slotted : none (stray ss) l ≡ true → (k : ℕ) → k < l.count → Slotted (asked ss) (length ss) (decode_of (get_or l.words k 0))
  slotted t k h = fitted ss (decode_of (get_or l.words k 0)) (word_known l y k h) (none_at (stray ss) l t k h)

  in_places_lem : (each_once ss l && none (stray ss) l) ≡ true → (eqb l.count (length ss) && all_fit ss l.words l.count) ≡ true
  in_places_lem t =
      let r = (and-eq-true_iff (each_once ss l) (none (stray ss) l)).0 t in
      let m = matched (asked ss) l.words (slot_at ss) (word_position l.words) (length ss) l.count lined (slotted r.1) (once_at ss l r.0) in
      (and-eq-true_iff (eqb l.count (length ss)) (all_fit ss l.words l.count)).1
      (eq-eqb l.count (length ss) m.count, fit_all ss l.words l.count m.each)

  as_a_set : (eqb l.count (length ss) && all_fit ss l.words l.count) ≡ true → (each_once ss l && none (stray ss) l) ≡ true
  as_a_set t =
      let r = (and-eq-true_iff (eqb l.count (length ss)) (all_fit ss l.words l.count)).0 t in
      let e : l.count ≡ length ss = eqb-true l.count (length ss) r.0 in
      let o = subst (λ (m : ℕ). Lined (asked ss) l.words (slot_at ss) (word_position l.words) m l.count) (sym e) lined in
      let f = fit_at ss l.words l.count r.1 in
      (and-eq-true_iff (each_once ss l) (none (stray ss) l)).1 (
        once_all ss l (λ i h. each_once_lem (asked ss) l.words (slot_at ss) (word_position l.words) l.count o f i (omega arith)),
        none_all (stray ss) l (λ k h. not_stray ss (decode_of (get_or l.words k 0)) k (omega arith) (f k h)),
      )

  pub set_or_places : (each_once ss l && none (stray ss) l) ≡ (eqb l.count (length ss) && all_fit ss l.words l.count)
  set_or_places = same_test _ _ in_places_lem as_a_set
