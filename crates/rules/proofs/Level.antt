-- The words of a list whose shape passes stand at positions that do not fall.
-- Assumes nothing.
use Rattle.std.specs.Prelude.{Option, Some, None}
use mathlib.Core.Path.{◌≡◌, refl}
use mathlib.Core.Bool.{Bool, true, false, ◌&&◌, ◌||◌, and-eq-true_iff, false≢true, true≢false}
use mathlib.Core.Logic.{⊎_elim}
use Prim.Native.Nat.{ℕ, zero, suc, ◌-◌, ◌*◌, ◌≤◌, ◌<◌}
use native.Mathlib.Nat.{eq-or-lt_of_le, le_of_suc-le-suc}
use native.Mathlib.Omega.{arith}
use lib.Dec.{leb, ltb, eqb}
use lib.ListN.{get_or}
use borrow.Author.Tests.{leb-true, ltb-true, eqb-true, not-false, ne_eqb}
use Rattle.verdicts.specs.Refusals.{NoneApply}
use Rattle.objects.specs.declared.Side.TheVariants.{Source}
use Rattle.objects.specs.declared.Object.{Object}
use Rattle.objects.specs.declared.Object.TheVariants as object
use Rattle.objects.specs.Asking.{of_object}
use Rattle.objects.specs.Decode.{decode_of, decoded_number}
use Rattle.lists.specs.declared.Words.{Words}
use Rattle.lists.specs.ObjectRules.{rank_of, key_of, keys_may_follow, out_of_bounds, may_follow}
use Rattle.lists.specs.Shape.{out_of_order, shape_refusals}
use Rattle.lists.proofs.Shapes.{word_passes}
use Rattle.rules.proofs.Positions.{position, word_position}

low_key : (o : Object) → out_of_bounds o ≡ false → key_of o ≤ 1024
unfolding out_of_bounds
low_key (object.Fixed f p v a) e = omega (arith, leb-true (v.0 * 50) 20000 (not-false _ e))
low_key (object.Battery x m p) e =
    let r = (and-eq-true_iff (leb (x.0 * 50) 21000) (leb (m.0 * 50) (x.0 * 50))).0 (not-false _ e) in
    omega (arith, leb-true (x.0 * 50) 21000 r.0, leb-true (m.0 * 50) (x.0 * 50) r.1)
low_key (object.Variable x m a) e =
    let r = (and-eq-true_iff (leb (x.0 * 50) 21000) (leb (m.0 * 50) (x.0 * 50))).0 (not-false _ e) in
    omega (arith, leb-true (x.0 * 50) 21000 r.0, leb-true (m.0 * 50) (x.0 * 50) r.1)
low_key (object.Pps l x m a) e =
    let r = (and-eq-true_iff (leb (x.0 * 100) 21000) (leb (m.0 * 100) (x.0 * 100))).0 (not-false _ e) in
    omega (arith, leb-true (x.0 * 100) 21000 r.0)
low_key (object.Avs p l h) e = omega arith

keys_level : (o : Object) (k l : ℕ) → keys_may_follow o k l ≡ true → k ≤ l
keys_level (object.Fixed f p v a) k l e = omega (arith, ltb-true k l e)
keys_level (object.Battery x m p) k l e = leb-true k l e
keys_level (object.Variable x m a) k l e = leb-true k l e
keys_level (object.Avs p low h) k l e = absurd (false≢true e)
keys_level (object.Pps g x m a) k l e = leb-true k l e

after : (o x : Object) → out_of_bounds o ≡ false → may_follow o x ≡ true → position (Some o) ≤ position (Some x)
unfolding may_follow
after o x low e = go (ltb (rank_of o) (rank_of x)) refl e where
  go : (b : Bool) → ltb (rank_of o) (rank_of x) ≡ b → (b || (eqb (rank_of o) (rank_of x) && keys_may_follow x (key_of o) (key_of x))) ≡ true
      → position (Some o) ≤ position (Some x)
  go true r t = omega (arith, ltb-true (rank_of o) (rank_of x) r, low_key o low)
  go false r t =
      let s = (and-eq-true_iff (eqb (rank_of o) (rank_of x)) (keys_may_follow x (key_of o) (key_of x))).0 t in
      omega (arith, eqb-true (rank_of o) (rank_of x) s.0, keys_level x (key_of o) (key_of x) s.1)

next : (before d : Option Object) → of_object out_of_bounds before ≡ false → eqb (decoded_number d) 12 ≡ false → out_of_order false before d ≡ false
    → position before ≤ position d
next (Some o) (Some x) low known e = after o x low (not-false _ e)
next (Some o) None low known e = absurd (true≢false known)
next None d low known e = omega arith

module _ (l : Words) (y : NoneApply (shape_refusals l)) where
  pub word_known : (k : ℕ) → k < l.count → eqb (decoded_number (decode_of (get_or l.words k 0))) 12 ≡ false
  word_known k h = (word_passes Source l y k h).0

  step : (k : ℕ) → suc k < l.count → word_position l.words k ≤ word_position l.words (suc k)
  step k h =
      let r = word_passes Source l y (suc k) h in
      let q : suc k - 1 ≡ k = omega arith in
      next (decode_of (get_or l.words k 0)) (decode_of (get_or l.words (suc k) 0)) (word_passes Source l y k (omega arith)).1.1.0 r.0
      (rw (ne_eqb (suc k) 0 (λ z. omega arith), q) at r.1.1.1.1.0)

  pub words_level : (j k : ℕ) → j ≤ k → k < l.count → word_position l.words j ≤ word_position l.words k
  words_level j zero h b = let e : j ≡ 0 = omega arith in rw e (omega arith)
  words_level j (suc k) h b = ⊎_elim
      (λ e. rw e (omega arith))
      (λ i. omega (arith, words_level j k (le_of_suc-le-suc i) (omega arith), step k b))
      (eq-or-lt_of_le h)
