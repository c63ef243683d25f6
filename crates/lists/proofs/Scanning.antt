-- At most one AVS word: the ranks do not fall from word to word, and an AVS object follows lower ranks alone.
-- Assumes nothing.
use Rattle.std.specs.Prelude.{Result, Ok, Err, Option, Some, None}
use mathlib.Core.Path.{◌≡◌, refl, sym, ap, ap₂, ◌∙◌}
use mathlib.Core.Bool.{Bool, true, false, not, ◌&&◌, ◌||◌, and-eq-true_iff}
use mathlib.Core.List.{List, []}
use mathlib.Core.Logic.{⊎_elim}
use Prim.Native.Nat.{ℕ, ◌+◌, ◌-◌, ◌≤◌, ◌<◌}
use native.Mathlib.Nat.{eq-or-lt_of_le}
use native.Mathlib.Omega.{arith}
use lib.Dec.{ltb, eqb}
use lib.ListN.{get_or}
use borrow.Author.Tests.{ltb-true, eqb-true, eqb-false, ne_eqb, not-false}
use Rattle.steps.specs.declared.Ma10.{Ma10}
use Rattle.verdicts.specs.declared.Verdict.{Verdict}
use Rattle.verdicts.specs.Refusals.{each_place, verdict, err, passed_by, NoneApply}
use Rattle.verdicts.proofs.First.{hit, all_missed, none_all, decided}
use Rattle.objects.specs.declared.Side.{Side}
use Rattle.objects.specs.declared.Side.TheVariants.{Source}
use Rattle.objects.specs.declared.Object.{Object}
use Rattle.objects.specs.declared.Object.TheVariants.{Fixed, Battery, Variable, Pps, Avs}
use Rattle.objects.specs.Asking.{of_object, of_avs}
use Rattle.objects.specs.Decode.{decode_of, decode_for}
use Rattle.lists.specs.declared.object_rules.Standing.{Standing}
use Rattle.lists.specs.declared.object_rules.Standing.TheVariants as standing
use Rattle.lists.specs.ObjectRules.{rank_of, key_of, keys_may_follow, may_follow}
use Rattle.lists.specs.Shape.{out_of_order, word_rows, avs_matches, avs_differs, avs_rows}
use Rattle.lists.specs.Reading.{object_of}
use Rattle.lists.specs.Judging.{standing_of}
use Rattle.lists.specs.Scanning.{OnlyAvs}
use Rattle.lists.proofs.Orders.{rank_at, rank_in}
use Rattle.lists.proofs.Judging.{Before}

-- ---- one object after another

no_second : (o : Object) (low high : ℕ) → rank_of o ≡ 3 → keys_may_follow o low high ≡ true → ⊥
no_second (Fixed f p v a) low high r e = omega arith
no_second (Battery x m p) low high r e = omega arith
no_second (Variable x m a) low high r e = omega arith
no_second (Pps l x m a) low high r e = omega arith
no_second (Avs p l h) low high r e = let z : false ≡ true = e in let q : ◌≡◌ {A = ℕ} 0 1 = cc in omega arith

rises : (before o : Object) → may_follow before o ≡ true → (rank_of before ≤ rank_of o) × (rank_of o ≡ 3 → rank_of before < 3)
unfolding may_follow
rises before o e = go (ltb (rank_of before) (rank_of o)) refl e where
  keys : Bool
  keys = keys_may_follow o (key_of before) (key_of o)

  go : (b : Bool) → ltb (rank_of before) (rank_of o) ≡ b → (b || (eqb (rank_of before) (rank_of o) && keys)) ≡ true
      → (rank_of before ≤ rank_of o) × (rank_of o ≡ 3 → rank_of before < 3)
  go true q f = let l = ltb-true (rank_of before) (rank_of o) q in (omega (arith, l), λ r. omega (arith, l, r))
  go false q f =
      let both = (and-eq-true_iff (eqb (rank_of before) (rank_of o)) keys).0 f in
      let l = eqb-true (rank_of before) (rank_of o) both.0 in
      (omega (arith, l), λ r. absurd (no_second o (key_of before) (key_of o) r both.1))

-- AVS alone has its rank
rank_3 : (s : Standing) → rank_at s ≡ 3 → s ≡ standing.Avs
rank_3 (standing.Fixed v) r = absurd (omega (arith, r))
rank_3 (standing.Battery m) r = absurd (omega (arith, r))
rank_3 (standing.Variable m) r = absurd (omega (arith, r))
rank_3 standing.Avs r = refl
rank_3 (standing.Pps x) r = absurd (omega (arith, r))

-- ---- the words so far

-- no AVS word but the one at this place, and none at all while the ranks are lower
pub record Alone (side : Side) (ws : List ℕ) (i earlier place : ℕ) : Type 0 where
  pub only : OnlyAvs side ws i place
  pub lower : earlier < 3 → place ≡ 0

pub none_seen : (side : Side) (ws : List ℕ) (earlier : ℕ) → Alone side ws 0 earlier 0
none_seen side ws earlier = record {
  only = record { short = omega arith; within = omega arith; others = λ k h f r. omega arith };
  lower = λ h. refl;
}

module _ (side : Side) (ws : List ℕ) (i place : ℕ) (s : Standing) (a : Alone side ws i (rank_at s) place) (b : Before side ws i s)
    (below : i < 7) (x : NoneApply (word_rows side ws i)) (o : Object) (d : decode_for side (get_or ws i 0) ≡ Some o) where
  -- past the first word, the ranks do not fall
  follows : 0 < i → may_follow b.object o ≡ true
  follows h =
      not-false (may_follow b.object o)
      (sym (ap (λ (t : Bool). out_of_order t (decode_for side (get_or ws (i - 1) 0)) (decode_for side (get_or ws i 0))) (ne_eqb i 0 (λ e. omega arith))
      ∙ ap₂ (out_of_order false) (b.decoded h) d)
      ∙ x.1.1.1.1.0)

  rank_before : rank_at s ≡ rank_of b.object
  rank_before = sym (rank_in b.object ∙ ap rank_at b.stands)

  none_before : (0 < i → rank_at s < 3) → place ≡ 0
  none_before f = ⊎_elim (λ e. omega (arith, a.only.within, e)) (λ l. a.lower (f l)) (let h : 0 ≤ i = omega arith in eq-or-lt_of_le h)

  module _ {t : Standing} (e : t ≡ standing_of o) where
    rank_now : rank_of o ≡ rank_at t
    rank_now = rank_in o ∙ ap rank_at (sym e)

    pub one_avs : t ≡ standing.Avs → Alone side ws (i + 1) (rank_at t) (i + 1)
    one_avs q =
        let r : rank_of o ≡ 3 = rank_now ∙ ap rank_at q in
        let z = none_before (λ h. omega (arith, rank_before, (rises b.object o (follows h)).1 r)) in record {
          only = record {
            short = omega arith;
            within = omega arith;
            others = λ k h f. a.only.others k (omega arith) (λ u. omega (arith, u, z));
          };
          lower = λ h. absurd (omega (arith, ap rank_at q, h));
        }

    pub one_other : (t ≡ standing.Avs → ⊥) → Alone side ws (i + 1) (rank_at t) place
    one_other f = record {
      only = record {
        short = omega arith;
        within = omega (arith, a.only.within);
        others = λ k h g r. ⊎_elim
            (λ u. f (rank_3 t (sym rank_now ∙ sym (ap (λ (y : Option Object). rank_of (object_of y)) (ap (λ (j : ℕ). decode_for side (get_or ws j 0)) u ∙ d)) ∙ r)))
            (λ l. a.only.others k l g r) (let l : k ≤ i = omega arith in eq-or-lt_of_le l);
      };
      lower = λ h. none_before (λ l. omega (arith, h, rank_now, rank_before, (rises b.object o (follows l)).0));
    }

-- ---- what is no AVS word has no row of 17

pub not_ranked : (asked : Ma10 → Ma10 → Bool) (d : Option Object) → (rank_of (object_of d) ≡ 3 → ⊥) → of_object (of_avs asked) d ≡ false
not_ranked asked (Some (Fixed f p v a)) g = refl
not_ranked asked (Some (Battery x m p)) g = refl
not_ranked asked (Some (Variable x m a)) g = refl
not_ranked asked (Some (Pps l x m a)) g = refl
not_ranked asked (Some (Avs p l h)) g = absurd (g refl)
not_ranked asked None g = refl

module _ (ws : List ℕ) (n place : ℕ) (o : OnlyAvs Source ws n place) where
  elsewhere : (k : ℕ) → k < n → (k + 1 ≡ place → ⊥) → NoneApply (avs_rows ws n k)
  unfolding avs_differs
  elsewhere k h f = (not_ranked (λ low high. not (avs_matches ws n low high)) (decode_of (get_or ws k 0)) (o.others k h f), tt)

pub no_avs_word : (ws : List ℕ) (n : ℕ) → OnlyAvs Source ws n 0 → Ok tt ≡ passed_by (each_place (avs_rows ws n) n)
no_avs_word ws n o = sym (all_missed err (Ok tt) _ (none_all (avs_rows ws n) n (λ k h. elsewhere ws n 0 o k h (λ e. omega (arith, e)))))

module _ (ws : List ℕ) (n i : ℕ) (o : OnlyAvs Source ws n (i + 1)) where
  pub avs_word_differs : of_object (avs_differs ws n) (decode_of (get_or ws i 0)) ≡ true
      → Err (verdict 17 (i + 1)) ≡ passed_by (each_place (avs_rows ws n) n)
  avs_word_differs e =
      sym (decided (avs_rows ws n) err i n (Err (verdict 17 (i + 1))) (omega (arith, o.within))
      (none_all (avs_rows ws n) i (λ k h. elsewhere ws n (i + 1) o k (omega (arith, o.within)) (λ q. omega (arith, q))))
      (λ (x : Result (Unit {0}) Verdict). hit err x 17 (i + 1) [] e) (Ok tt))

  pub avs_word_matches : of_object (avs_differs ws n) (decode_of (get_or ws i 0)) ≡ false
      → Ok tt ≡ passed_by (each_place (avs_rows ws n) n)
  avs_word_matches f = sym (all_missed err (Ok tt) _ (none_all (avs_rows ws n) n (λ k h. go k h (eqb (k + 1) (i + 1)) refl))) where
    go : (k : ℕ) → k < n → (b : Bool) → eqb (k + 1) (i + 1) ≡ b → NoneApply (avs_rows ws n k)
    go k h true q =
        let e : k ≡ i = omega (arith, eqb-true (k + 1) (i + 1) q) in
        (ap (λ (j : ℕ). of_object (avs_differs ws n) (decode_of (get_or ws j 0))) e ∙ f, tt)
    go k h false q = elsewhere ws n (i + 1) o k h (eqb-false (k + 1) (i + 1) q)
