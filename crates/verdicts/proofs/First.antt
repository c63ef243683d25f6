-- Laws of the first refusal, over any table of rows: what a verdict says of the rows, and what the rows say of the verdict.
-- Assumes nothing.
use mathlib.Core.Path.{◌≡◌, refl, sym, ap, ap₂, ◌∙◌, subst}
use mathlib.Core.Bool.{Bool, true, false, not, ◌&&◌, and-eq-true_iff, true≢false}
use mathlib.Core.List.{List, [], ◌∷◌, ◌++◌}
use mathlib.Core.Logic.{◌↔◌, ⊎_elim}
use Prim.Native.Nat.{ℕ, zero, suc, ◌+◌, ◌<◌}
use native.Mathlib.Nat.{eq-or-lt_of_le, le_of_suc-le-suc, lt-suc_self}
use native.Mathlib.Numerals.{add-one}
use native.Mathlib.Omega.{arith}
use borrow.Author.Tests.{eq-eqb}
use lib.Dec.{ltb, eqb}
use Rattle.verdicts.specs.declared.Verdict.{Verdict}
use Rattle.verdicts.specs.Refusals.{Refusal, refusal, each_place, first_of, verdict, success, verdict_of, NoneApply, First}

-- ---- one row

module _ {A : Type 0} (refused : ℕ → ℕ → A) (answer : A) where
  pub hit : {b : Bool} (n p : ℕ) (rs : List Refusal) → b ≡ true → first_of refused (refusal b n p ∷ rs) answer ≡ refused n p
  unfolding first_of
  hit n p rs e = rw e

  pub miss : {b : Bool} (n p : ℕ) (rs : List Refusal) → b ≡ false → first_of refused (refusal b n p ∷ rs) answer ≡ first_of refused rs answer
  unfolding first_of
  miss n p rs e = rw e

  -- one table after another
  pub onward : (xs ys : List Refusal) → first_of refused (xs ++ ys) answer ≡ first_of refused xs (first_of refused ys answer)
  unfolding first_of
  onward [] ys = refl
  onward (refusal true n p ∷ xs) ys = refl
  onward (refusal false n p ∷ xs) ys = onward xs ys

  -- a last row that does not apply changes nothing
  pub without_last : (rs : List Refusal) (n p : ℕ) → first_of refused rs answer ≡ first_of refused (rs ++ (refusal false n p ∷ [])) answer
  unfolding first_of
  without_last rs n p = sym (onward rs (refusal false n p ∷ []))

-- a part of the answer is a first refusal too
pub onto : {A B : Type 0} (part : A → B) (refused : ℕ → ℕ → A) (rs : List Refusal) (answer : A)
    → part (first_of refused rs answer) ≡ first_of (λ n p. part (refused n p)) rs (part answer)
unfolding first_of
onto part refused [] answer = refl
onto part refused (refusal true n p ∷ rs) answer = refl
onto part refused (refusal false n p ∷ rs) answer = onto part refused rs answer

-- what holds of each refusal and of the answer holds of the first of them
pub by_first : {A : Type 0} (P : A → Type 0) (refused : ℕ → ℕ → A) (rs : List Refusal) (answer : A) → ((n p : ℕ) → P (refused n p)) → P answer
    → P (first_of refused rs answer)
unfolding first_of
by_first P refused [] answer r a = a
by_first P refused (refusal true n p ∷ rs) answer r a = r n p
by_first P refused (refusal false n p ∷ rs) answer r a = by_first P refused rs answer r a

-- ---- no row applies

pub none_append : (xs ys : List Refusal) → NoneApply xs → NoneApply ys → NoneApply (xs ++ ys)
none_append [] ys x y = y
none_append (refusal b n p ∷ xs) ys x y = (x.0, none_append xs ys x.1 y)

pub none_left : (xs ys : List Refusal) → NoneApply (xs ++ ys) → NoneApply xs
none_left [] ys x = tt
none_left (refusal b n p ∷ xs) ys x = (x.0, none_left xs ys x.1)

pub none_right : (xs ys : List Refusal) → NoneApply (xs ++ ys) → NoneApply ys
none_right [] ys x = x
none_right (refusal b n p ∷ xs) ys x = none_right xs ys x.1

pub all_missed : {A : Type 0} (refused : ℕ → ℕ → A) (answer : A) (rs : List Refusal) → NoneApply rs → first_of refused rs answer ≡ answer
unfolding first_of
all_missed refused answer [] x = refl
all_missed refused answer (refusal b n p ∷ rs) x = rw x.0 (all_missed refused answer rs x.1)

-- ---- place by place

module _ (rows : ℕ → List Refusal) where
  pub none_yet : NoneApply (each_place rows 0)
  unfolding each_place
  none_yet = tt

  -- one place more
  pub none_more : (k : ℕ) → NoneApply (each_place rows k) → NoneApply (rows k) → NoneApply (each_place rows (k + 1))
  unfolding each_place
  none_more k x y = rw (add-one k) (none_append (each_place rows k) (rows k) x y)

  -- the rows of a place that is passed do not apply
  pub none_at : (n k : ℕ) → NoneApply (each_place rows n) → k < n → NoneApply (rows k)
  unfolding each_place
  none_at zero k x h = absurd (omega arith)
  none_at (suc n) k x h = ⊎_elim
      (λ e. subst (λ (j : ℕ). NoneApply (rows j)) (sym e) (none_right (each_place rows n) (rows n) x))
      (λ l. none_at n k (none_left (each_place rows n) (rows n) x) l) (eq-or-lt_of_le (le_of_suc-le-suc h))

  -- where each place's rows do not apply, none does
  pub none_all : (n : ℕ) → ((k : ℕ) → k < n → NoneApply (rows k)) → NoneApply (each_place rows n)
  unfolding each_place
  none_all zero f = tt
  none_all (suc n) f = none_append (each_place rows n) (rows n) (none_all n (λ k h. f k (omega arith))) (f n (lt-suc_self n))

  -- the first place with a row that applies decides, whatever comes after it
  pub decided : {A : Type 0} (refused : ℕ → ℕ → A) (k n : ℕ) (a : A) → k < n → NoneApply (each_place rows k)
      → ((x : A) → first_of refused (rows k) x ≡ a) → (x : A) → first_of refused (each_place rows n) x ≡ a
  unfolding each_place
  decided refused k zero a h clear e x = absurd (omega arith)
  decided refused k (suc n) a h clear e x = onward refused x (each_place rows n) (rows n) ∙ ⊎_elim
      (λ q. all_missed refused _ (each_place rows n) (subst (λ (j : ℕ). NoneApply (each_place rows j)) q clear)
      ∙ ap (λ (j : ℕ). first_of refused (rows j) x) (sym q) ∙ e x)
      (λ l. decided refused k n a l clear e (first_of refused (rows n) x)) (eq-or-lt_of_le (le_of_suc-le-suc h))

-- tables that agree place by place are the same
pub same_places : (f g : ℕ → List Refusal) (n : ℕ) → ((k : ℕ) → k < n → f k ≡ g k) → each_place f n ≡ each_place g n
unfolding each_place
same_places f g zero e = refl
same_places f g (suc n) e = ap₂ ◌++◌ (same_places f g n (λ k h. e k (omega arith))) (e n (lt-suc_self n))

-- ---- the numbers of a table

-- every number passes a test
abbrev pub all_pass : (ℕ → Bool) → List Refusal → Bool
all_pass test [] = true
all_pass test (refusal b n p ∷ rs) = test n && all_pass test rs

module _ (test : ℕ → Bool) where
  pub pass_append : (xs ys : List Refusal) → all_pass test xs ≡ true → all_pass test ys ≡ true → all_pass test (xs ++ ys) ≡ true
  pass_append [] ys s t = t
  pass_append (refusal b n p ∷ xs) ys s t =
      let h = (and-eq-true_iff (test n) (all_pass test xs)).0 s in
      (and-eq-true_iff (test n) (all_pass test (xs ++ ys))).1 (h.0, pass_append xs ys h.1 t)

  pub pass_places : (rows : ℕ → List Refusal) → ((k : ℕ) → all_pass test (rows k) ≡ true) → (n : ℕ) → all_pass test (each_place rows n) ≡ true
  unfolding each_place
  pass_places rows f zero = refl
  pass_places rows f (suc n) = pass_append (each_place rows n) (rows n) (pass_places rows f n) (f n)

  pub number_passes : (rs : List Refusal) → all_pass test rs ≡ true → ((verdict_of rs).number ≡ 0 → ⊥) → test (verdict_of rs).number ≡ true
  unfolding first_of
  number_passes [] t f = absurd (f refl)
  number_passes (refusal true n p ∷ rs) t f = ((and-eq-true_iff (test n) (all_pass test rs)).0 t).0
  number_passes (refusal false n p ∷ rs) t f = number_passes rs ((and-eq-true_iff (test n) (all_pass test rs)).0 t).1 f

-- 0 is success and no refusal, and 21 is withdrawn
abbrev pub is_number : ℕ → Bool
is_number n = ltb 0 n && not (eqb n 21)

abbrev pub numbered : List Refusal → Bool
numbered rs = all_pass is_number rs

-- of a row with the number n, and of those after it
module _ (n : ℕ) (rs : List Refusal) (t : (is_number n && numbered rs) ≡ true) where
  pub number_not_0 : n ≡ 0 → ⊥
  number_not_0 z = true≢false (sym ((and-eq-true_iff (is_number n) (numbered rs)).0 t).0 ∙ ap is_number z)

  pub numbered_rest : numbered rs ≡ true
  numbered_rest = ((and-eq-true_iff (is_number n) (numbered rs)).0 t).1

pub numbered_append : (xs ys : List Refusal) → numbered xs ≡ true → numbered ys ≡ true → numbered (xs ++ ys) ≡ true
numbered_append xs ys s t = pass_append is_number xs ys s t

pub numbered_places : (rows : ℕ → List Refusal) → ((k : ℕ) → numbered (rows k) ≡ true) → (n : ℕ) → numbered (each_place rows n) ≡ true
numbered_places rows f n = pass_places is_number rows f n

-- ---- no row that applies has the number m: a row may have its number from an answer that was given before

abbrev pub Without : ℕ → List Refusal → Type 0
Without m [] = Unit {0}
Without m (refusal b n p ∷ rs) = (n ≡ m → b ≡ false) × Without m rs

module _ (m : ℕ) where
  pub without_append : (xs ys : List Refusal) → Without m xs → Without m ys → Without m (xs ++ ys)
  without_append [] ys x y = y
  without_append (refusal b n p ∷ xs) ys x y = (x.0, without_append xs ys x.1 y)

  pub without_right : (xs ys : List Refusal) → Without m (xs ++ ys) → Without m ys
  without_right [] ys x = x
  without_right (refusal b n p ∷ xs) ys x = without_right xs ys x.1

  -- what is the number of no refusal is the number of no row
  pub without_numbered : is_number m ≡ false → (rs : List Refusal) → numbered rs ≡ true → Without m rs
  without_numbered out [] t = tt
  without_numbered out (refusal b n p ∷ rs) t =
      let h = (and-eq-true_iff (is_number n) (numbered rs)).0 t in
      ((λ e. absurd (true≢false (sym h.0 ∙ ap is_number e ∙ out))), without_numbered out rs h.1)

  -- and it is not given
  pub not_first : (p : ℕ) (rs : List Refusal) → Without m rs → First rs m p → ⊥
  not_first p rs x f =
      let y = subst (Without m) f.stands x in
      true≢false ((without_right f.before (refusal true m p ∷ f.after) y).0 refl)

-- every row that applies has a number
abbrev pub Telling : List Refusal → Type 0
Telling rs = Without 0 rs

pub telling_append : (xs ys : List Refusal) → Telling xs → Telling ys → Telling (xs ++ ys)
telling_append xs ys x y = without_append 0 xs ys x y

pub telling_numbered : (rs : List Refusal) → numbered rs ≡ true → Telling rs
telling_numbered rs t = without_numbered 0 refl rs t

-- the row of a verdict that was given before applies where that was a refusal
pub telling_given : (v : Verdict) → Telling (refusal (not (eqb v.number 0)) v.number v.place ∷ [])
telling_given v = ((λ z. ap not (eq-eqb v.number 0 z)), tt)

-- a verdict with the number 0 says that no row applies
pub none_told : (rs : List Refusal) → Telling rs → (verdict_of rs).number ≡ 0 → NoneApply rs
unfolding first_of
none_told [] t e = tt
none_told (refusal true n p ∷ rs) t e = absurd (true≢false (t.0 e))
none_told (refusal false n p ∷ rs) t e = (refl, none_told rs t.1 e)

pub none_applied : (rs : List Refusal) → numbered rs ≡ true → (verdict_of rs).number ≡ 0 → NoneApply rs
none_applied rs t e = none_told rs (telling_numbered rs t) e

pub passes_told : (rs : List Refusal) → Telling rs → (verdict_of rs).number ≡ 0 → verdict_of rs ≡ success
passes_told rs t e = all_missed verdict success rs (none_told rs t e)

pub passes : (rs : List Refusal) → numbered rs ≡ true → (verdict_of rs).number ≡ 0 → verdict_of rs ≡ success
passes rs t e = passes_told rs (telling_numbered rs t) e

-- any other verdict is a row's, and decides every answer over these rows
pub refused_so : {A : Type 0} (refused : ℕ → ℕ → A) (rs : List Refusal) → ((verdict_of rs).number ≡ 0 → ⊥)
    → (x : A) → first_of refused rs x ≡ refused (verdict_of rs).number (verdict_of rs).place
unfolding first_of
refused_so refused [] f x = absurd (f refl)
refused_so refused (refusal true n p ∷ rs) f x = refl
refused_so refused (refusal false n p ∷ rs) f x = refused_so refused rs f x

-- ---- one table after another, judged in turn

module _ {A : Type 0} (refused : ℕ → ℕ → A) (xs ys : List Refusal) (answer : A) where
  -- a refusal of the first decides
  pub stops : ((verdict_of xs).number ≡ 0 → ⊥) → first_of refused (xs ++ ys) answer ≡ refused (verdict_of xs).number (verdict_of xs).place
  stops f = onward refused answer xs ys ∙ refused_so refused xs f (first_of refused ys answer)

  -- else the second does
  pub goes_on_lem : numbered xs ≡ true → (verdict_of xs).number ≡ 0 → first_of refused (xs ++ ys) answer ≡ first_of refused ys answer
  goes_on_lem t e = onward refused answer xs ys ∙ all_missed refused (first_of refused ys answer) xs (none_applied xs t e)

-- ---- the first refusal theorem (demand 1)

pub given_of_first : {A : Type 0} (refused : ℕ → ℕ → A) (rs : List Refusal) (n p : ℕ) → First rs n p → (x : A) → first_of refused rs x ≡ refused n p
given_of_first refused rs n p f x =
    ap (λ (l : List Refusal). first_of refused l x) f.stands
    ∙ onward refused x f.before (refusal true n p ∷ f.after)
    ∙ all_missed refused _ f.before f.clear
    ∙ hit refused x n p f.after refl

pub first_of_refusal : (rs : List Refusal) → ((verdict_of rs).number ≡ 0 → ⊥) → First rs (verdict_of rs).number (verdict_of rs).place
unfolding first_of
first_of_refusal [] f = absurd (f refl)
first_of_refusal (refusal true n p ∷ rs) f = record { before = []; after = rs; stands = refl; clear = tt }
first_of_refusal (refusal false n p ∷ rs) f =
    let r = first_of_refusal rs f in record {
      before = refusal false n p ∷ r.before;
      after = r.after;
      stands = ap (λ (l : List Refusal). refusal false n p ∷ l) r.stands;
      clear = (refl, r.clear);
    }

-- success exactly when no refusal applies, and number n at its place exactly when that refusal applies and no earlier one does
pub record Exactly (rs : List Refusal) : Type 0 where
  pub succeeds : verdict_of rs ≡ success ↔ NoneApply rs
  pub refuses : (n p : ℕ) → (n ≡ 0 → ⊥) → verdict_of rs ≡ verdict n p ↔ First rs n p

pub exactly_told : (rs : List Refusal) → Telling rs → Exactly rs
exactly_told rs t = record {
  succeeds = ((λ e. none_told rs t (ap (λ (v : Verdict). v.number) e)), (λ x. all_missed verdict success rs x));
  refuses = λ n p f. (
    (λ e.
        let en = ap (λ (v : Verdict). v.number) e in
        let ep = ap (λ (v : Verdict). v.place) e in
        subst (λ (k : ℕ). First rs k p) en
        (subst (λ (k : ℕ). First rs (verdict_of rs).number k) ep (first_of_refusal rs (λ z. f (sym en ∙ z))))),
    (λ g. given_of_first verdict rs n p g success),
  );
}

pub exactly : (rs : List Refusal) → numbered rs ≡ true → Exactly rs
exactly rs t = exactly_told rs (telling_numbered rs t)

-- ---- an answer that has its verdict in it

module _ {A : Type 0} (said : A → Verdict) (refused : ℕ → ℕ → A) (tells : (n p : ℕ) → said (refused n p) ≡ verdict n p) where
  -- the verdict is that of the table
  pub said_first : (rs : List Refusal) (answer : A) → said answer ≡ success → said (first_of refused rs answer) ≡ verdict_of rs
  unfolding first_of
  said_first [] answer e = e
  said_first (refusal true n p ∷ rs) answer e = tells n p
  said_first (refusal false n p ∷ rs) answer e = said_first rs answer e
