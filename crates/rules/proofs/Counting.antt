-- How many objects of a list are so: none, one, and where.
-- Assumes nothing.
use Rattle.std.specs.Prelude.{Option, Some, None}
use mathlib.Core.Path.{◌≡◌, refl, sym, ap, ap₂, ◌∙◌}
use mathlib.Core.Bool.{Bool, true, false, cond, ◌&&◌, ◌||◌, and-eq-true_iff}
use mathlib.Core.List.{List}
use mathlib.Core.Logic.{⊎_elim}
use Prim.Native.Nat.{ℕ, zero, suc, ◌+◌, ◌≤◌, ◌<◌}
use native.Mathlib.Nat.{eq-or-lt_of_le, le_of_suc-le-suc, lt-suc_self}
use native.Mathlib.Omega.{arith}
use lib.ListN.{get_or}
use borrow.Author.Tests.{eqb-true, eq-eqb}
use Rattle.verdicts.proofs.Bools.{either_false}
use Rattle.objects.specs.declared.Object.{Object}
use Rattle.objects.specs.Asking.{of_object}
use Rattle.objects.specs.Decode.{decode_of}
use Rattle.lists.specs.declared.Words.{Words}
use Rattle.rules.specs.Sets.{how_many, none}
use Rattle.rules.proofs.Tests.{same_test}

-- what is asked, of the word at a place
abbrev pub asks_at : (Object → Bool) → List ℕ → ℕ → Bool
asks_at asked ws k = of_object asked (decode_of (get_or ws k 0))

module _ (asked : Object → Bool) (ws : List ℕ) where
  -- a word among the first n that is so
  pub record Found (n : ℕ) : Type 0 where
    pub at : ℕ
    pub below : at < n
    pub so : asks_at asked ws at ≡ true

  -- ---- one word more

  pub not_counted : (n : ℕ) → asks_at asked ws n ≡ false → how_many asked ws (suc n) ≡ how_many asked ws n
  unfolding how_many
  not_counted n e = rw e (omega arith)

  pub counted : (n : ℕ) → asks_at asked ws n ≡ true → how_many asked ws (suc n) ≡ how_many asked ws n + 1
  unfolding how_many
  counted n e = ap (λ (b : Bool). how_many asked ws n + cond b 1 0) e

  grows : (n : ℕ) → how_many asked ws n ≤ how_many asked ws (suc n)
  unfolding how_many
  grows n = omega arith

  -- ---- none

  none_counted : (n : ℕ) → ((k : ℕ) → k < n → asks_at asked ws k ≡ false) → how_many asked ws n ≡ 0
  unfolding how_many
  none_counted zero f = refl
  none_counted (suc n) f = ap₂ (λ (c : ℕ) (b : Bool). c + cond b 1 0) (none_counted n (λ k h. f k (omega arith))) (f n (lt-suc_self n))

  at_least_one : (n k : ℕ) → k < n → asks_at asked ws k ≡ true → 1 ≤ how_many asked ws n
  at_least_one zero k h e = absurd (omega arith)
  at_least_one (suc n) k h e = ⊎_elim
      (λ q. omega (arith, counted n (ap (asks_at asked ws) (sym q) ∙ e)))
      (λ l. omega (arith, at_least_one n k l e, grows n)) (eq-or-lt_of_le (le_of_suc-le-suc h))

  pub nowhere : (n : ℕ) → how_many asked ws n ≡ 0 → (k : ℕ) → k < n → asks_at asked ws k ≡ false
  nowhere n z k h = go (asks_at asked ws k) refl where
    go : (b : Bool) → asks_at asked ws k ≡ b → asks_at asked ws k ≡ false
    go true e = absurd (omega (arith, at_least_one n k h e))
    go false e = e

  -- ---- one

  pub somewhere : (n : ℕ) → 1 ≤ how_many asked ws n → Found n
  unfolding how_many
  somewhere zero h = absurd (omega arith)
  somewhere (suc n) h = go (λ l. somewhere n l) (asks_at asked ws n) refl where
    go : (1 ≤ how_many asked ws n → Found n) → (b : Bool) → asks_at asked ws n ≡ b → Found (suc n)
    go before true e = record { at = n; below = lt-suc_self n; so = e }
    go before false e =
        let r = before (omega (arith, not_counted n e)) in
        record { at = r.at; below = omega (arith, r.below); so = r.so }

  pub once : (n i : ℕ) → i < n → asks_at asked ws i ≡ true → ((k : ℕ) → k < n → (k ≡ i → ⊥) → asks_at asked ws k ≡ false)
      → how_many asked ws n ≡ 1
  once zero i h e f = absurd (omega arith)
  once (suc n) i h e f = ⊎_elim
      (λ q. counted n (ap (asks_at asked ws) (sym q) ∙ e) ∙ ap (λ (c : ℕ). c + 1) (none_counted n (λ k l. f k (omega arith) (λ z. omega arith))))
      (λ l. not_counted n (f n (lt-suc_self n) (λ z. omega arith)) ∙ once n i l e (λ k m. f k (omega arith))) (eq-or-lt_of_le (le_of_suc-le-suc h))

-- ---- none in the whole list

pub none_at : (asked : Object → Bool) (l : Words) → none asked l ≡ true → (k : ℕ) → k < l.count → asks_at asked l.words k ≡ false
none_at asked l t k h = nowhere asked l.words l.count (eqb-true _ 0 t) k h

pub none_all : (asked : Object → Bool) (l : Words) → ((k : ℕ) → k < l.count → asks_at asked l.words k ≡ false) → none asked l ≡ true
none_all asked l f = eq-eqb _ 0 (none_counted asked l.words l.count f)

module _ (a b : Object → Bool) (l : Words) where
  -- what is the same of each object counts the same
  pub none_same : ((o : Object) → a o ≡ b o) → none a l ≡ none b l
  none_same f = same_test _ _
      (λ t. none_all b l (λ k h. sym (same (decode_of (get_or l.words k 0))) ∙ none_at a l t k h))
      (λ t. none_all a l (λ k h. same (decode_of (get_or l.words k 0)) ∙ none_at b l t k h))
    where
      same : (d : Option Object) → of_object a d ≡ of_object b d
      same (Some o) = f o
      same None = refl

  -- none is either, so none is the one and none is the other
  pub none_either : none (λ o. a o || b o) l ≡ (none a l && none b l)
  none_either = same_test _ _
      (λ t. (and-eq-true_iff (none a l) (none b l)).1 (none_all a l (λ k h. (neither k h t).0), none_all b l (λ k h. (neither k h t).1)))
      (λ t.
      let r = (and-eq-true_iff (none a l) (none b l)).0 t in
      none_all (λ o. a o || b o) l (λ k h. either (decode_of (get_or l.words k 0)) ∙ ap₂ ◌||◌ (none_at a l r.0 k h) (none_at b l r.1 k h)))
    where
      either : (d : Option Object) → of_object (λ o. a o || b o) d ≡ (of_object a d || of_object b d)
      either (Some o) = refl
      either None = refl

      neither : (k : ℕ) → k < l.count → none (λ o. a o || b o) l ≡ true → (asks_at a l.words k ≡ false) × (asks_at b l.words k ≡ false)
      neither k h t = either_false _ _ (sym (either (decode_of (get_or l.words k 0))) ∙ none_at (λ o. a o || b o) l t k h)
