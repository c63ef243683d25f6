-- What is said of each slot of a list, and of one of them, by its place: every slot once, one that fits, and words that all fit.
-- Assumes nothing.
use Rattle.std.specs.Prelude.{Option, Some, None}
use mathlib.Core.Path.{◌≡◌, refl, sym, ap, ap₂, ◌∙◌}
use mathlib.Core.Bool.{Bool, true, false, not, ◌&&◌, ◌||◌, and-eq-true_iff, and_assoc, or_assoc, or-true, true≢false, false≢true}
use mathlib.Core.List.{List, [], ◌∷◌, ◌++◌}
use mathlib.Core.Logic.{⊎_elim}
use Prim.Native.Nat.{ℕ, zero, suc, ◌≤◌, ◌<◌}
use native.Mathlib.Nat.{eq-or-lt_of_le, le_of_suc-le-suc, lt-suc_self}
use native.Mathlib.Omega.{arith}
use lib.Dec.{eqb}
use lib.ListN.{length, get_or, get_or-append}
use borrow.Author.Tests.{eqb-true, eq-eqb, not-false}
use Rattle.objects.specs.declared.Object.{Object}
use Rattle.objects.specs.Asking.{of_object}
use Rattle.objects.specs.Decode.{decode_of, decoded_number}
use Rattle.lists.specs.declared.Words.{Words}
use Rattle.rules.specs.Tables.{Slot, Nothing}
use Rattle.rules.specs.Sets.{fits, fits_one, how_many, one, each_once}
use Rattle.rules.specs.Following.{all_fit}
use Rattle.rules.proofs.Matching.{Slotted}

-- ---- each slot once

pub once_at : (ss : List Slot) (l : Words) → each_once ss l ≡ true → (i : ℕ) → i < length ss
    → how_many (fits (get_or ss i Nothing)) l.words l.count ≡ 1
once_at [] l t i h = absurd (omega arith)
once_at (s ∷ ss) l t zero h = eqb-true _ 1 ((and-eq-true_iff (one (fits s) l) (each_once ss l)).0 t).0
once_at (s ∷ ss) l t (suc i) h = once_at ss l ((and-eq-true_iff (one (fits s) l) (each_once ss l)).0 t).1 i (omega arith)

pub once_all : (ss : List Slot) (l : Words) → ((i : ℕ) → i < length ss → how_many (fits (get_or ss i Nothing)) l.words l.count ≡ 1)
    → each_once ss l ≡ true
once_all [] l f = refl
once_all (s ∷ ss) l f =
    (and-eq-true_iff (one (fits s) l) (each_once ss l)).1 (eq-eqb _ 1 (f 0 (omega arith)), once_all ss l (λ i h. f (suc i) (omega arith)))

pub once_append : (ss ts : List Slot) (l : Words) → each_once (ss ++ ts) l ≡ (each_once ss l && each_once ts l)
once_append [] ts l = refl
once_append (s ∷ ss) ts l = ap (λ (b : Bool). one (fits s) l && b) (once_append ss ts l) ∙ sym (and_assoc (one (fits s) l) (each_once ss l) (each_once ts l))

-- ---- one slot that fits

-- what the slot at a place asks for
abbrev pub asked : List Slot → ℕ → Object → Bool
asked ss i = fits (get_or ss i Nothing)

fitted_object : (ss : List Slot) (o : Object) → fits_one ss o ≡ true → Slotted (asked ss) (length ss) (Some o)
fitted_object [] o t = absurd (false≢true t)
fitted_object (s ∷ ss) o t = go (λ u. fitted_object ss o u) (fits s o) refl t where
  go : (fits_one ss o ≡ true → Slotted (asked ss) (length ss) (Some o)) → (b : Bool) → fits s o ≡ b → (b || fits_one ss o) ≡ true
      → Slotted (asked (s ∷ ss)) (length (s ∷ ss)) (Some o)
  go later true e u = record { at = 0; below = omega arith; so = e }
  go later false e u = let r = later u in record { at = suc r.at; below = omega (arith, r.below); so = r.so }

-- fits none of these
abbrev pub stray : List Slot → Object → Bool
stray ss o = not (fits_one ss o)

pub fitted : (ss : List Slot) (d : Option Object) → eqb (decoded_number d) 12 ≡ false → of_object (stray ss) d ≡ false → Slotted (asked ss) (length ss) d
fitted ss (Some o) known t = fitted_object ss o (not-false _ t)
fitted ss None known t = absurd (true≢false known)

fits_one_lem : (ss : List Slot) (o : Object) (i : ℕ) → i < length ss → fits (get_or ss i Nothing) o ≡ true → fits_one ss o ≡ true
fits_one_lem [] o i h e = absurd (omega arith)
fits_one_lem (s ∷ ss) o zero h e = ap (λ (b : Bool). b || fits_one ss o) e
fits_one_lem (s ∷ ss) o (suc i) h e = ap (λ (b : Bool). fits s o || b) (fits_one_lem ss o i (omega arith) e) ∙ or-true (fits s o)

pub not_stray : (ss : List Slot) (d : Option Object) (i : ℕ) → i < length ss → of_object (fits (get_or ss i Nothing)) d ≡ true → of_object (stray ss) d ≡ false
not_stray ss (Some o) i h e = ap not (fits_one_lem ss o i h e)
not_stray ss None i h e = refl

pub fits_append : (ss ts : List Slot) (o : Object) → fits_one (ss ++ ts) o ≡ (fits_one ss o || fits_one ts o)
fits_append [] ts o = refl
fits_append (s ∷ ss) ts o = ap (λ (b : Bool). fits s o || b) (fits_append ss ts o) ∙ sym (or_assoc (fits s o) (fits_one ss o) (fits_one ts o))

-- ---- each word at its slot

module _ (ss : List Slot) (ws : List ℕ) where
  pub fit_at : (n : ℕ) → all_fit ss ws n ≡ true → (k : ℕ) → k < n → of_object (fits (get_or ss k Nothing)) (decode_of (get_or ws k 0)) ≡ true
  unfolding all_fit
  fit_at zero t k h = absurd (omega arith)
  fit_at (suc n) t k h =
      let r = (and-eq-true_iff (all_fit ss ws n) (of_object (fits (get_or ss n Nothing)) (decode_of (get_or ws n 0)))).0 t in ⊎_elim
      (λ e. ap (λ (j : ℕ). of_object (fits (get_or ss j Nothing)) (decode_of (get_or ws j 0))) e ∙ r.1)
      (λ l. fit_at n r.0 k l) (eq-or-lt_of_le (le_of_suc-le-suc h))

  pub fit_all : (n : ℕ) → ((k : ℕ) → k < n → of_object (fits (get_or ss k Nothing)) (decode_of (get_or ws k 0)) ≡ true) → all_fit ss ws n ≡ true
  unfolding all_fit
  fit_all zero f = refl
  fit_all (suc n) f = ap₂ ◌&&◌ (fit_all n (λ k h. f k (omega arith))) (f n (lt-suc_self n))

  -- slots after those that the words reach do not matter
  pub fit_append : (ts : List Slot) (n : ℕ) → n ≤ length ss → all_fit (ss ++ ts) ws n ≡ all_fit ss ws n
  unfolding all_fit
  fit_append ts zero h = refl
  fit_append ts (suc n) h = ap₂ ◌&&◌ (fit_append ts n (omega arith))
      (ap (λ (s : Slot). of_object (fits s) (decode_of (get_or ws n 0))) (get_or-append ss ts Nothing n (omega arith)))
