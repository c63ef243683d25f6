-- Slots that rise and words that do not fall match place by place where each word has a slot and each slot is had once. Induction takes
-- the last of both away. A word has the position of each slot that it fits.
-- Assumes nothing.
use Rattle.std.specs.Prelude.{Option}
use mathlib.Core.Path.{◌≡◌, refl, sym, ap, ◌∙◌}
use mathlib.Core.Bool.{Bool, true, false, true≢false}
use mathlib.Core.List.{List}
use mathlib.Core.Logic.{⊎_elim}
use Prim.Native.Nat.{ℕ, zero, suc, ◌≤◌, ◌<◌}
use native.Mathlib.Nat.{eq-or-lt_of_le, le_of_suc-le-suc, lt-suc_self}
use native.Mathlib.Omega.{arith}
use lib.Dec.{ltb}
use lib.ListN.{get_or}
use borrow.Author.Tests.{ltb-true, ltb-false}
use Rattle.objects.specs.declared.Object.{Object}
use Rattle.objects.specs.Asking.{of_object}
use Rattle.objects.specs.Decode.{decode_of}
use Rattle.rules.specs.Sets.{how_many}
use Rattle.rules.proofs.Counting.{Found, asks_at, not_counted, counted, nowhere, somewhere, once}

-- one of the first m slots fits a word; `asked` is what each slot asks for
pub record Slotted (asked : ℕ → Object → Bool) (m : ℕ) (d : Option Object) : Type 0 where
  pub at : ℕ
  pub below : at < m
  pub so : of_object (asked at) d ≡ true

-- n words stand at m slots
pub record Matched (asked : ℕ → Object → Bool) (ws : List ℕ) (m n : ℕ) : Type 0 where
  pub count : n ≡ m
  pub each : (k : ℕ) → k < n → asks_at (asked k) ws k ≡ true

longer : (asked : ℕ → Object → Bool) (ws : List ℕ) (m n : ℕ) → asks_at (asked n) ws n ≡ true → Matched asked ws m n → Matched asked ws (suc m) (suc n)
longer asked ws m n e r = record {
  count = ap suc r.count;
  each = λ k h. ⊎_elim (λ q. ap (λ (i : ℕ). asks_at (asked i) ws i) q ∙ e) (λ l. r.each k l) (eq-or-lt_of_le (le_of_suc-le-suc h));
}

-- the positions of the slots and of the words
module _ (asked : ℕ → Object → Bool) (ws : List ℕ) (slot_at word_at : ℕ → ℕ) where
  -- of the first m slots and the first n words
  pub record Lined (m n : ℕ) : Type 0 where
    pub rising : (i j : ℕ) → i < j → j < m → slot_at i < slot_at j
    pub level : (j k : ℕ) → j ≤ k → k < n → word_at j ≤ word_at k
    pub meets : (i k : ℕ) → i < m → k < n → asks_at (asked i) ws k ≡ true → word_at k ≡ slot_at i

  shorter : (m n : ℕ) → Lined (suc m) (suc n) → Lined m n
  shorter m n o = record {
    rising = λ i j h l. o.rising i j h (omega arith);
    level = λ j k h l. o.level j k h (omega arith);
    meets = λ i k h l e. o.meets i k (omega arith) (omega arith) e;
  }

  module _ (m n : ℕ) (o : Lined (suc m) (suc n)) where
    -- the word that has the last slot stands no later than the last word, so the last word's slot is the last
    last_fits : Found (asked m) ws (suc n) → Slotted asked (suc m) (decode_of (get_or ws n 0)) → asks_at (asked m) ws n ≡ true
    last_fits f s = ⊎_elim
        (λ e. ap (λ (i : ℕ). asks_at (asked i) ws n) (sym e) ∙ s.so)
        (λ l. absurd (omega (
          arith,
          o.rising s.at m l (lt-suc_self m),
          o.level f.at n (le_of_suc-le-suc f.below) (lt-suc_self n),
          o.meets m f.at (lt-suc_self m) f.below f.so,
          o.meets s.at n s.below (lt-suc_self n) s.so,
        )))
        (eq-or-lt_of_le (le_of_suc-le-suc s.below))

    module _ (e : asks_at (asked m) ws n ≡ true) where
      -- no other word has the last slot
      still_slotted : how_many (asked m) ws (suc n) ≡ 1 → (k : ℕ) → k < n → Slotted asked (suc m) (decode_of (get_or ws k 0))
          → Slotted asked m (decode_of (get_or ws k 0))
      still_slotted c k h s = ⊎_elim
          (λ q. absurd (true≢false (sym (ap (λ (i : ℕ). asks_at (asked i) ws k) (sym q) ∙ s.so) ∙ elsewhere)))
          (λ l. record { at = s.at; below = l; so = s.so })
          (eq-or-lt_of_le (le_of_suc-le-suc s.below))
        where
          elsewhere : asks_at (asked m) ws k ≡ false
          elsewhere = nowhere (asked m) ws n (omega (arith, counted (asked m) ws n e)) k h

      -- and the last word has no other slot
      still_once : (i : ℕ) → i < m → how_many (asked i) ws (suc n) ≡ 1 → how_many (asked i) ws n ≡ 1
      still_once i h c = go (asks_at (asked i) ws n) refl where
        go : (b : Bool) → asks_at (asked i) ws n ≡ b → how_many (asked i) ws n ≡ 1
        go true q = absurd (omega (
          arith,
          o.rising i m h (lt-suc_self m),
          o.meets i n (omega arith) (lt-suc_self n) q,
          o.meets m n (lt-suc_self m) (lt-suc_self n) e,
        ))
        go false q = sym (not_counted (asked i) ws n q) ∙ c

  pub matched : (m n : ℕ) → Lined m n → ((k : ℕ) → k < n → Slotted asked m (decode_of (get_or ws k 0)))
      → ((i : ℕ) → i < m → how_many (asked i) ws n ≡ 1) → Matched asked ws m n
  unfolding how_many
  matched zero zero o s c = record { count = refl; each = λ k h. absurd (omega arith) }
  matched (suc m) zero o s c = absurd (omega (arith, c 0 (omega arith)))
  matched zero (suc n) o s c = absurd (omega (arith, (s n (lt-suc_self n)).below))
  matched (suc m) (suc n) o s c =
      let last : how_many (asked m) ws (suc n) ≡ 1 = c m (lt-suc_self m) in
      let e = last_fits m n o (somewhere (asked m) ws (suc n) (omega arith)) (s n (lt-suc_self n)) in
      let r = matched m n (shorter m n o)
      (λ k h. still_slotted m n o e last k h (s k (omega arith))) (λ i h. still_once m n o e i h (c i (omega arith))) in
      longer asked ws m n (ap (λ (i : ℕ). asks_at (asked i) ws n) r.count ∙ e) r

  -- ---- and the reverse

  -- slots of one position are one slot
  one_slot : (m n : ℕ) → Lined m n → (i k : ℕ) → i < m → k < m → slot_at k ≡ slot_at i → (k ≡ i → ⊥) → ⊥
  one_slot m n o i k h l same d = go (ltb k i) refl where
    go : (b : Bool) → ltb k i ≡ b → ⊥
    go true e = omega (arith, o.rising k i (ltb-true k i e) h)
    go false e =
        ⊎_elim (λ (q : i ≡ k). d (sym q)) (λ (r : i < k). omega (arith, o.rising i k r l)) (eq-or-lt_of_le (ltb-false k i e))

  -- a word that fits a slot besides its own would have two positions
  pub each_once_lem : (n : ℕ) → Lined n n → ((k : ℕ) → k < n → asks_at (asked k) ws k ≡ true) → (i : ℕ) → i < n → how_many (asked i) ws n ≡ 1
  each_once_lem n o f i h = once (asked i) ws n i h (f i h) (λ k l d. go k l d (asks_at (asked i) ws k) refl) where
    go : (k : ℕ) → k < n → (k ≡ i → ⊥) → (b : Bool) → asks_at (asked i) ws k ≡ b → asks_at (asked i) ws k ≡ false
    go k l d true e = absurd (one_slot n n o i k h l (sym (o.meets k k l l (f k l)) ∙ o.meets i k h l e) d)
    go k l d false e = e
