-- The words of a message as chunks of four bytes, one after the other.
-- Assumes nothing.
use mathlib.Core.Path.{◌≡◌, refl, sym, ap, ◌∙◌}
use mathlib.Core.List.{List, ◌++◌}
use Prim.Native.Nat.{ℕ, ◌+◌, ◌-◌, ◌*◌, ◌≤◌, ◌<◌}
use native.Mathlib.Nat.{add-zero}
use native.Mathlib.Omega.{arith}
use lib.ListN.{length, take, drop, get_or, length-append, length-drop, get_or-append}
use lib.Seq.{get_or-drop, drop_at, drop-drop, take_all}
use Rattle.messages.specs.LowFirst.{word_at}

-- what is left of the bytes past so many words, in chunks of this size
pub record Left (bs rest : List ℕ) (size k : ℕ) : Type 0 where
  pub four : size ≡ 4
  pub past : rest ≡ drop (2 + 4 * k) bs
  pub within : 2 + 4 * k ≤ length bs

pub all_left : (bs rest : List ℕ) (size k : ℕ) → 2 ≤ length bs → size ≡ 4 → rest ≡ take (length bs - 2) (drop 2 bs) → k ≡ 0 → Left bs rest size k
all_left bs rest size k h four e z =
    let start : 2 ≡ 2 + 4 * k = omega (arith, z) in record {
      four = four;
      past = e ∙ take_all (length bs - 2) (drop 2 bs) (omega (arith, length-drop 2 bs)) ∙ ap (λ (n : ℕ). drop n bs) start;
      within = omega (arith, z);
    }

module _ (bs : List ℕ) {rest : List ℕ} {size k : ℕ} (l : Left bs rest size k) where
  -- the last chunk is behind
  pub none_left : (n : ℕ) → length bs ≡ 2 + 4 * n → length rest < size → k ≡ n
  none_left n e h = omega (arith, l.four, l.within, length-drop (2 + 4 * k) bs, ap length l.past)

  module _ (four past : List ℕ) (e : rest ≡ four ++ past) (f : length four ≡ size) where
    chunk : drop (2 + 4 * k) bs ≡ four ++ past
    chunk = sym l.past ∙ e

    pub one_fits : 2 + 4 * k + 4 ≤ length bs
    one_fits = omega (arith, f, l.four, l.within, length-drop (2 + 4 * k) bs, ap length chunk, length-append four past)

    pub one_less : (size' k' : ℕ) → size' ≡ size → k' ≡ k + 1 → Left bs past size' k'
    one_less size' k' s n =
        let next : 2 + 4 * k + 4 ≡ 2 + 4 * k' = omega (arith, n) in record {
          four = s ∙ l.four;
          past =
              sym (drop_at four past 4 (f ∙ l.four))
              ∙ ap (drop 4) (sym chunk)
              ∙ drop-drop 4 (2 + 4 * k) bs
              ∙ ap (λ (j : ℕ). drop j bs) next;
          within = omega (arith, one_fits, next);
        }

    byte : (j : ℕ) → j < 4 → get_or four j 0 ≡ get_or bs (2 + 4 * k + j) 0
    byte j h =
        sym (get_or-append four past 0 j (omega (arith, f, l.four)))
        ∙ ap (λ (xs : List ℕ). get_or xs j 0) (sym chunk)
        ∙ get_or-drop (2 + 4 * k) bs j 0

    -- its word is that of the bytes there
    pub one_word : word_at four 0 ≡ word_at bs (2 + 4 * k)
    one_word =
        rw (byte 0 (omega arith), byte 1 (omega arith), byte 2 (omega arith), byte 3 (omega arith)) (rw (add-zero (2 + 4 * k)) refl)
