-- Laws of the bytes of a message: how many they are, and what stands in a buffer after so many words.
-- Assumes nothing.
use mathlib.Core.Path.{◌≡◌, refl, ap, ap₂, sym, ◌∙◌}
use mathlib.Core.List.{List, ◌++◌, append_assoc}
use Prim.Native.Nat.{ℕ, zero, suc, ◌+◌, ◌-◌, ◌*◌}
use native.Mathlib.Numerals.{add-one}
use native.Mathlib.Omega.{arith}
use lib.ListN.{length, take, drop, get_or, length-append}
use lib.Seq.{take_at, drop_at, drop-drop}
use Rattle.messages.specs.LowFirst.{two_bytes, four_bytes}
use Rattle.messages.specs.Writing.{word_bytes}

pub word_bytes_length : (ws : List ℕ) (n : ℕ) → length (word_bytes ws n) ≡ 4 * n
word_bytes_length ws zero = refl
word_bytes_length ws (suc n) =
    length-append (word_bytes ws n) (four_bytes (get_or ws n 0)) ∙ omega (arith, word_bytes_length ws n)

-- the header and the first n words, and past them what was there
abbrev pub laid_to : List ℕ → ℕ → List ℕ → ℕ → List ℕ
laid_to bs h ws n = (two_bytes h ++ word_bytes ws n) ++ drop (2 + 4 * n) bs

module _ (bs : List ℕ) (h : ℕ) (ws : List ℕ) where
  pub front_length : (n : ℕ) → length (two_bytes h ++ word_bytes ws n) ≡ 2 + 4 * n
  front_length n = length-append (two_bytes h) (word_bytes ws n) ∙ ap (λ (k : ℕ). 2 + k) (word_bytes_length ws n)

  -- a part that is lent comes back between what is before it and what is past it: so does one word more
  pub one_word_more : (n : ℕ) (xs four : List ℕ) → xs ≡ laid_to bs h ws n → four ≡ four_bytes (get_or ws n 0)
      → take (2 + 4 * n) xs ++ (four ++ drop (2 + 4 * n + 4 - (2 + 4 * n)) (drop (2 + 4 * n) xs)) ≡ laid_to bs h ws (n + 1)
  one_word_more n xs four e f =
      let front = two_bytes h ++ word_bytes ws n in
      let word = four_bytes (get_or ws n 0) in
      let past = drop (2 + 4 * n) bs in
      let len = front_length n in
      let size : 2 + 4 * n + 4 - (2 + 4 * n) ≡ 4 = omega arith in
      let past-it : 2 + 4 * n + 4 ≡ 2 + 4 * suc n = omega arith in
      ap₂ (λ (l v : List ℕ). take (2 + 4 * n) l ++ (v ++ drop (2 + 4 * n + 4 - (2 + 4 * n)) (drop (2 + 4 * n) l))) e f
      ∙ ap (λ (k : ℕ). take (2 + 4 * n) (front ++ past) ++ (word ++ drop k (drop (2 + 4 * n) (front ++ past)))) size
      ∙ ap₂ (λ (x y : List ℕ). x ++ (word ++ drop 4 y)) (take_at front past (2 + 4 * n) len) (drop_at front past (2 + 4 * n) len)
      ∙ ap (λ (y : List ℕ). front ++ (word ++ y)) (drop-drop 4 (2 + 4 * n) bs)
      ∙ sym (append_assoc front word (drop (2 + 4 * n + 4) bs))
      ∙ rw (add-one n)
      (ap₂ (λ (x : List ℕ) (k : ℕ). x ++ drop k bs) (append_assoc (two_bytes h) (word_bytes ws n) word) past-it)
