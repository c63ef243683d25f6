-- How long the parts of a line can be.
-- Assumes nothing.
use mathlib.Core.Path.{◌≡◌, refl}
use mathlib.Core.Bool.{Bool, true, false, cond}
use mathlib.Core.List.{List, [], ◌∷◌, ◌++◌}
use Prim.Native.Nat.{ℕ, zero, suc, ◌+◌, ◌*◌, ◌≤◌, ◌<◌}
use native.Mathlib.Omega.{arith}
use lib.Dec.{ltb}
use lib.ListN.{length, get_or, length-append}
use borrow.Author.Tests.{lt-ltb}
use Rattle.lines.specs.Text.{digit, digit_from, decimal, hex_word, place_text, places_text}

either : (b : Bool) (xs ys : List ℕ) (most : ℕ) → length xs ≤ most → length ys ≤ most → length (cond b xs ys) ≤ most
either true xs ys most h k = h
either false xs ys most h k = k

pub digit_length : (power n : ℕ) → length (digit_from power n) ≤ 1
digit_length power n = either (ltb n power) _ _ 1 (omega arith) (omega arith)

none_below : (power n : ℕ) → n < power → length (digit_from power n) ≤ 0
none_below power n h = simp (lt-ltb _ _ h) (omega arith)

-- the lengths of the five parts
parts : (n : ℕ)
    → length (decimal n) ≡ length (digit_from 10000 n) + length (digit_from 1000 n) + length (digit_from 100 n) + length (digit_from 10 n) + 1
parts n =
    let a = digit_from 10000 n in
    let b = digit_from 1000 n in
    let c = digit_from 100 n in
    let d = digit_from 10 n in
    omega (
      arith,
      length-append (a ++ b ++ c ++ d) (digit n ∷ []),
      length-append (a ++ b ++ c) d,
      length-append (a ++ b) c,
      length-append a b,
    )

-- a number of one byte has at most three digits
pub decimal_length : (n : ℕ) → n < 256 → length (decimal n) ≤ 3
decimal_length n h =
    omega (
      arith,
      parts n,
      none_below 10000 n (omega arith),
      none_below 1000 n (omega arith),
      digit_length 100 n,
      digit_length 10 n,
    )

-- any other has at most five here
pub number_length : (n : ℕ) → length (decimal n) ≤ 5
number_length n =
    omega (arith, parts n, digit_length 10000 n, digit_length 1000 n, digit_length 100 n, digit_length 10 n)

word_length : (w : ℕ) → length (hex_word w) ≡ 8
unfolding hex_word
word_length w = refl

place_length : (words : List ℕ) (count i : ℕ) → length (place_text words count i) ≤ 9
place_length words count i = either (ltb i count) _ _ 9 (omega (arith, word_length (get_or words i 0))) (omega arith)

pub places_length : (words : List ℕ) (count n : ℕ) → length (places_text words count n) ≤ 9 * n
places_length words count zero = omega arith
places_length words count (suc n) =
    omega (
      arith,
      length-append (places_text words count n) (place_text words count n),
      places_length words count n,
      place_length words count n,
    )
