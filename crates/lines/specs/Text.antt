-- What is printed, as bytes of ASCII: decimal numbers, words "as eight hex digits in capitals", and the line of a listing (STATEMENT,
-- "The listing program").
-- Assumes nothing.
use Rattle.std.specs.Prelude.{◌≡◌, cond, List, [], ◌∷◌, ◌++◌, ℕ, zero, suc, ◌+◌, ◌-◌, ◌*◌, ◌/◌, ◌%◌, ◌^◌, ◌≤◌, ◌<◌, ltb, length, take, get_or}

-- some bytes stand in a block from a place on, what was before that place still does, and next is the place after them
pub record Appended (before : List ℕ) (at : ℕ) (bytes after : List ℕ) (next : ℕ) : Type 0 where
  pub ends : next ≡ at + length bytes
  pub size : length after ≡ length before
  pub text : take next after ≡ take at before ++ bytes

-- the bytes are put where so much room is left, and else nothing is
pub record PutWhereRoom (room : ℕ) (before : List ℕ) (at : ℕ) (bytes after : List ℕ) (next : ℕ) : Type 0 where
  pub put : at + room ≤ length before → Appended before at bytes after next
  pub left : length before < at + room → (after ≡ before) × (next ≡ at)

-- the last digit of a number
abbrev pub digit : ℕ → ℕ
digit n = 48 + n % 10

-- the digit that counts a power of ten, where the number reaches it: there is no zero in front
abbrev pub digit_from : ℕ → ℕ → List ℕ
digit_from power n = cond (ltb n power) [] (digit (n / power) ∷ [])

-- a number below 100000
abbrev pub decimal : ℕ → List ℕ
decimal n = digit_from 10000 n ++ digit_from 1000 n ++ digit_from 100 n ++ digit_from 10 n ++ (digit n ∷ [])

-- `0` to `9`, then `A` to `F`
abbrev pub hex_digit : ℕ → ℕ
hex_digit d = cond (ltb d 10) (48 + d) (65 + (d - 10))

-- the first n hex digits of a word, the highest first
abbrev pub hex_digits : ℕ → ℕ → List ℕ
hex_digits zero w = []
hex_digits (suc n) w = hex_digits n w ++ (hex_digit (w / 2 ^ (28 - 4 * n) % 16) ∷ [])

-- a word "as eight hex digits in capitals"
unfoldable pub hex_word : ℕ → List ℕ
hex_word w = hex_digits 8 w

-- a space and the word, where the place counts
abbrev pub place_text : List ℕ → ℕ → ℕ → List ℕ
place_text words count i = cond (ltb i count) (32 ∷ hex_word (get_or words i 0)) []

-- the first n places
abbrev pub places_text : List ℕ → ℕ → ℕ → List ℕ
places_text words count zero = []
places_text words count (suc n) = places_text words count n ++ place_text words count n

-- the line of a number, a list and its count: 32 is a space, 10 the end of the line
abbrev pub line_of : ℕ → List ℕ → ℕ → List ℕ
line_of number words count = decimal number ++ (32 ∷ []) ++ decimal count ++ places_text words count 7 ++ (10 ∷ [])
