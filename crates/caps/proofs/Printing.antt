-- What is printed for an input, by its parts: the records that a block holds, and what follows them.
-- Assumes nothing.
use Rattle.std.proofs.Common.{◌≡◌, refl, ◌∙◌, ap, ap₂, sym, ℕ, zero, suc, ◌+◌, ◌-◌, ◌*◌, ◌/◌, ◌%◌, ◌≤◌, ◌<◌, List, [], ◌++◌, length, take, drop, get_or, arith, length-drop, length-append, append_assoc}
use native.Mathlib.Nat.{add_assoc}
use Rattle.std.specs.Simd.{first_chunks}
use Rattle.std.proofs.Math.Nat.{add-suc, add-zero}
use Rattle.std.proofs.lemmas.List.{append-nil, get_or-take, get_or-drop, drop-append-le, take-append-le}
use Rattle.rules.specs.declared.Profile.{Profile}
use Rattle.rules.specs.Building.{built_of}
use Rattle.printed.specs.Records.{profile_at, listing_line}
use Rattle.printed.specs.Printed.{record_line, record_lines, end_line, printed_of}

-- a record is read as it is where it stands by itself
record_alone : (s : List ℕ) (at : ℕ) → record_line (take 8 (drop at s)) 0 ≡ record_line s at
record_alone s at =
    let byte : (i : ℕ) → i < 8 → get_or (take 8 (drop at s)) i 0 ≡ get_or s (at + i) 0 =
    λ i below. get_or-take 8 (drop at s) i 0 below ∙ get_or-drop at s i 0
    in
    let first : get_or (take 8 (drop at s)) 0 0 ≡ get_or s at 0 = byte 0 (omega arith) ∙ ap (λ (n : ℕ). get_or s n 0) (add-zero at) in
    let b1 = byte 1 (omega arith) in
    let b2 = byte 2 (omega arith) in
    let b3 = byte 3 (omega arith) in
    let b4 = byte 4 (omega arith) in
    let b5 = byte 5 (omega arith) in
    let b6 = byte 6 (omega arith) in
    let b7 = byte 7 (omega arith) in
    let same : profile_at (take 8 (drop at s)) 0 ≡ profile_at s at = cc in
    ap (λ (q : Profile). listing_line (built_of q)) same

record_line_drop : (n : ℕ) (s : List ℕ) (at : ℕ) → record_line (drop n s) at ≡ record_line s (n + at)
record_line_drop n s at =
    let same : profile_at (drop n s) at ≡ profile_at s (n + at) = simp (get_or-drop, add_assoc) in
    ap (λ (q : Profile). listing_line (built_of q)) same

record_line_append : (a b : List ℕ) (at : ℕ) → at + 8 ≤ length a → record_line (a ++ b) at ≡ record_line a at
record_line_append a b at fits =
    let rest : drop at (a ++ b) ≡ drop at a ++ b = drop-append-le at a b (omega arith) in
    let some : 8 ≤ length (drop at a) = simp length-drop (omega arith) in
    sym (record_alone (a ++ b) at)
    ∙ ap (λ (s : List ℕ). record_line s 0) (ap (take 8) rest ∙ take-append-le 8 (drop at a) b some)
    ∙ record_alone a at

record_lines_append : (a b : List ℕ) (n : ℕ) → 8 * n ≤ length a → record_lines (a ++ b) n ≡ record_lines a n
record_lines_append a b zero fits = refl
record_lines_append a b (suc n) fits =
    ap₂ (λ (l k : List ℕ). l ++ k) (record_lines_append a b n (omega arith)) (record_line_append a b (8 * n) (omega arith))

-- the lines of the first records, then those behind them
record_lines_split : (s : List ℕ) (n m : ℕ) → record_lines s (n + m) ≡ record_lines s n ++ record_lines (drop (8 * n) s) m
record_lines_split s n zero = ap (record_lines s) (add-zero n) ∙ sym (append-nil (record_lines s n))
record_lines_split s n (suc m) =
    let place : 8 * (n + m) ≡ 8 * n + 8 * m = omega arith in
    ap (record_lines s) (add-suc n m)
    ∙ ap₂
    (λ (l k : List ℕ). l ++ k)
    (record_lines_split s n m)
    (ap (record_line s) place ∙ sym (record_line_drop (8 * n) s (8 * m)))
    ∙ append_assoc (record_lines s n) (record_lines (drop (8 * n) s) m) (record_line (drop (8 * n) s) (8 * m))

-- the records that a block holds are printed, and then what follows
pub printed_of_append : (a b : List ℕ) → printed_of (a ++ b) ≡ record_lines a (length a / 8) ++ printed_of (drop (length a / 8 * 8) a ++ b)
unfolding printed_of
printed_of_append a b =
    let n : ℕ = length a / 8 in
    let place : length a / 8 * 8 ≡ 8 * (length a / 8) = omega arith in
    let rest : drop (8 * (length a / 8)) (a ++ b) ≡ drop (length a / 8 * 8) a ++ b =
    drop-append-le (8 * (length a / 8)) a b (omega arith) ∙ ap (λ (k : ℕ). drop k a ++ b) (sym place)
    in
    let size : length (drop (length a / 8 * 8) a ++ b) ≡ length a - length a / 8 * 8 + length b =
    length-append (drop (length a / 8 * 8) a) b ∙ ap (λ (k : ℕ). k + length b) (length-drop (length a / 8 * 8) a)
    in
    let whole : length (a ++ b) ≡ length a + length b = length-append a b in
    let count : length (a ++ b) / 8 ≡ length a / 8 + length (drop (length a / 8 * 8) a ++ b) / 8 = omega arith in
    let left : length (a ++ b) % 8 ≡ length (drop (length a / 8 * 8) a ++ b) % 8 = omega arith in
    ap₂ (λ (k m : ℕ). record_lines (a ++ b) k ++ end_line m) count left
    ∙ ap
    (λ (l : List ℕ). l ++ end_line (length (drop (length a / 8 * 8) a ++ b) % 8))
    (record_lines_split (a ++ b) (length a / 8) (length (drop (length a / 8 * 8) a ++ b) / 8)
    ∙ ap₂
    (λ (l s : List ℕ). l ++ record_lines s (length (drop (length a / 8 * 8) a ++ b) / 8))
    (record_lines_append a b (length a / 8) (omega arith))
    rest)
    ∙ append_assoc (record_lines a (length a / 8)) (record_lines (drop (length a / 8 * 8) a ++ b) (length (drop (length a / 8 * 8) a ++ b) / 8)) (end_line (length (drop (length a / 8 * 8) a ++ b) % 8))

-- what is left behind the last whole record prints the end line
pub printed_of_end : (s : List ℕ) → length s < 8 → printed_of s ≡ end_line (length s)
unfolding printed_of
printed_of_end s few =
    let none : length s / 8 ≡ 0 = omega arith in
    let left : length s % 8 ≡ length s = omega arith in
    ap₂ (λ (n k : ℕ). record_lines s n ++ end_line k) none left

line_of_chunk : (n : ℕ) (s : List ℕ) (i : ℕ) → i < n → record_line (get_or (first_chunks 8 n s) i []) 0 ≡ record_line s (8 * i)
line_of_chunk zero s i below = absurd (omega arith)
line_of_chunk (suc n) s zero below = record_alone s 0
line_of_chunk (suc n) s (suc i) below =
    let place : 8 + 8 * i ≡ 8 * suc i = omega arith in
    line_of_chunk n (drop 8 s) i (omega arith) ∙ record_line_drop 8 s (8 * i) ∙ ap (record_line s) place

-- one of the records of a block
pub record_of_chunk :
    (n : ℕ) (s : List ℕ) (i : ℕ) (records : List (List ℕ)) → i < n → records ≡ first_chunks 8 n s
    → record_line (get_or records i []) 0 ≡ record_line s (8 * i)
record_of_chunk n s i records below cut = ap (λ (l : List (List ℕ)). record_line (get_or l i []) 0) cut ∙ line_of_chunk n s i below
