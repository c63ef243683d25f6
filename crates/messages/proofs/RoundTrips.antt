-- Both round trips of a message and its bytes, over the definitions.
-- Assumes nothing.
use mathlib.Core.Path.{◌≡◌, refl, ap, ap₂, sym, ◌∙◌}
use mathlib.Core.Bool.{true}
use mathlib.Core.List.{List, [], ◌∷◌, ◌++◌}
use mathlib.Core.Logic.{⊎_elim}
use Prim.Native.Nat.{ℕ, zero, suc, ◌+◌, ◌*◌, ◌^◌, ◌≤◌, ◌<◌}
use native.Mathlib.Nat.{add-zero, eq-or-lt_of_le, le_of_suc-le-suc}
use native.Mathlib.Omega.{arith}
use lib.ListN.{length, take, drop, get_or, length-take, length-drop, take-append-drop, get_or-append}
use lib.Seq.{get_or-append-add, get_or-take, drop-drop, take-add, take_all, ext_get_or}
use Rattle.objects.specs.Layout.{all_fit, joined}
use Rattle.objects.proofs.Rows.{joined_lt}
use Rattle.lists.specs.Kept.{Words32}
use Rattle.lists.proofs.Sevens.{filled_at, same_seven}
use Rattle.messages.specs.declared.Header.{Header}
use Rattle.messages.specs.declared.Message.{Message}
use Rattle.messages.specs.LowFirst.{two_bytes, four_bytes, two_fields, half_at, word_at}
use Rattle.messages.specs.Headers.{header_of, fields_of, length_of}
use Rattle.messages.specs.Refusing.{list_in}
use Rattle.messages.specs.Reading.{header_in, words_in, message_in}
use Rattle.messages.specs.Writing.{word_bytes, bytes_of}
use Rattle.messages.specs.Kept.{kept_message, Bytes8}
use Rattle.messages.proofs.LowFirst.{two_whole, four_whole, two_fit, two_parted, four_parted}
use Rattle.messages.proofs.HeaderFields.{taken_whole, taken_count, made_again, made_lt}
use Rattle.messages.proofs.Parts.{part_at}
use Rattle.messages.proofs.Laying.{word_bytes_length, front_length}

-- ---- what was written is read

-- byte j of word k
word_byte : (ws : List ℕ) (n k j : ℕ) → k < n → j < 4 → get_or (word_bytes ws n) (4 * k + j) 0 ≡ get_or (four_bytes (get_or ws k 0)) j 0
word_byte ws zero k j h l = absurd (omega arith)
word_byte ws (suc n) k j h l =
    let before = word_bytes ws n in
    let last = four_bytes (get_or ws n 0) in
    let size = word_bytes_length ws n in
    ⊎_elim
    (λ e.
    let at : 4 * k + j ≡ length before + j = omega (arith, e, size) in
    ap (λ (i : ℕ). get_or (before ++ last) i 0) at
    ∙ get_or-append-add before last j 0
    ∙ ap (λ (i : ℕ). get_or (four_bytes (get_or ws i 0)) j 0) (sym e))
    (λ m. get_or-append before last 0 (4 * k + j) (omega (arith, m, l, size)) ∙ word_byte ws n k j m l)
    (eq-or-lt_of_le (le_of_suc-le-suc h))

module _ (half : ℕ) (ws : List ℕ) (n k : ℕ) (h : k < n) where
  abbrev message : List ℕ
  message = two_bytes half ++ word_bytes ws n

  byte_at : (at j : ℕ) → j < 4 → at ≡ 2 + (4 * k + j) → get_or message at 0 ≡ get_or (four_bytes (get_or ws k 0)) j 0
  byte_at at j l e =
      ap (λ (i : ℕ). get_or message i 0) e
      ∙ get_or-append-add (two_bytes half) (word_bytes ws n) (4 * k + j) 0
      ∙ word_byte ws n k j h l

  word_back : get_or ws k 0 < 2 ^ 32 → word_at message (2 + 4 * k) ≡ get_or ws k 0
  word_back fits =
      let a = byte_at (2 + 4 * k) 0 (omega arith) (omega arith) in
      let b = byte_at (2 + 4 * k + 1) 1 (omega arith) (omega arith) in
      let c = byte_at (2 + 4 * k + 2) 2 (omega arith) (omega arith) in
      let d = byte_at (2 + 4 * k + 3) 3 (omega arith) (omega arith) in
      rw (a, b, c, d) (four_whole (get_or ws k 0) fits)

module _ (m : Message) (fit : all_fit (fields_of m.header) ≡ true) where
  pub header_back : header_in (bytes_of m) ≡ m.header
  header_back = ap header_of (two_whole (joined (fields_of m.header)) (made_lt m.header fit)) ∙ made_again m.header fit

  pub message_back : Words32 (list_in m) → message_in (bytes_of m) ≡ kept_message m
  message_back fits =
      let n = m.header.count in
      ap (λ (h : Header). record { header = h; words = words_in (bytes_of m) h.count }) header_back
      ∙ ap (λ (ws : List ℕ). record { header = m.header; words = ws })
      (same_seven (λ (k : ℕ). word_at (bytes_of m) (2 + 4 * k)) (λ (k : ℕ). get_or m.words k 0) 0 n
      (λ k h. word_back (joined (fields_of m.header)) m.words n k h (fits.fits k)))

pub bytes_length : (m : Message) → length (bytes_of m) ≡ length_of m.header
bytes_length m = front_length [] (joined (fields_of m.header)) m.words m.header.count

-- ---- what was read is written

module _ (bs : List ℕ) (small : Bytes8 bs) where
  two_there : 2 ≤ length bs → two_bytes (half_at bs 0) ≡ take 2 bs
  two_there h =
      two_parted (get_or bs 0 0) (get_or bs 1 0) (small.fits 0) (small.fits 1)
      ∙ sym (ext_get_or 0 (take 2 bs) (get_or bs 0 0 ∷ get_or bs 1 0 ∷ []) (length-take 2 bs ∙ omega arith) (λ i l. each i (omega (arith, l, length-take 2 bs)))) where
        each : (i : ℕ) → i < 2 → get_or (take 2 bs) i 0 ≡ get_or (get_or bs 0 0 ∷ get_or bs 1 0 ∷ []) i 0
        each zero l = get_or-take 2 bs 0 0 l
        each (suc zero) l = get_or-take 2 bs 1 0 l
        each (suc (suc i)) l = absurd (omega arith)

  four_there : (at : ℕ) → at + 4 ≤ length bs → four_bytes (word_at bs at) ≡ take 4 (drop at bs)
  four_there at h =
      four_parted (get_or bs at 0) (get_or bs (at + 1) 0) (get_or bs (at + 2) 0) (get_or bs (at + 3) 0) (small.fits at) (small.fits (at + 1))
      (small.fits (at + 2)) (small.fits (at + 3))
      ∙ sym (ext_get_or 0 (take 4 (drop at bs)) four size (λ i l. each i (omega (arith, l, size)))) where
        four : List ℕ
        four = get_or bs at 0 ∷ get_or bs (at + 1) 0 ∷ get_or bs (at + 2) 0 ∷ get_or bs (at + 3) 0 ∷ []

        size : length (take 4 (drop at bs)) ≡ 4
        size = simp (length-take, length-drop) (omega arith)

        each : (i : ℕ) → i < 4 → get_or (take 4 (drop at bs)) i 0 ≡ get_or four i 0
        each zero l = part_at bs at 4 0 l ∙ ap (λ (k : ℕ). get_or bs k 0) (add-zero at)
        each (suc zero) l = part_at bs at 4 1 l
        each (suc (suc zero)) l = part_at bs at 4 2 l
        each (suc (suc (suc zero))) l = part_at bs at 4 3 l
        each (suc (suc (suc (suc i)))) l = absurd (omega arith)

  module _ (n : ℕ) (few : n ≤ 7) (long : 2 + 4 * n ≤ length bs) where
    words_there : (i : ℕ) → i ≤ n → word_bytes (words_in bs n) i ≡ take (4 * i) (drop 2 bs)
    words_there zero h = refl
    words_there (suc i) h =
        let word = filled_at (λ (k : ℕ). word_at bs (2 + 4 * k)) 0 n i few (omega arith) in
        let four = four_there (2 + 4 * i) (omega arith) in
        let next : 4 * i + 4 ≡ 4 * suc i = omega arith in
        ap₂ ◌++◌ (words_there i (omega arith)) (ap four_bytes word ∙ four ∙ ap (take 4) (sym (drop-drop (4 * i) 2 bs)))
        ∙ sym (take-add (4 * i) 4 (drop 2 bs))
        ∙ ap (λ (k : ℕ). take k (drop 2 bs)) next

  half_lt : half_at bs 0 < 2 ^ 16
  half_lt =
      joined_lt (two_fields (get_or bs 0 0) (get_or bs 1 0)) refl (two_fit (get_or bs 0 0) (get_or bs 1 0) (small.fits 0) (small.fits 1))

  pub bytes_back : length bs ≡ length_of (header_in bs) → bytes_of (message_in bs) ≡ bs
  bytes_back e =
      let n = (header_in bs).count in
      let few = taken_count (half_at bs 0) in
      ap₂ ◌++◌ (ap two_bytes (taken_whole (half_at bs 0) half_lt) ∙ two_there (omega arith)) (words_there n few (omega arith) n (omega arith))
      ∙ ap (λ (l : List ℕ). take 2 bs ++ l) (take_all (4 * n) (drop 2 bs) (omega (arith, length-drop 2 bs)))
      ∙ take-append-drop 2 bs
