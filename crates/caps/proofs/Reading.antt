-- What a block holds after a read behind the bytes that it held, and once the last of them are copied to its start.
-- Assumes nothing.
use Rattle.std.proofs.Common.{◌≡◌, ◌∙◌, ap, sym, subst, ℕ, ◌+◌, ◌-◌, ◌*◌, ◌/◌, ◌≤◌, ◌<◌, List, ◌++◌, length, take, drop, arith, length-drop, length-take-le, length-append, append_assoc}
use Rattle.std.specs.Prelude.{Option, Some, None}
use Rattle.std.specs.List.{copy_within}
use Rattle.std.specs.Io.KnownBytes.{Consumes, IsAtEnd, Keeps}
use Rattle.std.proofs.lemmas.List.{take-append-le}
use Rattle.std.proofs.lemmas.List.Edits.{take-paste}
use Rattle.std.proofs.lemmas.Slice.{between_is}
use Rattle.std.proofs.Math.Seq.{take-append-add}
use borrow.Rule.Slice.PartMut.{put_mid, post_of}
use Rattle.caps.specs.Printing.{Bytes, Reads, unlisted}

take_copy_within :
    (xs : List ℕ) (from held : ℕ) → from ≤ held → held ≤ length xs → take (held - from) (copy_within xs from held 0) ≡ drop from (take held xs)
take_copy_within xs from held start end =
    let count : held - from ≡ 0 + (held - from) = omega arith in
    ap (λ (n : ℕ). take n (copy_within xs from held 0)) count
    ∙ take-paste xs 0 (drop from xs) (held - from) (omega arith) (simp length-drop (omega arith))
    ∙ between_is xs from held

-- the bytes of an unfinished record, by those that are held
pub unfinished :
    (left : Option (List ℕ)) (before : List ℕ) (held : ℕ) (after : List ℕ) (bytes : Bytes) → held ≤ length before
    → after ≡ copy_within before (held / 8 * 8) held 0 → record { left = left; held = take held before } ≡ bytes
    → record { left = left; held = take (held - held / 8 * 8) after } ≡ record bytes { held = drop (length bytes.held / 8 * 8) bytes.held }
unfinished left before held after bytes fits copied view =
    let size : length (take held before) ≡ held = length-take-le held before fits in
    let rest : take (held - held / 8 * 8) after ≡ drop (length (take held before) / 8 * 8) (take held before) =
    ap (take (held - held / 8 * 8)) copied
    ∙ take_copy_within before (held / 8 * 8) held (omega arith) fits
    ∙ ap (λ (n : ℕ). drop (n / 8 * 8) (take held before)) (sym size)
    in
    subst
    (λ (b : Bytes). record { left = left; held = take (held - held / 8 * 8) after } ≡ record b { held = drop (length b.held / 8 * 8) b.held })
    view
    (ap (λ (h : List ℕ). record { left = left; held = h }) rest)

module _ (block buf : List ℕ) (held n k : ℕ) (fits : held ≤ length block) (got : n ≤ length buf) where
  -- the bytes that were held, and behind them those that came
  take_put_mid : take (held + n) (put_mid held k block buf) ≡ take held block ++ take n buf
  take_put_mid =
      let size : length (take held block) ≡ held = length-take-le held block fits in
      ap (λ (m : ℕ). take (m + n) (put_mid held k block buf)) (sym size)
      ∙ take-append-add (take held block) (buf ++ post_of held k block) n
      ∙ ap (λ (xs : List ℕ). take held block ++ xs) (take-append-le n buf (post_of held k block) got)

  same_bytes :
      (left after : Option (List ℕ)) → Consumes left after (take n buf)
      → Keeps (unlisted record { left = left; held = take held block }) (unlisted record { left = after; held = take (held + n) (put_mid held k block buf) })
  same_bytes None after h = tt
  same_bytes (Some xs) None h = absurd h
  same_bytes (Some xs) (Some ys) h =
      ap (λ (l : List ℕ). l ++ ys) take_put_mid
      ∙ append_assoc (take held block) (take n buf) ys
      ∙ ap (λ (l : List ℕ). take held block ++ l) (sym h)

  pub read_behind :
      (left after : Option (List ℕ)) (bytes : Bytes) → record { left = left; held = take held block } ≡ bytes → length block ≡ 65536
      → length buf ≡ 65536 - held → Consumes left after (take n buf) × (n ≡ 0 → 0 < length buf → IsAtEnd after)
      → Reads bytes record { left = after; held = take (held + n) (put_mid held k block buf) } n
  read_behind left after bytes view whole room read =
      let size : length (take held block) ≡ held = length-take-le held block fits in
      let came : length (take n buf) ≡ n = length-take-le n buf got in
      let reads : Reads record { left = left; held = take held block } record { left = after; held = take (held + n) (put_mid held k block buf) } n =
      record {
        same = same_bytes left after read.0;
        size = ap length take_put_mid ∙ length-append (take held block) (take n buf) ∙ ap (λ (m : ℕ). length (take held block) + m) came;
        end = λ none less. read.1 none (omega arith);
      }
      in
      subst (λ (b : Bytes). Reads b record { left = after; held = take (held + n) (put_mid held k block buf) } n) view reads
