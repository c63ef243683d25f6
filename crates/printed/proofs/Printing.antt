-- What an input prints, by its length: nothing, the line of a short record, or a whole record's line and then what follows.
-- Assumes nothing.
use mathlib.Core.Path.{◌≡◌, refl, ap, ap₂, sym, ◌∙◌}
use mathlib.Core.List.{List, [], ◌∷◌, ◌++◌, append-nil, append_assoc}
use Prim.Native.Nat.{ℕ, zero, suc, ◌+◌, ◌*◌, ◌/◌, ◌%◌, ◌<◌}
use native.Mathlib.Nat.{add_assoc}
use native.Mathlib.Omega.{arith}
use lib.ListN.{length, drop}
use lib.Seq.{get_or-drop}
use Rattle.rules.specs.declared.Profile.{Profile}
use Rattle.rules.specs.Profiles.{half_watts, in_10_mA}
use Rattle.rules.specs.Building.{built_of}
use Rattle.printed.specs.Ascii.{ascii}
use Rattle.printed.specs.Records.{profile_at, listing_line}
use Rattle.printed.specs.Printed.{record_line, record_lines, short_line, end_line, printed_of}

-- "No input prints nothing."
pub empty_prints_nothing : printed_of [] ≡ []
unfolding printed_of
empty_prints_nothing = refl

pub end_of_none : (kept : ℕ) → kept ≡ 0 → end_line kept ≡ []
end_of_none kept h = ap end_line h

pub end_of_some : (kept : ℕ) → 0 < kept → end_line kept ≡ short_line
end_of_some zero h = absurd (omega arith)
end_of_some (suc n) h = refl

-- "Where one to seven bytes are left at the end, they print the line `9 0`, whatever they are."
pub short_record : (s : List ℕ) → 0 < length s → length s < 8 → printed_of s ≡ ascii "9 0\n"
unfolding printed_of
short_record s some few =
    let none : length s / 8 ≡ 0 = omega arith in
    let left : length s % 8 ≡ length s = omega arith in
    ap₂ (λ (n k : ℕ). record_lines s n ++ end_line k) none left ∙ end_of_some (length s) some

-- a record behind the first is read as in the input without the first
later : (s : List ℕ) (n : ℕ) → record_line s (8 * suc n) ≡ record_line (drop 8 s) (8 * n)
later s n =
    let place : 8 * suc n ≡ 8 + 8 * n = omega arith in
    let same : profile_at s (8 + 8 * n) ≡ profile_at (drop 8 s) (8 * n) = simp (get_or-drop, add_assoc) in
    ap (record_line s) place ∙ ap (λ (q : Profile). listing_line (built_of q)) same

-- M and P "low byte first", cable in 100 mA, rounding, PPS wanted, flags: the line of the list built for them, then the rest.
module _ (m m₂ p p₂ cable rounding pps flags : ℕ) (rest : List ℕ) where
  abbrev input : List ℕ
  input = m ∷ m₂ ∷ p ∷ p₂ ∷ cable ∷ rounding ∷ pps ∷ flags ∷ rest

  abbrev profile : Profile
  profile =
      record {
        max = half_watts (m + 256 * m₂);
        present = half_watts (p + 256 * p₂);
        cable = in_10_mA (cable * 10);
        rounding = rounding;
        pps = pps;
        flags = flags;
      }

  lines : (n : ℕ) → record_lines input (suc n) ≡ listing_line (built_of profile) ++ record_lines rest n
  lines zero = sym (append-nil (listing_line (built_of profile)))
  lines (suc n) =
      ap₂ (λ (l k : List ℕ). l ++ k) (lines n) (later input n)
      ∙ append_assoc (listing_line (built_of profile)) (record_lines rest n) (record_line rest (8 * n))

  pub whole_record : printed_of input ≡ listing_line (built_of profile) ++ printed_of rest
  unfolding printed_of
  whole_record =
      let one_more : length input / 8 ≡ suc (length rest / 8) = omega arith in
      let left : length input % 8 ≡ length rest % 8 = omega arith in
      ap₂ (λ (n k : ℕ). record_lines input n ++ end_line k) one_more left
      ∙ ap (λ (l : List ℕ). l ++ end_line (length rest % 8)) (lines (length rest / 8))
      ∙ append_assoc (listing_line (built_of profile)) (record_lines rest (length rest / 8)) (end_line (length rest % 8))
