-- Laws of the header: its fields and its 16 bits, both ways.
-- Assumes nothing.
use mathlib.Core.Path.{◌≡◌, refl, ap}
use mathlib.Core.Bool.{true}
use Prim.Native.Nat.{ℕ, ◌^◌, ◌<◌, ◌≤◌}
use native.Mathlib.Omega.{arith}
use Rattle.objects.specs.Layout.{all_fit, joined}
use Rattle.objects.proofs.Taking.{bits_lt}
use Rattle.objects.proofs.Rows.{retaken_fit, whole, parted, joined_lt}
use Rattle.messages.specs.declared.Header.{Header}
use Rattle.messages.specs.Headers.{header_of, fields_of}

-- the fields of 16 bits fit, and make the 16 bits again
pub taken_fit : (h : ℕ) → all_fit (fields_of (header_of h)) ≡ true
taken_fit h = retaken_fit h (fields_of (header_of h))

pub taken_whole : (h : ℕ) → h < 2 ^ 16 → joined (fields_of (header_of h)) ≡ h
taken_whole h l = whole h (fields_of (header_of h)) refl l

pub taken_count : (h : ℕ) → (header_of h).count ≤ 7
taken_count h = let l = bits_lt h 14 12 in omega arith

module _ (h : Header) (fit : all_fit (fields_of h) ≡ true) where
  -- fields that fit come back from their 16 bits
  pub made_again : header_of (joined (fields_of h)) ≡ h
  made_again =
      let e = parted (fields_of h) refl fit in
      let same : header_of (joined (fields_of h)) ≡ record {
        extended = h.extended;
        count = h.count;
        id = h.id;
        power_role = h.power_role;
        revision = h.revision;
        data_role = h.data_role;
        message_type = h.message_type;
      } = cc in
      same

  pub made_lt : joined (fields_of h) < 2 ^ 16
  made_lt = joined_lt (fields_of h) refl fit

  pub fit_count : h.count ≤ 7
  fit_count =
      let e = ap (λ (x : Header). x.count) made_again in
      let l = taken_count (joined (fields_of h)) in
      omega arith
