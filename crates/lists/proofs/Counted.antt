-- The first so many of a list, as the loops go through them, and what the way out of a `?` says.
-- Assumes nothing.
use Rattle.std.specs.Prelude.{Ok, Err, Option, Some, None}
use Rattle.std.specs.Option.{ok_or}
use mathlib.Core.Path.{◌≡◌, refl, ap, ◌∙◌}
use mathlib.Core.List.{List}
use Prim.Native.Nat.{ℕ, ◌≤◌, ◌<◌}
use native.Mathlib.Omega.{arith}
use lib.ListN.{get_or, length, take}
use Rattle.std.proofs.lemmas.List.{get_or-take, length-take, length-take-le}
use Rattle.objects.specs.declared.Object.{Object}
use Rattle.objects.specs.Decode.{decode_of}
use Rattle.objects.specs.Encode.{encode_of}
use Rattle.objects.specs.Promises.{Decodes, Encodes}
use Rattle.objects.proofs.Saying.{decoded_is, encoded_is}
use Rattle.lists.specs.declared.Place.{Place}
use Rattle.lists.specs.Reading.{empty_place}
use Rattle.lists.specs.Writing.{encoded_at}

module _ {A : Type 0} (xs : List A) (n : ℕ) where
  pub counted_below : (k : ℕ) → k < length (take n xs) → k < n
  counted_below k h = omega (arith, length-take n xs)

  pub counted_at : (k : ℕ) (blank : A) → k < length (take n xs) → get_or (take n xs) k blank ≡ get_or xs k blank
  counted_at k blank h = get_or-take n xs k blank (counted_below k h)

  -- past the last
  pub counted_all : (k : ℕ) → n ≤ length xs → k ≤ length (take n xs) → length (take n xs) ≤ k → k ≡ n
  counted_all k h l m = omega (arith, length-take-le n xs h)

-- the object in hand is that of its place
pub encoded_in : (ps : List Place) (n k : ℕ) (r : Option ℕ) → k < length (take n ps) → Encodes (get_or (take n ps) k empty_place).object r → r ≡ encoded_at ps k
encoded_in ps n k r h e = encoded_is _ r e ∙ ap (λ (p : Place). encode_of p.object) (counted_at ps n k empty_place h)

-- and the word
pub decoded_in : (ws : List ℕ) (n k : ℕ) (r : Option Object) → k < length (take n ws) → Decodes (get_or (take n ws) k 0) r → r ≡ decode_of (get_or ws k 0)
decoded_in ws n k r h e = decoded_is _ r e ∙ ap decode_of (counted_at ws n k 0 h)

-- ---- an option that was asked for by `?`

module _ {A E : Type 0} (refused : E) where
  pub was_some : (o : Option A) {x : A} → ok_or o refused ≡ Ok x → o ≡ Some x
  was_some (Some y) q = cc
  was_some None q = cc

  pub was_none : (o : Option A) {e : E} → ok_or o refused ≡ Err e → (o ≡ None) × (e ≡ refused)
  was_none (Some y) q = ((cc), (cc))
  was_none None q = (refl, (cc))
