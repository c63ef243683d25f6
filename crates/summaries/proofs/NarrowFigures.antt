-- The figures of an object that was taken out of a word are narrow: they have as many bits as the word has for them.
-- Assumes nothing.
use Rattle.std.specs.Prelude.{Option, Some, None}
use mathlib.Core.Path.{◌≡◌, subst}
use Prim.Native.Nat.{ℕ, zero, suc}
use Rattle.objects.specs.Bits.{bits}
use Rattle.objects.specs.declared.Object.{Object}
use Rattle.objects.specs.Decode.{by_augmented, by_kind, decode_of}
use Rattle.objects.proofs.Taking.{bits_lt}
use Rattle.summaries.specs.Narrow.{Narrow}

abbrev NarrowIn : Option Object → Type 0
NarrowIn (Some o) = Narrow o
NarrowIn None = Unit

module _ (w : ℕ) where
  augmented_narrow : (k : ℕ) → NarrowIn (by_augmented k w)
  augmented_narrow zero = (bits_lt w 24 17, (bits_lt w 15 8, bits_lt w 6 0))
  augmented_narrow (suc zero) = tt
  augmented_narrow (suc (suc zero)) = (bits_lt w 19 10, bits_lt w 9 0)
  augmented_narrow (suc (suc (suc k))) = tt

  kind_narrow : (k : ℕ) → NarrowIn (by_kind k w)
  kind_narrow zero = (bits_lt w 19 10, bits_lt w 9 0)
  kind_narrow (suc zero) = (bits_lt w 29 20, bits_lt w 19 10)
  kind_narrow (suc (suc zero)) = (bits_lt w 29 20, (bits_lt w 19 10, bits_lt w 9 0))
  kind_narrow (suc (suc (suc k))) = augmented_narrow (bits w 29 28)

  pub decoded_narrow : (o : Object) → decode_of w ≡ Some o → Narrow o
  unfolding decode_of
  decoded_narrow o e = subst NarrowIn e (kind_narrow (bits w 31 30))
