-- What each public call of this crate promises of its answer (STATEMENT, "Object words" and "Sink objects"). The contracts cite these names, and so do the
-- theorems over them.
-- Assumes nothing.
use Rattle.std.specs.Prelude.{◌≡◌, Bool, ℕ, Option}
use Rattle.objects.specs.declared.Side.{Side}
use Rattle.objects.specs.declared.Object.{Object}
use Rattle.objects.specs.Decode.{is_kind, decoded_says, word_says, word_says_for}
use Rattle.objects.specs.Reserved.{reserved_set}
use Rattle.objects.specs.Encode.{encoded_says, object_says}

abbrev pub TellsKind : ℕ → ℕ → Bool → Type 0
TellsKind w kind r = r ≡ is_kind w kind

abbrev pub Decodes : ℕ → Option Object → Type 0
Decodes w r = decoded_says r ≡ word_says w

abbrev pub DecodesFor : Side → ℕ → Option Object → Type 0
DecodesFor side w r = decoded_says r ≡ word_says_for side w

abbrev pub TellsReserved : Side → Object → Bool → ℕ → Bool → Type 0
TellsReserved side o first w r = r ≡ reserved_set side o first w

abbrev pub Encodes : Object → Option ℕ → Type 0
Encodes o r = encoded_says r ≡ object_says o
