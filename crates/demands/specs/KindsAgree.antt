-- One reading of a kind: what `is_kind` tells of a word, for a caller that needs no object, agrees with what `decode` makes of the word. This
-- holds for every word and every number. `is_kind_agrees` and `is_kind_not_allowed` in proofs/KindsAgree.antt prove the two claims
-- (docs/STATEMENT.md, "Object words").
-- Assumes nothing.
use Rattle.std.specs.Prelude.{◌≡◌, Bool, true, ◌⊎◌, ℕ, eqb, Some, None}
use Rattle.objects.specs.declared.Object.{Object}
use Rattle.objects.specs.Decode.{kind_number}
use Rattle.demands.specs.CallContracts.{DecodeAnswers, IsKindAnswers}

-- of a word with an object: the number of its kind, and no other
abbrev pub IsKindAgrees : Type 0
IsKindAgrees = (w kind : ℕ) (o : Object) (r : Bool) → DecodeAnswers w (Some o) → IsKindAnswers w kind r → r ≡ eqb (kind_number o) kind

-- of a word without one: 1101b or 1111b
abbrev pub IsKindNotAllowed : Type 0
IsKindNotAllowed = (w kind : ℕ) → DecodeAnswers w None → IsKindAnswers w kind true → (kind ≡ 13) ⊎ (kind ≡ 15)
