-- What is said of every object of a list, by the contract of `decode`: each word within the count is one, and has the property. Words are looked up
-- from 0 on.
-- Assumes nothing.
use Rattle.std.specs.Prelude.{ℕ, ◌<◌, get_or, Option, Some, None}
use Rattle.objects.specs.declared.Object.{Object}
use Rattle.lists.specs.declared.Words.{Words}
use Rattle.demands.specs.CallContracts.{DecodeAnswers}

abbrev pub OfObject : (Object → Type 0) → Option Object → Type 0
OfObject Q (Some o) = Q o
OfObject Q None = ⊥

abbrev pub EachObject : (Object → Type 0) → Words → Type 0
EachObject Q l = (k : ℕ) → k < l.count → (d : Option Object) → DecodeAnswers (get_or l.words k 0) d → OfObject Q d
