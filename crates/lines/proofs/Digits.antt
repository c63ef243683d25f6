-- Eight hex digits fit a word.
-- Assumes nothing.
use mathlib.Core.Path.{◌≡◌}
use mathlib.Core.List.{List}
use Prim.Native.Nat.{ℕ, ◌<◌, ◌^◌}
use lib.ListN.{length}
use Rattle.std.specs.Str.Parse.{IsNumeral, digits_value}
use Rattle.std.proofs.Common.{rules}
use Rattle.std.proofs.lemmas.Int.Digits.{digits_value-lt}

pub eight : (ds : List ℕ) → IsNumeral 16 ds → length ds ≡ 8 → digits_value 16 ds < 2 ^ 32
eight ds h e = search (rules, digits_value-lt 16 ds h.1)
