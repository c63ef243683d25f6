-- A part of the bytes that is lent on has the same ones.
-- Assumes nothing.
use mathlib.Core.Path.{◌≡◌}
use mathlib.Core.List.{List}
use Prim.Native.Nat.{ℕ, ◌+◌, ◌<◌}
use lib.ListN.{take, drop, get_or}
use lib.Seq.{get_or-take, get_or-drop}

-- n bytes from a place on
module _ (bs : List ℕ) (at n : ℕ) where
  pub part_at : (k : ℕ) → k < n → get_or (take n (drop at bs)) k 0 ≡ get_or bs (at + k) 0
  part_at k h = rw (get_or-take, get_or-drop)
