-- What the program has read and what it has printed, where the source says which bytes it will give and the writer which it holds.
-- Assumes nothing.
use Rattle.std.specs.Prelude.{◌≡◌, List, ◌++◌, ℕ, ◌+◌, ◌<◌, length, Option, Some, None}
use Rattle.std.specs.Io.KnownBytes.{prepend_known, append_known, Keeps, Appends, IsAtEnd}
use Rattle.printed.specs.Printed.{printed_of}

-- the bytes that are still to be read, where they are known, and those that are read and not yet listed
pub record Bytes : Type 0 where
  pub left : Option (List ℕ)
  pub held : List ℕ

-- the bytes that are written, where they are known, and those that wait
pub record Lines : Type 0 where
  pub written : Option (List ℕ)
  pub waiting : List ℕ

-- the input that is not yet listed
abbrev pub unlisted : Bytes → Option (List ℕ)
unlisted b = prepend_known b.held b.left

-- the output, once the lines that wait are written
abbrev pub made : Lines → Option (List ℕ)
made l = append_known l.written l.waiting

-- the output grows by some bytes, written or waiting
abbrev pub Adds : Lines → Lines → List ℕ → Type 0
Adds old new bytes = Appends (made old) (made new) bytes

-- a read of n bytes; it gives none only at the end
pub record Reads (old new : Bytes) (n : ℕ) : Type 0 where
  pub same : Keeps (unlisted old) (unlisted new)
  pub size : length new.held ≡ length old.held + n
  pub end : n ≡ 0 → length old.held < 65536 → IsAtEnd new.left

-- an output so far, and what is printed for the rest of the input
abbrev pub output_of : Option (List ℕ) → Option (List ℕ) → Option (List ℕ)
output_of (Some made) (Some rest) = Some (made ++ printed_of rest)
output_of (Some made) None = None
output_of None rest = None

-- what waited and the lines of all the input are written
abbrev pub PrintsAll : Lines → Bytes → Lines → Type 0
PrintsAll before input after = Keeps (output_of (made before) (unlisted input)) after.written
