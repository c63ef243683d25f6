-- A record (STATEMENT, "The listing program"): eight bytes, M and P with the "low byte first"; "The cable byte counts 100 mA".
-- Assumes nothing.
use Rattle.std.specs.Prelude.{List, ℕ, ◌+◌, ◌*◌, get_or}
use Rattle.lists.specs.declared.Listing.{Listing}
use Rattle.rules.specs.declared.Profile.{Profile}
use Rattle.lines.specs.Text.{line_of}

-- the profile of the record whose first byte is at a place of the input
abbrev pub profile_at : List ℕ → ℕ → Profile
profile_at s at =
    record {
      max = record { 0 = get_or s at 0 + 256 * get_or s (at + 1) 0 };
      present = record { 0 = get_or s (at + 2) 0 + 256 * get_or s (at + 3) 0 };
      cable = record { 0 = get_or s (at + 4) 0 * 10 };
      rounding = get_or s (at + 5) 0;
      pps = get_or s (at + 6) 0;
      flags = get_or s (at + 7) 0;
    }

-- the line of a listing
abbrev pub listing_line : Listing → List ℕ
listing_line a = line_of a.verdict.number a.list.words a.list.count
