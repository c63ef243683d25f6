-- The order of refusals where C hands in an object of no kind, by example: 10, 7, 11, then word by word, then 17. The table has lists with what
-- `arin_write` has to answer, and the claim is that the definition which its contract cites gives just that, row by row. `write_order` in
-- proofs/NoKindCases.antt proves `WriteOrder` by computation (docs/STATEMENT.md, "Refusal numbers").
-- Assumes nothing.
use Rattle.std.specs.Prelude.{◌≡◌, List, [], ◌∷◌, map, ℕ}
use Rattle.verdicts.specs.declared.Verdict.{Verdict}
use Rattle.verdicts.specs.Refusals.{verdict}
use Rattle.flat.specs.declared.FlatObject.{FlatObject}
use Rattle.flat.specs.Flat.{flat_fixed, flat_avs, no_mv50, no_mv100, no_ma10, no_ma50, no_mw250}
use Rattle.flat.specs.Writing.{flat_write_of}

-- fixed, by its flags, its voltage in 50 mV and its current in 10 mA
abbrev pub fixed : ℕ → ℕ → ℕ → FlatObject
fixed flags volts current = flat_fixed flags 0 (record { 0 = volts }) (record { 0 = current })

-- AVS with a current for 9 to 15 V alone
abbrev pub avs : ℕ → FlatObject
avs low = flat_avs 0 (record { 0 = low }) no_ma10

-- an object of this kind number, with flags that no object could have
abbrev pub kind : ℕ → FlatObject
kind n =
    record { kind = n; flags = 255; peak = 0; limited = 0; volts = no_mv50; max = no_mv50; min = no_mv50; power = no_mw250; current = no_ma10; max100 = no_mv100; min100 = no_mv100; current50 = no_ma50; low = no_ma10; high = no_ma10 }

-- so many objects, and what `arin_write` has to answer
pub data Case : Type 0 where
  case : ℕ → List FlatObject → Verdict → Case

abbrev pub given : Case → Verdict
given (case n fs v) = (flat_write_of (record { places = fs; count = n })).verdict

abbrev pub said : Case → Verdict
said (case n fs v) = v

abbrev pub table : List Case
table =
    -- 10 comes first
    case 0 (kind 5 ∷ []) (verdict 10 0)
    ∷ case 8 (kind 5 ∷ []) (verdict 10 0)
    -- then 7, of a known kind, wherever it stands
    ∷ case 2 (kind 5 ∷ fixed 200 180 300 ∷ []) (verdict 7 2)
    ∷ case 3 (fixed 0 100 300 ∷ kind 5 ∷ fixed 200 180 300 ∷ []) (verdict 7 3)
    -- then 11: an unknown kind is not fixed 5 V
    ∷ case 1 (kind 5 ∷ []) (verdict 11 1)
    ∷ case 3 (fixed 0 180 300 ∷ fixed 0 300 300 ∷ kind 9 ∷ []) (verdict 11 1)
    -- then word by word: what earlier words have comes before 12, what later words have after it
    ∷ case 3 (fixed 0 100 300 ∷ fixed 1 180 300 ∷ kind 5 ∷ []) (verdict 13 2)
    ∷ case 3 (fixed 0 100 300 ∷ fixed 0 401 300 ∷ kind 5 ∷ []) (verdict 15 2)
    ∷ case 3 (fixed 0 100 300 ∷ fixed 0 400 501 ∷ kind 5 ∷ []) (verdict 16 2)
    ∷ case 3 (fixed 0 100 300 ∷ fixed 0 100 300 ∷ kind 5 ∷ []) (verdict 14 2)
    ∷ case 3 (fixed 0 100 300 ∷ kind 5 ∷ fixed 0 401 300 ∷ []) (verdict 12 2)
    ∷ case 3 (fixed 0 100 300 ∷ fixed 0 180 300 ∷ kind 255 ∷ []) (verdict 12 3)
    -- and 17 last
    ∷ case 3 (fixed 0 100 300 ∷ avs 300 ∷ kind 5 ∷ []) (verdict 12 3)
    ∷ case 2 (fixed 0 100 300 ∷ avs 300 ∷ kind 5 ∷ []) (verdict 17 2)
    -- past the count it is nothing
    ∷ case 1 (fixed 0 100 300 ∷ kind 5 ∷ []) (verdict 0 0)
    ∷ []

-- what the definition gives for the table is what the table says
abbrev pub WriteOrder : Type 0
WriteOrder = map given table ≡ map said table
