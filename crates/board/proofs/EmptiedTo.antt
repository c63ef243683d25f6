-- The rows of which the first n are emptied: their number, that all of them emptied are `map emptied`, and that set-up empties all or none.
-- Assumes nothing.
use mathlib.Core.Path.{◌≡◌, refl, sym, ◌∙◌, ap, subst}
use Prim.Native.Nat.{ℕ, zero, suc, ◌<◌, ◌≤◌}
use native.Mathlib.Nat.{le_refl, le_of_suc-le-suc, eq-or-lt_of_le}
use native.Mathlib.Omega.{arith}
use mathlib.Core.Bool.{Bool, true, false, cond}
use mathlib.Core.List.{List, map}
use mathlib.Core.Logic.{⊎_elim}
use lib.ListN.{length, length-set, length-map, get_or, get_or-map}
use lib.Seq.{get_or-set_same, get_or-set_other, ext_get_or}
use Rattle.ports.specs.declared.Row.{Row}
use Rattle.ports.specs.Rows.{no_row, emptied}
use Rattle.ports.specs.Standing.{standing, standing_of, all_or_none}
use Rattle.ports.specs.Lending.{set_up_rows}
use Rattle.ports.proofs.Standings.{count_kept}
use Rattle.ports.proofs.Said.{set_up_said}
use Rattle.board.specs.Rows.{emptied_to}

-- the row that is emptied after n are
abbrev next : ℕ → List Row → Row
next n ys = emptied (get_or (emptied_to n ys) n no_row)

pub length_emptied : (n : ℕ) (ys : List Row) → length (emptied_to n ys) ≡ length ys
length_emptied zero ys = refl
length_emptied (suc n) ys = length-set (emptied_to n ys) n (next n ys) ∙ length_emptied n ys

as_it_was : (n k : ℕ) (d : Row) (ys : List Row) → n ≤ k → get_or (emptied_to n ys) k d ≡ get_or ys k d
as_it_was zero k d ys l = refl
as_it_was (suc n) k d ys l =
    get_or-set_other (emptied_to n ys) n k (next n ys) d (λ q. omega (arith, l, q)) ∙ as_it_was n k d ys (omega (arith, l))

each_emptied : (n k : ℕ) (d : Row) (ys : List Row) → n ≤ length ys → k < n → get_or (emptied_to n ys) k d ≡ emptied (get_or ys k no_row)
each_emptied zero k d ys l h = absurd (omega (arith, h))
each_emptied (suc n) k d ys l h = ⊎_elim
    (λ (e : k ≡ n). subst (λ (j : ℕ). get_or (emptied_to (suc n) ys) j d ≡ emptied (get_or ys j no_row)) (sym e)
    (get_or-set_same (emptied_to n ys) n (next n ys) d (omega (arith, l, length_emptied n ys)) ∙ ap emptied (as_it_was n n no_row ys (le_refl n))))
    (λ (e : k < n). get_or-set_other (emptied_to n ys) n k (next n ys) d (λ q. omega (arith, e, q)) ∙ each_emptied n k d ys (omega (arith, l)) e)
    (eq-or-lt_of_le (le_of_suc-le-suc h))

all_emptied : (ys : List Row) → emptied_to (length ys) ys ≡ map emptied ys
all_emptied ys = ext_get_or (emptied no_row) _ _ (length_emptied (length ys) ys ∙ sym (length-map ys emptied)) (λ k h.
    each_emptied (length ys) k (emptied no_row) ys (le_refl (length ys)) (omega (arith, h, length_emptied (length ys) ys))
    ∙ sym (get_or-map emptied ys k no_row))

all_or_none_lem : (z : Bool) (ys : List Row) → emptied_to (cond z (length ys) 0) ys ≡ cond z (map emptied ys) ys
all_or_none_lem true ys = all_emptied ys
all_or_none_lem false ys = refl

pub set_up_emptied : (ys : List Row) (capacity : ℕ) → emptied_to (all_or_none (standing_of true capacity ys)) ys ≡ set_up_rows capacity ys
unfolding all_or_none
set_up_emptied ys capacity =
    ap (λ (n : ℕ). emptied_to (cond (standing (standing_of true capacity ys)) n 0) ys) (count_kept true capacity ys (length ys))
    ∙ (all_or_none_lem (standing (standing_of true capacity ys)) ys ∙ (set_up_said ys capacity).1)
