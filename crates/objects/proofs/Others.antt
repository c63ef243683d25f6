-- What `let .. else` tells of an object in its `else`: its variant's number is one of the others'.
-- Assumes nothing.
use mathlib.Core.Path.{◌≡◌}
use mathlib.Core.Bool.{Bool, true, not, ◌&&◌, and-eq-true_iff}
use mathlib.Core.List.{List, [], ◌∷◌}
use mathlib.Core.Logic.{⊎_elim}
use Prim.Native.Nat.{ℕ}
use lib.Dec.{eqb}
use borrow.Author.Tests.{eqb-false, not-true}
use types.Run.{OneOf}

abbrev pub none_is : ℕ → List ℕ → Bool
none_is x [] = true
none_is x (k ∷ ks) = not (eqb x k) && none_is x ks

pub apart : (x : ℕ) (ks : List ℕ) → none_is x ks ≡ true → OneOf ks x → ⊥
apart x [] t h = h
apart x (k ∷ []) t h = eqb-false x k (not-true (eqb x k) ((and-eq-true_iff (not (eqb x k)) true).0 t).0) h
apart x (k ∷ j ∷ ks) t h =
    let s = (and-eq-true_iff (not (eqb x k)) (none_is x (j ∷ ks))).0 t in
    ⊎_elim (λ e. eqb-false x k (not-true (eqb x k) s.0) e) (λ g. apart x (j ∷ ks) s.1 g) h
