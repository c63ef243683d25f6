-- Numbers that are told one after the other.
-- Assumes nothing.
use mathlib.Core.Path.{◌≡◌, refl, ap, sym, ◌∙◌}
use mathlib.Core.List.{List, [], ◌∷◌, ◌++◌, append_assoc}
use Prim.Native.Nat.{ℕ, min}
use lib.ListN.{length, take}
use Rattle.std.proofs.lemmas.List.{take_min}
use Rattle.std.specs.Fmt.{decimal}
use Rattle.lines.specs.Text.{Appended}
use Rattle.lines.specs.Numbers.{numbers_text}
use Rattle.lines.proofs.Appending.{joined, text_is}

both : (xs ys : List ℕ) → numbers_text (xs ++ ys) ≡ numbers_text xs ++ numbers_text ys
both [] ys = refl
both (x ∷ xs) ys =
    ap (λ (l : List ℕ). 32 ∷ decimal x ++ l) (both xs ys)
    ∙ ap (λ (l : List ℕ). 32 ∷ l) (sym (append_assoc (decimal x) (numbers_text xs) (numbers_text ys)))

-- one number more
pub one_more : {a b c : List ℕ} {i j k : ℕ} (xs : List ℕ) (n : ℕ)
    → Appended a i (numbers_text xs) b j → Appended b j (numbers_text (n ∷ [])) c k → Appended a i (numbers_text (xs ++ (n ∷ []))) c k
one_more xs n before one = text_is (sym (both xs (n ∷ []))) (joined before one)

-- so many numbers at most
pub at_most : (n : ℕ) (ns : List ℕ) → take (min n (length ns)) ns ≡ take n ns
at_most n ns = take_min n ns
