-- Laws of text put into a block: none, one byte, and one text after another.
-- Assumes nothing.
use mathlib.Core.Path.{◌≡◌, refl, ap, sym, subst, ◌∙◌}
use mathlib.Core.List.{List, [], ◌∷◌, ◌++◌, append_assoc, append-nil}
use Prim.Native.Nat.{ℕ, ◌+◌, ◌≤◌, ◌<◌}
use native.Mathlib.Nat.{add-zero, min-le_right}
use native.Mathlib.Numerals.{add-one}
use native.Mathlib.Omega.{arith}
use lib.ListN.{length, take, set, length-append, length-set, length-take}
use lib.Seq.{take-suc-set, length-take-le}
use Rattle.lines.specs.Text.{Appended}

pub nothing : (block : List ℕ) (at : ℕ) → Appended block at [] block at
nothing block at = record { ends = sym (add-zero at); size = refl; text = sym (append-nil (take at block)) }

pub one : (block : List ℕ) (at byte : ℕ) → at < length block → Appended block at (byte ∷ []) (set block at byte) (at + 1)
one block at byte h =
    record {
      ends = refl;
      size = length-set block at byte;
      text = rw add-one (take-suc-set block at byte h);
    }

pub joined : {a b c xs ys : List ℕ} {i j k : ℕ} → Appended a i xs b j → Appended b j ys c k → Appended a i (xs ++ ys) c k
joined {a} {b} {c} {xs} {ys} {i} {j} {k} first second =
    record {
      ends = omega (arith, first.ends, second.ends, length-append xs ys);
      size = second.size ∙ first.size;
      text = second.text ∙ ap (λ (l : List ℕ). l ++ ys) first.text ∙ append_assoc (take i a) xs ys;
    }

pub text_is : {a b xs ys : List ℕ} {i j : ℕ} → xs ≡ ys → Appended a i xs b j → Appended a i ys b j
text_is {a} {b} {xs} {ys} {i} {j} e h = subst (λ (l : List ℕ). Appended a i l b j) e h

pub next_is : {a b xs : List ℕ} {i j k : ℕ} → j ≡ k → Appended a i xs b j → Appended a i xs b k
next_is {a} {b} {xs} {i} e h = subst (λ (n : ℕ). Appended a i xs b n) e h

-- the place after a text that begins in the block is in the block
pub inside : {a b xs : List ℕ} {i j : ℕ} → i ≤ length a → Appended a i xs b j → j ≤ length b
inside {a} {b} {xs} {i} {j} h put =
    let taken : length (take j b) ≡ j =
    ap length put.text ∙ length-append (take i a) xs ∙ ap (λ (n : ℕ). n + length xs) (length-take-le i a h) ∙ sym put.ends in
    omega (arith, taken, length-take j b, min-le_right j (length b))
