-- The words past the count are not looked at: messages that agree up to it are written alike.
-- Assumes nothing.
use mathlib.Core.Path.{◌≡◌, refl, ap, ap₂, sym, ◌∙◌}
use mathlib.Core.Bool.{Bool, true, false, not, cond}
use mathlib.Core.List.{List, [], ◌∷◌, ◌++◌}
use Prim.Native.Nat.{ℕ, zero, suc, ◌<◌}
use native.Mathlib.Nat.{lt-suc_self}
use native.Mathlib.Omega.{arith}
use lib.Dec.{ltb}
use lib.ListN.{length, drop, get_or}
use Rattle.verdicts.specs.Refusals.{Refusal, refusal, first_of, success}
use Rattle.verdicts.proofs.First.{onward}
use Rattle.objects.specs.declared.Side.TheVariants.{Source}
use Rattle.objects.specs.Layout.{all_fit, joined}
use Rattle.lists.specs.Shape.{shape_refusals}
use Rattle.lists.proofs.Unread.{counting, same_by_shape}
use Rattle.messages.specs.declared.Header.{Header}
use Rattle.messages.specs.declared.Message.{Message}
use Rattle.messages.specs.LowFirst.{two_bytes, four_bytes}
use Rattle.messages.specs.Headers.{fields_of, length_of}
use Rattle.messages.specs.Refusing.{is_source_capabilities, header_refusals, list_refusals}
use Rattle.messages.specs.Writing.{word_bytes, bytes_of, writing_refusals, writing_refused, laid_over, written_of, buffer_after}
use Rattle.messages.specs.Kept.{AgreeMessages}

abbrev carrying : Header → List ℕ → Message
carrying h ws = record { header = h; words = ws }

same_word_bytes : (ws vs : List ℕ) (n : ℕ) → ((k : ℕ) → k < n → get_or ws k 0 ≡ get_or vs k 0) → word_bytes ws n ≡ word_bytes vs n
same_word_bytes ws vs zero e = refl
same_word_bytes ws vs (suc n) e =
    ap₂ (λ (before : List ℕ) (w : ℕ). before ++ four_bytes w) (same_word_bytes ws vs n (λ k h. e k (omega arith))) (e n (lt-suc_self n))

-- any answer over the rows of the list
same_list : (h : Header) (ws vs : List ℕ) → ((k : ℕ) → k < h.count → get_or ws k 0 ≡ get_or vs k 0)
    → {A : Type 0} (refused : ℕ → ℕ → A) (x y : A) → x ≡ y
    → first_of refused (list_refusals (carrying h ws)) x ≡ first_of refused (list_refusals (carrying h vs)) y
unfolding first_of
same_list h ws vs e {A} refused x y q = go (is_source_capabilities h) where
  go : (b : Bool)
      → first_of refused (cond b (shape_refusals (counting ws h.count)) []) x
      ≡ first_of refused (cond b (shape_refusals (counting vs h.count)) []) y
  go true = same_by_shape Source ws vs h.count e refused x y q
  go false = q

module _ (m n : Message) (a : AgreeMessages m n) where
  pub list_unread : {A : Type 0} (refused : ℕ → ℕ → A) (x y : A) → x ≡ y
      → first_of refused (list_refusals m) x ≡ first_of refused (list_refusals n) y
  list_unread refused x y q =
      same_list m.header m.words n.words a.words refused x y q
      ∙ ap (λ (h : Header). first_of refused (list_refusals (carrying h n.words)) y) a.header

  bytes_unread : bytes_of m ≡ bytes_of n
  bytes_unread =
      ap (λ (l : List ℕ). two_bytes (joined (fields_of m.header)) ++ l) (same_word_bytes m.words n.words m.header.count a.words)
      ∙ ap (λ (h : Header). bytes_of (carrying h n.words)) a.header

  -- any answer over the rows of writing
  same_writing : (room : ℕ) {A : Type 0} (refused : ℕ → ℕ → A) (x y : A) → x ≡ y
      → first_of refused (writing_refusals room m) x ≡ first_of refused (writing_refusals room n) y
  same_writing room refused x y q =
      onward refused x (before m.header) (list_refusals m)
      ∙ ap (first_of refused (before m.header)) (list_unread refused x y q)
      ∙ ap (λ (h : Header). first_of refused (before h) (first_of refused (list_refusals n) y)) a.header
      ∙ sym (onward refused y (before n.header) (list_refusals n)) where
        before : Header → List Refusal
        before h = refusal (not (all_fit (fields_of h))) 51 0 ∷ (header_refusals h ++ (refusal (ltb room (length_of h)) 52 0 ∷ []))

  pub written_unread : (room : ℕ) → written_of room m ≡ written_of room n
  unfolding written_of
  written_unread room =
      same_writing room writing_refused _ _ (ap (λ (h : Header). record { verdict = success; length = length_of h }) a.header)

  pub buffer_unread : (bs : List ℕ) → buffer_after bs m ≡ buffer_after bs n
  unfolding buffer_after
  buffer_unread bs =
      same_writing (length bs) (λ i p. bs) (laid_over bs m) (laid_over bs n)
      (ap₂ (λ (l : List ℕ) (h : Header). l ++ drop (length_of h) bs) bytes_unread a.header)
