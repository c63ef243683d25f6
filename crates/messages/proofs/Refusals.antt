-- The cases of what is refused by the header, and by the list of a message.
-- Assumes nothing.
use mathlib.Core.Path.{◌≡◌, refl}
use mathlib.Core.Bool.{Bool, true, false, cond}
use mathlib.Core.List.{[]}
use Prim.Native.Nat.{ℕ}
use lib.Dec.{eqb}
use borrow.Author.Tests.{eq-eqb, ne_eqb}
use Rattle.verdicts.specs.Refusals.{first_of}
use Rattle.verdicts.proofs.First.{numbered}
use Rattle.objects.specs.declared.Side.TheVariants.{Source}
use Rattle.lists.specs.Shape.{shape_refusals}
use Rattle.lists.proofs.Shapes.{shape_numbered}
use Rattle.messages.specs.declared.Header.{Header}
use Rattle.messages.specs.declared.Message.{Message}
use Rattle.messages.specs.Refusing.{header_refusals, list_in, list_refusals}

-- ---- the header, case by case, and any answer over its rows

module _ {A : Type 0} (refused : ℕ → ℕ → A) (answer : A) (h : Header) where
  abbrev judged : A
  judged = first_of refused (header_refusals h) answer

  pub extended_refused : (h.extended ≡ 0 → ⊥) → judged ≡ refused 42 0
  unfolding first_of
  extended_refused e = simp (ne_eqb h.extended 0 e)

  module _ (e : h.extended ≡ 0) where
    pub list_passes : h.message_type ≡ 1 → judged ≡ answer
    unfolding first_of
    list_passes t = rw (e, t)

    pub request_passes : h.message_type ≡ 2 → h.count ≡ 1 → judged ≡ answer
    unfolding first_of
    request_passes t n = rw (e, t, n)

    pub request_miscounted : h.message_type ≡ 2 → (h.count ≡ 1 → ⊥) → judged ≡ refused 53 0
    unfolding first_of
    request_miscounted t n = rw (e, t) (simp (ne_eqb h.count 1 n))

    pub other_refused : (h.message_type ≡ 1 → ⊥) → (h.message_type ≡ 2 → ⊥) → judged ≡ refused 41 0
    unfolding first_of
    other_refused s t = rw e (simp (ne_eqb h.message_type 1 s, ne_eqb h.message_type 2 t))

-- ---- the list

module _ (m : Message) where
  pub no_list : (m.header.message_type ≡ 1 → ⊥) → list_refusals m ≡ []
  no_list e = simp (ne_eqb m.header.message_type 1 e)

  pub a_list : m.header.message_type ≡ 1 → list_refusals m ≡ shape_refusals (list_in m)
  a_list e = simp (eq-eqb m.header.message_type 1 e)

  pub list_numbered : numbered (list_refusals m) ≡ true
  list_numbered = go (eqb m.header.message_type 1) where
    go : (b : Bool) → numbered (cond b (shape_refusals (list_in m)) []) ≡ true
    go true = shape_numbered Source (list_in m)
    go false = refl
