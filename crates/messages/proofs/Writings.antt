-- The cases of writing a message. The answer and the buffer go by one table, so each case is said once, of any answer by that table.
-- Assumes nothing.
use Rattle.std.specs.Prelude.{Ok}
use mathlib.Core.Path.{◌≡◌, refl, ◌∙◌}
use mathlib.Core.Bool.{true, false, not}
use mathlib.Core.List.{List, ◌∷◌, ◌++◌}
use Prim.Native.Nat.{ℕ, ◌≤◌, ◌<◌}
use lib.Dec.{ltb}
use borrow.Author.Tests.{lt-ltb, le-ltb}
use Rattle.verdicts.specs.Refusals.{Refusal, refusal, first_of, err, verdict_of}
use Rattle.verdicts.proofs.First.{hit, miss, numbered, numbered_append, none_applied, all_missed, refused_so, onto, stops, goes_on_lem}
use Rattle.objects.specs.Layout.{all_fit}
use Rattle.messages.specs.declared.Message.{Message}
use Rattle.messages.specs.Headers.{fields_of, length_of}
use Rattle.messages.specs.Refusing.{header_refusals, list_refusals}
use Rattle.messages.specs.Writing.{writing_refusals, writing_told, written_of}
use Rattle.messages.proofs.Refusals.{list_numbered}

abbrev pub room_refusals : ℕ → Message → List Refusal
room_refusals room m = refusal (ltb room (length_of m.header)) 52 0 ∷ list_refusals m

pub writing_numbered : (room : ℕ) (m : Message) → numbered (writing_refusals room m) ≡ true
writing_numbered room m = numbered_append (header_refusals m.header) (room_refusals room m) refl (list_numbered m)

module _ {A : Type 0} (refused : ℕ → ℕ → A) (answer : A) (room : ℕ) (m : Message) where
  abbrev answered : A
  answered = first_of refused (writing_refusals room m) answer

  -- by the room, and then by the list
  abbrev roomed : A
  roomed = first_of refused (room_refusals room m) answer

  pub no_room : room < length_of m.header → roomed ≡ refused 52 0
  no_room h = hit refused answer 52 0 _ (lt-ltb room (length_of m.header) h)

  pub past_room : length_of m.header ≤ room → roomed ≡ first_of refused (list_refusals m) answer
  past_room h = miss refused answer 52 0 _ (le-ltb room (length_of m.header) h)

  pub wide : not (all_fit (fields_of m.header)) ≡ true → answered ≡ refused 51 0
  wide e = hit refused answer 51 0 _ e

  module _ (fit : not (all_fit (fields_of m.header)) ≡ false) where
    pub past_fields : answered ≡ first_of refused (header_refusals m.header ++ room_refusals room m) answer
    past_fields = miss refused answer 51 0 _ fit

    pub header_refused : ((verdict_of (header_refusals m.header)).number ≡ 0 → ⊥)
        → answered ≡ refused (verdict_of (header_refusals m.header)).number (verdict_of (header_refusals m.header)).place
    header_refused f = past_fields ∙ stops refused (header_refusals m.header) (room_refusals room m) answer f

    pub no_room_at_all : (verdict_of (header_refusals m.header)).number ≡ 0 → room < length_of m.header → answered ≡ refused 52 0
    no_room_at_all z h = past_fields ∙ goes_on_lem refused (header_refusals m.header) (room_refusals room m) answer refl z ∙ no_room h

    module _ (z : (verdict_of (header_refusals m.header)).number ≡ 0) (h : length_of m.header ≤ room) where
      past_all : answered ≡ first_of refused (list_refusals m) answer
      past_all = past_fields ∙ goes_on_lem refused (header_refusals m.header) (room_refusals room m) answer refl z ∙ past_room h

      pub misshapen : ((verdict_of (list_refusals m)).number ≡ 0 → ⊥)
          → answered ≡ refused (verdict_of (list_refusals m)).number (verdict_of (list_refusals m)).place
      misshapen f = past_all ∙ refused_so refused (list_refusals m) f answer

      pub written : (verdict_of (list_refusals m)).number ≡ 0 → answered ≡ answer
      written y = past_all ∙ all_missed refused answer (list_refusals m) (none_applied (list_refusals m) (list_numbered m) y)

-- ---- as results

pub written_told : (room : ℕ) (m : Message) → writing_told (first_of err (writing_refusals room m) (Ok (length_of m.header))) ≡ written_of room m
unfolding written_of
written_told room m = onto writing_told err (writing_refusals room m) (Ok (length_of m.header))
