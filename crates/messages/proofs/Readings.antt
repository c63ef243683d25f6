-- The cases of taking a message apart and of reading it.
-- Assumes nothing.
use Rattle.std.specs.Prelude.{Result, Ok, Err}
use mathlib.Core.Path.{◌≡◌, refl, ap, sym, ◌∙◌}
use mathlib.Core.Bool.{Bool, true, false, not, ◌||◌, or-true}
use mathlib.Core.List.{List}
use Prim.Native.Nat.{ℕ, ◌≤◌, ◌<◌}
use lib.Dec.{ltb, eqb}
use lib.ListN.{length}
use borrow.Author.Tests.{lt-ltb, le-ltb, eq-eqb, ne_eqb}
use Rattle.verdicts.specs.declared.Verdict.{Verdict}
use Rattle.verdicts.specs.Refusals.{first_of, err, verdict_of, NoneApply}
use Rattle.verdicts.proofs.First.{hit, miss, numbered, numbered_append, none_applied, all_missed, onward, onto, said_first}
use Rattle.verdicts.proofs.Results.{value_meant}
use Rattle.messages.specs.declared.Header.{Header}
use Rattle.messages.specs.declared.Message.{Message}
use Rattle.messages.specs.declared.MessageReading.{MessageReading}
use Rattle.messages.specs.Headers.{length_of}
use Rattle.messages.specs.Refusing.{header_refusals, list_refusals}
use Rattle.messages.specs.Reading.{header_in, words_in, message_in, taking_refusals, reading_refusals, reading_refused, reading_told, read_as, taken_of, message_read_of}
use Rattle.messages.proofs.Refusals.{list_numbered}
use Rattle.messages.proofs.Steps.{stops_at, goes_past}

abbrev given : Message → Result Message Verdict
given m = Ok m

-- ---- 40

abbrev pub wrong_length : List ℕ → Bool
wrong_length bs = ltb (length bs) 2 || not (eqb (length bs) (length_of (header_in bs)))

-- any answer over the rows of taking apart
module _ {A : Type 0} (refused : ℕ → ℕ → A) (answer : A) (bs : List ℕ) where
  abbrev taking : A
  taking = first_of refused (taking_refusals bs) answer

  pub too_few_bytes : length bs < 2 → taking ≡ refused 40 0
  too_few_bytes h = hit refused answer 40 0 _ (simp (lt-ltb (length bs) 2 h))

  pub other_length : (length bs ≡ length_of (header_in bs) → ⊥) → taking ≡ refused 40 0
  other_length e = hit refused answer 40 0 _ (simp (ne_eqb (length bs) (length_of (header_in bs)) e) (or-true (ltb (length bs) 2)))

  module _ (h : 2 ≤ length bs) (e : length bs ≡ length_of (header_in bs)) where
    right_length : wrong_length bs ≡ false
    right_length = simp (le-ltb (length bs) 2 h, eq-eqb (length bs) (length_of (header_in bs)) e)

    -- 42, 41, 53
    pub by_header : taking ≡ first_of refused (header_refusals (header_in bs)) answer
    by_header = miss refused answer 40 0 _ right_length

module _ (bs : List ℕ) where
  pub taken_apart_lem : 2 ≤ length bs → length bs ≡ length_of (header_in bs) → (verdict_of (header_refusals (header_in bs))).number ≡ 0
      → taken_of bs ≡ read_as bs
  unfolding taken_of
  taken_apart_lem h e z =
      by_header reading_refused (read_as bs) bs h e
      ∙ all_missed reading_refused (read_as bs) (header_refusals (header_in bs)) (none_applied (header_refusals (header_in bs)) refl z)

  -- ---- what the verdict says

  pub taking_numbered : numbered (taking_refusals bs) ≡ true
  taking_numbered = refl

  pub reading_numbered : numbered (reading_refusals bs) ≡ true
  reading_numbered = numbered_append (taking_refusals bs) (list_refusals (message_in bs)) taking_numbered (list_numbered (message_in bs))

  pub taken_verdict_lem : (taken_of bs).verdict ≡ verdict_of (taking_refusals bs)
  unfolding taken_of
  taken_verdict_lem = said_first (λ (r : MessageReading). r.verdict) reading_refused (λ n p. refl) (taking_refusals bs) (read_as bs) refl

  pub read_verdict : (message_read_of bs).verdict ≡ verdict_of (reading_refusals bs)
  unfolding message_read_of
  read_verdict = said_first (λ (r : MessageReading). r.verdict) reading_refused (λ n p. refl) (reading_refusals bs) (read_as bs) refl

  none_taken : (taken_of bs).verdict.number ≡ 0 → NoneApply (taking_refusals bs)
  none_taken z = none_applied (taking_refusals bs) taking_numbered (sym (ap (λ (v : Verdict). v.number) taken_verdict_lem) ∙ z)

  module _ (z : (taken_of bs).verdict.number ≡ 0) where
    by_its_list : message_read_of bs ≡ first_of reading_refused (list_refusals (message_in bs)) (read_as bs)
    unfolding message_read_of
    by_its_list =
        onward reading_refused (read_as bs) (taking_refusals bs) (list_refusals (message_in bs))
        ∙ all_missed reading_refused _ (taking_refusals bs) (none_taken z)

    pub read_whole : (verdict_of (list_refusals (message_in bs))).number ≡ 0 → message_read_of bs ≡ read_as bs
    read_whole y =
        by_its_list
        ∙ all_missed reading_refused (read_as bs) (list_refusals (message_in bs)) (none_applied (list_refusals (message_in bs)) (list_numbered (message_in bs)) y)

  -- ---- as results

  pub taken_told : reading_told (first_of err (taking_refusals bs) (Ok (message_in bs))) ≡ taken_of bs
  unfolding taken_of
  taken_told = onto reading_told err (taking_refusals bs) (Ok (message_in bs))

  pub read_told : reading_told (first_of err (reading_refusals bs) (Ok (message_in bs))) ≡ message_read_of bs
  unfolding message_read_of
  read_told = onto reading_told err (reading_refusals bs) (Ok (message_in bs))

  -- ---- from the header to the message

  pub whole_by_header : {h : Header} {m : Message} → Ok h ≡ first_of err (taking_refusals bs) (Ok (header_in bs))
      → m ≡ record { header = h; words = words_in bs h.count } → Ok m ≡ first_of err (taking_refusals bs) (Ok (message_in bs))
  whole_by_header e f =
      ap given (f ∙ ap (λ (h : Header). record { header = h; words = words_in bs h.count }) (value_meant (header_in bs) (taking_refusals bs) (sym e)))
      ∙ sym (goes_past (header_in bs) (taking_refusals bs) e err (given (message_in bs)))

  pub refused_by_header : {v : Verdict} → Err v ≡ first_of err (taking_refusals bs) (Ok (header_in bs))
      → Err v ≡ first_of err (taking_refusals bs) (Ok (message_in bs))
  refused_by_header e = sym (stops_at (header_in bs) (taking_refusals bs) e err (given (message_in bs)))
