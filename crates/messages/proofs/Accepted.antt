-- What a success says of a message, and what then comes back.
-- Assumes nothing.
use mathlib.Core.Path.{◌≡◌, refl, ap, ap₂, sym, subst, ◌∙◌}
use mathlib.Core.Bool.{cond, true≢false, Bool, true, false, not}
use mathlib.Core.List.{List, [], ◌∷◌, ◌++◌}
use Prim.Native.Nat.{ℕ, ◌≤◌}
use native.Mathlib.Omega.{arith}
use lib.Dec.{ltb, eqb}
use lib.ListN.{length, take, drop, get_or, length-append, length-drop}
use lib.Seq.{take_at, drop_at}
use borrow.Author.Tests.{ltb-false, eqb-true, eqb-false, not-false}
use Rattle.verdicts.specs.declared.Verdict.{Verdict}
use Rattle.verdicts.specs.Refusals.{Refusal, refusal, verdict, success, verdict_of, NoneApply}
use Rattle.verdicts.proofs.Bools.{either_false}
use Rattle.verdicts.proofs.First.{all_pass, pass_append, pass_places, number_passes, none_applied, none_left, none_right, all_missed, refused_so, passes, said_first}
use Rattle.objects.specs.declared.Side.TheVariants.{Source}
use Rattle.objects.specs.Layout.{all_fit}
use Rattle.lists.specs.declared.Words.{Words}
use Rattle.lists.specs.Kept.{Words32}
use Rattle.lists.specs.Shape.{word_rows, avs_rows, agreement_rows, shape_refusals}
use Rattle.lists.proofs.Sevens.{filled_at}
use Rattle.lists.proofs.Shapes.{words_part}
use Rattle.messages.specs.declared.Header.{Header}
use Rattle.messages.specs.declared.Message.{Message}
use Rattle.messages.specs.declared.MessageReading.{MessageReading}
use Rattle.messages.specs.declared.Written.{Written}
use Rattle.messages.specs.Headers.{fields_of, length_of}
use Rattle.messages.specs.Refusing.{is_source_capabilities, header_refusals, list_in, list_refusals}
use Rattle.messages.specs.Reading.{header_in, message_in, taking_refusals, reading_refusals, read_as, taken_of, message_read_of}
use Rattle.messages.specs.Writing.{bytes_of, writing_refusals, writing_refused, laid_over, written_of, buffer_after}
use Rattle.messages.specs.Kept.{kept_message, Bytes8, AgreeMessages}
use Rattle.messages.proofs.HeaderFields.{taken_fit, fit_count}
use Rattle.messages.proofs.Readings.{taking_numbered, reading_numbered, taken_verdict_lem, read_verdict, taken_apart_lem, read_whole}
use Rattle.messages.proofs.Writings.{writing_numbered, wide, header_refused, misshapen, written}
use Rattle.messages.proofs.RoundTrips.{header_back, message_back, bytes_length, bytes_back}
use Rattle.messages.proofs.Unread.{list_unread}

abbrev number_of : List Refusal → ℕ
number_of rs = (verdict_of rs).number

none_says : (rs : List Refusal) → NoneApply rs → number_of rs ≡ 0
none_says rs x = ap (λ (v : Verdict). v.number) (all_missed verdict success rs x)

-- ---- a message that is written

pub written_verdict : (room : ℕ) (m : Message) → (written_of room m).verdict ≡ verdict_of (writing_refusals room m)
unfolding written_of
written_verdict room m =
    said_first (λ (r : Written). r.verdict) writing_refused (λ n p. refl) (writing_refusals room m) (record { verdict = success; length = length_of m.header }) refl

pub record Writable (room : ℕ) (m : Message) : Type 0 where
  pub fit : all_fit (fields_of m.header) ≡ true
  pub header : number_of (header_refusals m.header) ≡ 0
  pub roomy : length_of m.header ≤ room
  pub list : number_of (list_refusals m) ≡ 0

pub writable : (room : ℕ) (m : Message) → (written_of room m).verdict ≡ success → Writable room m
writable room m e =
    let z = ap (λ (v : Verdict). v.number) (sym (written_verdict room m) ∙ e) in
    let all = none_applied (writing_refusals room m) (writing_numbered room m) z in
    let late = refusal (ltb room (length_of m.header)) 52 0 ∷ list_refusals m in
    let last = none_right (header_refusals m.header) late all.1 in
    record {
      fit = not-false _ all.0;
      header = none_says (header_refusals m.header) (none_left (header_refusals m.header) late all.1);
      roomy = ltb-false room (length_of m.header) last.0;
      list = none_says (list_refusals m) last.1;
    }

module _ (room : ℕ) (m : Message) (w : Writable room m) where
  pub writes : written_of room m ≡ record { verdict = success; length = length_of m.header }
  unfolding written_of
  writes = written writing_refused _ room m (ap not w.fit) w.header w.roomy w.list

module _ (bs : List ℕ) (m : Message) (w : Writable (length bs) m) where
  pub lays : buffer_after bs m ≡ laid_over bs m
  unfolding buffer_after
  lays = written (λ n p. bs) (laid_over bs m) (length bs) m (ap not w.fit) w.header w.roomy w.list

  pub front : take (length_of m.header) (buffer_after bs m) ≡ bytes_of m
  front = ap (take (length_of m.header)) lays ∙ take_at (bytes_of m) (drop (length_of m.header) bs) (length_of m.header) (bytes_length m)

-- its bytes are read again
module _ (room : ℕ) (m : Message) (w : Writable room m) (fits : Words32 (list_in m)) where
  right_length : length (bytes_of m) ≡ length_of (header_in (bytes_of m))
  right_length = bytes_length m ∙ sym (ap length_of (header_back m w.fit))

  header_again : number_of (header_refusals (header_in (bytes_of m))) ≡ 0
  header_again = ap (λ (h : Header). number_of (header_refusals h)) (header_back m w.fit) ∙ w.header

  kept_agrees : AgreeMessages (kept_message m) m
  kept_agrees = record { header = refl; words = λ k h. filled_at (λ (j : ℕ). get_or m.words j 0) 0 m.header.count k (fit_count m.header w.fit) h }

  list_again : number_of (list_refusals (message_in (bytes_of m))) ≡ 0
  list_again =
      ap (λ (x : Message). number_of (list_refusals x)) (message_back m w.fit fits)
      ∙ ap (λ (v : Verdict). v.number) (list_unread (kept_message m) m kept_agrees verdict success success refl)
      ∙ w.list

  abbrev kept : MessageReading
  kept = record { verdict = success; message = kept_message m }

  same_message : read_as (bytes_of m) ≡ kept
  same_message = ap (λ (x : Message). record { verdict = success; message = x }) (message_back m w.fit fits)

  long : 2 ≤ length (bytes_of m)
  long = omega (arith, bytes_length m)

  taken : taken_of (bytes_of m) ≡ read_as (bytes_of m)
  taken = taken_apart_lem (bytes_of m) long right_length header_again

  pub taken_again : taken_of (bytes_of m) ≡ kept
  taken_again = taken ∙ same_message

  pub read_again : message_read_of (bytes_of m) ≡ kept
  read_again = read_whole (bytes_of m) (ap (λ (r : MessageReading). r.verdict.number) taken) list_again ∙ same_message

-- ---- a message that is taken apart

pub record Takeable (bs : List ℕ) : Type 0 where
  pub long : 2 ≤ length bs
  pub right : length bs ≡ length_of (header_in bs)
  pub header : number_of (header_refusals (header_in bs)) ≡ 0

none_takeable : (bs : List ℕ) → NoneApply (taking_refusals bs) → Takeable bs
none_takeable bs x =
    let both = either_false (ltb (length bs) 2) (not (eqb (length bs) (length_of (header_in bs)))) x.0 in
    record {
      long = ltb-false (length bs) 2 both.0;
      right = eqb-true (length bs) (length_of (header_in bs)) (not-false _ both.1);
      header = none_says (header_refusals (header_in bs)) x.1;
    }

pub takeable : (bs : List ℕ) → (taken_of bs).verdict ≡ success → Takeable bs
takeable bs e =
    none_takeable bs (none_applied (taking_refusals bs) (taking_numbered bs) (ap (λ (v : Verdict). v.number) (sym (taken_verdict_lem bs) ∙ e)))

pub record Readable (bs : List ℕ) : Type 0 where
  pub taken : Takeable bs
  pub list : number_of (list_refusals (message_in bs)) ≡ 0

pub readable : (bs : List ℕ) → (message_read_of bs).verdict ≡ success → Readable bs
readable bs e =
    let all = none_applied (reading_refusals bs) (reading_numbered bs) (ap (λ (v : Verdict). v.number) (sym (read_verdict bs) ∙ e)) in
    record {
      taken = none_takeable bs (none_left (taking_refusals bs) (list_refusals (message_in bs)) all);
      list = none_says (list_refusals (message_in bs)) (none_right (taking_refusals bs) (list_refusals (message_in bs)) all);
    }

module _ (bs : List ℕ) (t : Takeable bs) where
  pub takes : taken_of bs ≡ read_as bs
  takes = taken_apart_lem bs t.long t.right t.header

  pub reads : number_of (list_refusals (message_in bs)) ≡ 0 → message_read_of bs ≡ read_as bs
  reads y = read_whole bs (ap (λ (r : MessageReading). r.verdict.number) takes) y

  -- it is written into a buffer that is long enough, where its list passes
  pub writable_again : (ys : List ℕ) → length bs ≤ length ys → number_of (list_refusals (message_in bs)) ≡ 0 → Writable (length ys) (message_in bs)
  writable_again ys h y =
      record { fit = taken_fit _; header = t.header; roomy = subst (λ (k : ℕ). k ≤ length ys) t.right h; list = y }

  -- and then its bytes are the same
  pub laid_again : Bytes8 bs → (ys : List ℕ) → laid_over ys (message_in bs) ≡ bs ++ drop (length bs) ys
  laid_again small ys = ap₂ (λ (l : List ℕ) (k : ℕ). l ++ drop k ys) (bytes_back bs small t.right) (sym t.right)

-- ---- past the message

module _ (bs : List ℕ) (m : Message) where
  abbrev Rest : ℕ → List ℕ → Type 0
  Rest n cs = (length cs ≡ length bs) × (drop n cs ≡ drop n bs)

  laid_rest : length_of m.header ≤ length bs → Rest (length_of m.header) (laid_over bs m)
  laid_rest h =
      let n = length_of m.header in (
        length-append (bytes_of m) (drop n bs) ∙ omega (arith, bytes_length m, length-drop n bs),
        drop_at (bytes_of m) (drop n bs) n (bytes_length m),
      )

  pub rest_stays : Rest (written_of (length bs) m).length (buffer_after bs m)
  unfolding written_of buffer_after
  rest_stays = go (eqb (number_of rows) 0) refl where
    rows : List Refusal
    rows = writing_refusals (length bs) m

    go : (b : Bool) → eqb (number_of rows) 0 ≡ b → Rest (written_of (length bs) m).length (buffer_after bs m)
    go true q =
        let z = passes rows (writing_numbered (length bs) m) (eqb-true (number_of rows) 0 q) in
        let w = writable (length bs) m (written_verdict (length bs) m ∙ z) in
        rw (writes (length bs) m w, lays bs m w) (laid_rest w.roomy)
    go false q =
        let f = eqb-false (number_of rows) 0 q in
        let same = refused_so (λ n p. bs) rows f (laid_over bs m) in
        let none = refused_so writing_refused rows f (record { verdict = success; length = length_of m.header }) in
        rw (none, same) (refl, refl)

-- ---- no message is longer than 30 bytes

abbrev not52 : ℕ → Bool
not52 n = not (eqb n 52)

says_52 : (n : ℕ) → not52 n ≡ true → n ≡ 52 → ⊥
says_52 n t e = true≢false (sym t ∙ ap not52 e)

-- no row of a list has the number 52
list_passes : (m : Message) → all_pass not52 (list_refusals m) ≡ true
list_passes m = go (is_source_capabilities m.header) where
  l : Words
  l = list_in m

  go : (b : Bool) → all_pass not52 (cond b (shape_refusals (list_in m)) []) ≡ true
  go true =
      pass_append not52 (words_part Source l) (agreement_rows Source l) (pass_places not52 (word_rows Source l.words) (λ k. refl) l.count)
      (pass_places not52 (avs_rows l.words l.count) (λ k. refl) l.count)
  go false = refl

module _ (room : ℕ) (m : Message) (h : 30 ≤ room) where
  abbrev rows : List Refusal
  rows = writing_refusals room m

  -- a buffer of 30 has room: what comes before 52 decides, or what comes after it
  no_room_needed : number_of rows ≡ 52 → ⊥
  no_room_needed = fields (not (all_fit (fields_of m.header))) refl where
    said : {n p : ℕ} → verdict_of rows ≡ verdict n p → number_of rows ≡ 52 → n ≡ 52
    said e z = sym (ap (λ (v : Verdict). v.number) e) ∙ z

    list : (fit : not (all_fit (fields_of m.header)) ≡ false) → number_of (header_refusals m.header) ≡ 0 → (b : Bool)
        → eqb (number_of (list_refusals m)) 0 ≡ b → number_of rows ≡ 52 → ⊥
    list fit y true q z =
        let room-enough : length_of m.header ≤ room = omega (arith, fit_count m.header (not-false _ fit)) in
        absurd (omega (arith, said (written verdict success room m fit y room-enough (eqb-true _ 0 q)) z))
    list fit y false q z =
        let room-enough : length_of m.header ≤ room = omega (arith, fit_count m.header (not-false _ fit)) in
        let f = eqb-false (number_of (list_refusals m)) 0 q in
        says_52 _ (number_passes not52 (list_refusals m) (list_passes m) f) (said (misshapen verdict success room m fit y room-enough f) z)

    header : (fit : not (all_fit (fields_of m.header)) ≡ false) → (b : Bool) → eqb (number_of (header_refusals m.header)) 0 ≡ b → number_of rows ≡ 52 → ⊥
    header fit true q z = list fit (eqb-true _ 0 q) (eqb (number_of (list_refusals m)) 0) refl z
    header fit false q z =
        let f = eqb-false (number_of (header_refusals m.header)) 0 q in
        says_52 _ (number_passes not52 (header_refusals m.header) refl f) (said (header_refused verdict success room m fit f) z)

    fields : (b : Bool) → not (all_fit (fields_of m.header)) ≡ b → number_of rows ≡ 52 → ⊥
    fields true q z = absurd (omega (arith, said (wide verdict success room m q) z))
    fields false q z = header q (eqb (number_of (header_refusals m.header)) 0) refl z

  pub never_too_short : (written_of room m).verdict.number ≡ 52 → ⊥
  never_too_short e = no_room_needed (sym (ap (λ (v : Verdict). v.number) (written_verdict room m)) ∙ e)

-- what is answered is a length that fits, or 0
pub at_most_30 : (room : ℕ) (m : Message) → (written_of room m).length ≤ 30
unfolding written_of
at_most_30 room m = go (eqb (number_of (writing_refusals room m)) 0) refl where
  good : Written
  good = record { verdict = success; length = length_of m.header }

  go : (b : Bool) → eqb (number_of (writing_refusals room m)) 0 ≡ b → (written_of room m).length ≤ 30
  go true q =
      let w = writable room m (written_verdict room m ∙ passes (writing_refusals room m) (writing_numbered room m) (eqb-true _ 0 q)) in
      rw (writes room m w) (omega (arith, fit_count m.header w.fit))
  go false q = rw (refused_so writing_refused (writing_refusals room m) (eqb-false _ 0 q) good) (omega arith)
