-- Proves the claim of specs/Withdrawn.antt: no row of a table has the number 21, and a call gives the number of a row.
-- Assumes nothing.
use mathlib.Core.Path.{◌≡◌, refl, sym, ap, ◌∙◌}
use mathlib.Core.Bool.{Bool, true, false, cond}
use mathlib.Core.List.{List, [], ◌∷◌}
use Prim.Native.Nat.{ℕ}
use lib.Dec.{eqb}
use lib.ListN.{length}
use native.Mathlib.Omega.{arith}
use borrow.Author.Tests.{eqb-true, eqb-false}
use Rattle.std.specs.Prelude.{Result, Ok, Err}
use Rattle.verdicts.specs.declared.Verdict.{Verdict}
use Rattle.verdicts.specs.Refusals.{Refusal, refusal, told}
use Rattle.verdicts.proofs.First.{numbered, Without, without_append, without_numbered, not_first}
use Rattle.objects.specs.declared.Side.{Side}
use Rattle.objects.specs.declared.Side.TheVariants.{Source, Sink}
use Rattle.lists.specs.declared.Words.{Words}
use Rattle.lists.specs.declared.Listing.{Listing}
use Rattle.lists.specs.Shape.{refusals_for, shape_refusals}
use Rattle.lists.specs.Writing.{encoded_at, write_refusals}
use Rattle.lists.proofs.Shapes.{shape_numbered}
use Rattle.lists.proofs.Writings.{write_numbered}
use Rattle.rules.specs.Profiles.{half_watts, default_refusals, build_refusals}
use Rattle.rules.specs.Checking.{check_refusals}
use Rattle.rules.proofs.Builds.{build_numbered}
use Rattle.rules.proofs.Checks.{check_numbered}
use Rattle.requests.specs.Judging.{refusals_of}
use Rattle.requests.specs.Answering.{answer_refusals}
use Rattle.requests.proofs.Answers.{answer_numbered, judged_numbered}
use Rattle.ports.specs.declared.Row.{Row}
use Rattle.ports.specs.declared.Standing.{Standing}
use Rattle.ports.specs.RuleLists.{rule_profile}
use Rattle.ports.specs.Refusing.{table_refusals, set_up_refusals, attach_refusals, use_refusals, request_refusals, remaining_refusals}
use Rattle.ports.specs.Standing.{row_refusals, so_far, end_refusals}
use Rattle.ports.specs.Deciding.{attach_end_refusals, use_end_refusals, request_end_refusals}
use Rattle.ports.proofs.Passing.{set_up_numbered, attach_numbered, use_numbered, request_numbered, remaining_numbered}
use Rattle.ports.proofs.Standings.{row_numbered}
use Rattle.ports.proofs.ByValue.{end_without, attach_without, use_without, request_without}
use Rattle.messages.specs.Reading.{taking_refusals, reading_refusals}
use Rattle.messages.specs.Writing.{writing_refusals}
use Rattle.messages.proofs.Readings.{taking_numbered, reading_numbered}
use Rattle.messages.proofs.Writings.{writing_numbered}
use Rattle.sinks.specs.SinkLists.{sink_shape_refusals, sink_encoded_at, sink_write_refusals}
use Rattle.sinks.specs.Rating.{sink_check_refusals}
use Rattle.sinks.proofs.Checks.{sink_check_numbered}
use Rattle.summaries.specs.Taking.{decoding_refusals, taken_verdict}
use Rattle.summaries.specs.Answering.{summary_refusals}
use Rattle.summaries.proofs.Answers.{summary_numbered}
use Rattle.flat.specs.Requesting.{flat_answer_refusals}
use Rattle.flat.proofs.Requests.{flat_numbered}
use Rattle.flat.specs.declared.FlatObjects.{FlatObjects}
use Rattle.flat.specs.declared.FlatReading.{FlatReading}
use Rattle.flat.specs.Writing.{encoded_flat_at, flat_write_refusals}
use Rattle.demands.specs.CallContracts.{VerdictPassedAnswers, ShapeForAnswers, FinishedAnswers, TakeRowAnswers}
use Rattle.demands.specs.FlatContracts.{FlatReadForAnswers, FlatWriteForAnswers}
use Rattle.demands.specs.Refusals.{Answers}
use Rattle.demands.specs.EnumRefusals.{OneRefusal}
use Rattle.demands.specs.DecidingRefusals.{offer_refusals}
use Rattle.demands.specs.Withdrawn.{Not21, Never21}
use Rattle.demands.proofs.Refusals.{shape_for_refusals, readable_refusals, finished_refusals, read_refusals, write_refusals_lem, default_refusals_lem, build_refusals_lem, check_refusals_lem, answer_refusals_lem, judge_refusals}
use Rattle.demands.proofs.EnumRefusals.{decode_12, decode_for_12, encode_7, fixed_word_7, pps_word_7, avs_word_7, word_at_20, raise_12}
use Rattle.demands.proofs.FlatRefusals.{flat_read_for_refusals, flat_write_for_refusals}
use Rattle.demands.proofs.SummaryRefusals.{summarize_refusals, decoding_numbered, take_request_refusals, answer_summary_refusals, flat_take_request_refusals, flat_answer_summary_refusals, arin_summarize_refusals, arin_take_request_refusals, arin_answer_summary_refusals}
use Rattle.demands.proofs.SinkRefusals.{sink_decode_12, sink_encode_7, sink_read_refusals, sink_write_refusals_lem, sink_check_refusals_lem, arin_sink_check_refusals}
use Rattle.demands.proofs.MessageRefusals.{take_message_refusals, read_message_refusals, write_message_refusals, arin_take_message_refusals, arin_read_message_refusals, arin_write_message_refusals}
use Rattle.demands.proofs.SharingRefusals.{set_up_refusals_lem, attach_refusals_lem, advertise_refusals, request_refusals_lem, detach_refusals, remaining_refusals_lem}
use Rattle.demands.proofs.DecidingRefusals.{begin_refusals, take_row_refusals, attach_decides, advertise_decides, offer_refusals_lem, request_decides, detach_decides, remaining_decides}

-- ---- any table

-- a verdict that answers a table has the number of one of its rows
not_among : (v : Verdict) (rs : List Refusal) → Answers v rs → Without 21 rs → Not21 v.number
not_among v rs a out e =
    not_first 21 v.place rs out ((a.1 21 v.place (λ z. absurd (omega (arith, z)))).0 (ap (λ (n : ℕ). record { number = n; place = v.place }) e))

not_numbered : (v : Verdict) (rs : List Refusal) → Answers v rs → numbered rs ≡ true → Not21 v.number
not_numbered v rs a t = not_among v rs a (without_numbered 21 refl rs t)

-- a call with one refusal, of another number
not_one : {A : Type 0} {none : A} {n : ℕ} {Applies : Type 0} {said : ℕ × A} → Not21 n → OneRefusal none n Applies said → Not21 said.0
not_one other o e =
    let z = o.accepts.1 (λ applies. other (sym (o.refuses.1 applies) ∙ e)) in
    absurd (omega (arith, z, e))

-- the row of what was refused before
given_else : (b : Bool) (n p : ℕ) → Not21 n → Without 21 (refusal b n p ∷ [])
given_else b n p other = ((λ e. absurd (other e)), tt)

handed : (s : Standing) → Not21 s.fault.number → Without 21 (so_far s)
handed s other = given_else _ s.fault.number s.fault.place other

-- a row more: what was refused stands, and else the row is judged
take_row_21 : (s : Standing) (y : Row) (place : ℕ) (fresh : Bool) (r : Standing) → TakeRowAnswers s y place fresh r
    → Not21 s.fault.number → Not21 r.fault.number
take_row_21 s y place fresh r e other = go (eqb s.fault.number 0) refl where
  go : (b : Bool) → eqb s.fault.number 0 ≡ b → Not21 r.fault.number
  go true q =
      not_numbered r.fault (row_refusals fresh y place) ((take_row_refusals s y place fresh r e).0 (eqb-true s.fault.number 0 q))
      (row_numbered fresh y place)
  go false q =
      let stays = (take_row_refusals s y place fresh r e).1 (eqb-false s.fault.number 0 q) in
      λ z. other (sym (ap (λ (t : Standing). t.fault.number) stays) ∙ z)

-- a success is 0, and a refusal is handed on
passed_21 : (v : Verdict) (r : Result (Unit {0}) Verdict) → VerdictPassedAnswers v r → Not21 v.number → Not21 (told r).number
passed_21 v r e other = go (eqb v.number 0) refl where
  go : (b : Bool) → eqb v.number 0 ≡ b → Not21 (told r).number
  go true q z =
      absurd (omega (arith, sym (ap (λ (x : Result (Unit {0}) Verdict). (told x).number) (e ∙ ap (λ (b : Bool). cond b (Ok tt) (Err v)) q)) ∙ z))
  go false q z =
      other (sym (ap (λ (x : Result (Unit {0}) Verdict). (told x).number) (e ∙ ap (λ (b : Bool). cond b (Ok tt) (Err v)) q)) ∙ z)

-- ---- the calls of either side

shape_for_21 : (side : Side) (l : Words) (r : Verdict) → ShapeForAnswers side l r → Not21 r.number
shape_for_21 side l r e = not_numbered r (refusals_for side l) (shape_for_refusals side l r e) (shape_numbered side l)

-- what was refused stands, and else the shape decides
finished_21 : (side : Side) (m r : Listing) → FinishedAnswers side m r → Not21 m.verdict.number → Not21 r.verdict.number
finished_21 side m r e other = go (eqb m.verdict.number 0) refl where
  go : (b : Bool) → eqb m.verdict.number 0 ≡ b → Not21 r.verdict.number
  go true q =
      not_numbered r.verdict (refusals_for side m.list) ((finished_refusals side m r e).0 (eqb-true m.verdict.number 0 q)).0 (shape_numbered side m.list)
  go false q =
      let stays = (finished_refusals side m r e).1 (eqb-false m.verdict.number 0 q) in
      λ z. other (sym (ap (λ (x : Listing). x.verdict.number) stays) ∙ z)

flat_read_for_21 : (side : Side) (l : Words) (r : FlatReading) → FlatReadForAnswers side l r → Not21 r.verdict.number
flat_read_for_21 side l r e = not_numbered r.verdict (refusals_for side l) (flat_read_for_refusals side l r e).0 (shape_numbered side l)

flat_write_for_21 : (side : Side) (f : FlatObjects) (r : Listing) → FlatWriteForAnswers side f r → Not21 r.verdict.number
flat_write_for_21 side f r e =
    not_numbered r.verdict (flat_write_refusals side f) (flat_write_for_refusals side f r e).0 (write_numbered side (encoded_flat_at side f.places) f.count)

-- ---- the calls

pub never_21 : Never21
never_21 = record {
  placeless = λ number r e other z. other (sym (ap (λ (v : Verdict). v.number) e) ∙ z);
  at = λ number place r e other z. other (sym (ap (λ (v : Verdict). v.number) e) ∙ z);
  passed = passed_21;
  decode = λ w r e. not_one (λ z. absurd (omega (arith, z))) (decode_12 w r e);
  decode_for = λ side w r e. not_one (λ z. absurd (omega (arith, z))) (decode_for_12 side w r e);
  encode = λ o r e. not_one (λ z. absurd (omega (arith, z))) (encode_7 o r e);
  fixed_word = λ flags peak volts current r e. not_one (λ z. absurd (omega (arith, z))) (fixed_word_7 flags peak volts current r e);
  pps_word = λ limited max min current r e. not_one (λ z. absurd (omega (arith, z))) (pps_word_7 limited max min current r e);
  avs_word = λ peak low high r e. not_one (λ z. absurd (omega (arith, z))) (avs_word_7 peak low high r e);
  shape_for = shape_for_21;
  shape = λ l r e. shape_for_21 Source l r e;
  read = λ l r e. not_numbered r.verdict (shape_refusals l) (read_refusals l r e).0 (shape_numbered Source l);
  readable = λ side l r e. not_numbered r.verdict (refusals_for side l) (readable_refusals side l r e).0 (shape_numbered side l);
  finished = finished_21;
  write = λ o r e. not_numbered r.verdict (write_refusals o) (write_refusals_lem o r e).0 (write_numbered Source (encoded_at o.places) o.count);
  refuse = λ number place r e other z. other (sym (ap (λ (x : Listing). x.verdict.number) e) ∙ z);
  default_profile = λ m r e. not_numbered r.verdict (default_refusals m) (default_refusals_lem m r e).0 refl;
  build = λ p r e. not_numbered r.verdict (build_refusals p) (build_refusals_lem p r e).0 (build_numbered p);
  word_at = λ p place r e. not_one (λ z. absurd (omega (arith, z))) (word_at_20 p place r e);
  check = λ p l r e. not_numbered r (check_refusals p l) (check_refusals_lem p l r e) (check_numbered p l);
  judge = λ o w r e. not_numbered r (refusals_of o w) (judge_refusals o w r e) (judged_numbered o w);
  answer = λ l w r e. not_numbered r (answer_refusals l w) (answer_refusals_lem l w r e) (answer_numbered l w);
  summarize = λ l r e. not_numbered r.verdict (shape_refusals l) (summarize_refusals l r e).0 (shape_numbered Source l);
  take_request = λ l w r e. not_numbered (taken_verdict r) (decoding_refusals l w) (take_request_refusals l w r e) (decoding_numbered l w);
  answer_summary = λ s a r e. not_numbered r (summary_refusals s a) (answer_summary_refusals s a r e) (summary_numbered s a);
  sink_decode = λ w r e. not_one (λ z. absurd (omega (arith, z))) (sink_decode_12 w r e);
  sink_encode = λ o r e. not_one (λ z. absurd (omega (arith, z))) (sink_encode_7 o r e);
  sink_shape = λ l r e. shape_for_21 Sink l r e;
  sink_read = λ l r e. not_numbered r.verdict (sink_shape_refusals l) (sink_read_refusals l r e).0 (shape_numbered Sink l);
  sink_write = λ o r e.
      not_numbered r.verdict (sink_write_refusals o) (sink_write_refusals_lem o r e).0 (write_numbered Sink (sink_encoded_at o.places) o.count);
  sink_check = λ rating l r e. not_numbered r (sink_check_refusals rating.0 l) (sink_check_refusals_lem rating l r e) (sink_check_numbered rating.0 l);
  take_message = λ bs r e. not_numbered r.verdict (taking_refusals bs) (take_message_refusals bs r e).0 (taking_numbered bs);
  read_message = λ bs r e. not_numbered r.verdict (reading_refusals bs) (read_message_refusals bs r e).0 (reading_numbered bs);
  write_message = λ bs m r cs e.
      not_numbered r.verdict (writing_refusals (length bs) m) (write_message_refusals bs m r cs e).0 (writing_numbered (length bs) m);
  begin = λ count capacity r e. not_numbered r.fault (table_refusals capacity.0 count) (begin_refusals count capacity r e).0 refl;
  take_row = take_row_21;
  attach = λ s y capacity port cable r e other.
      not_among r.answer (attach_end_refusals capacity.0 s y port cable.0) (attach_decides s y capacity port cable r e).0
      (attach_without 21 refl capacity.0 s (handed s other) port y cable.0);
  advertise = λ s y capacity port r e other.
      not_among r.answer (use_end_refusals capacity.0 s y port) (advertise_decides s y capacity port r e).0
      (use_without 21 refl capacity.0 s (handed s other) port y);
  offer = λ c r e other.
      let built = build_refusals (rule_profile c.row) in
      not_among r.verdict (offer_refusals c) (offer_refusals_lem c r e).0
      (without_append 21 (refusal _ c.answer.number c.answer.place ∷ []) built (given_else _ c.answer.number c.answer.place other)
      (without_numbered 21 refl built (build_numbered (rule_profile c.row))));
  request = λ s y capacity port word r e other.
      not_among r.answer (request_end_refusals capacity.0 s y port word) (request_decides s y capacity port word r e).0
      (request_without 21 refl capacity.0 s (handed s other) port y word);
  detach = λ s y capacity port r e other.
      not_among r.answer (use_end_refusals capacity.0 s y port) (detach_decides s y capacity port r e).0
      (use_without 21 refl capacity.0 s (handed s other) port y);
  remaining = λ s capacity r e other.
      not_among r.verdict (end_refusals capacity.0 s) (remaining_decides s capacity r e).0
      (end_without 21 refl capacity.0 s (handed s other));
  raise = λ x r e. not_one (λ z. absurd (omega (arith, z))) (raise_12 x r e);
  flat_read_for = flat_read_for_21;
  flat_read = λ l r e. flat_read_for_21 Source l r e;
  flat_write_for = flat_write_for_21;
  flat_write = λ f r e. flat_write_for_21 Source f r e;
  flat_take_request = λ l w r e. not_numbered r.verdict (decoding_refusals l w) (flat_take_request_refusals l w r e).0 (decoding_numbered l w);
  flat_answer_summary = λ s x r e. not_numbered r (flat_answer_refusals s x) (flat_answer_summary_refusals s x r e) (flat_numbered s x);
  arin_default_profile = λ m r e. not_numbered r.verdict (default_refusals (half_watts m)) (default_refusals_lem (half_watts m) r e).0 refl;
  arin_build = λ p r e. not_numbered r.verdict (build_refusals p) (build_refusals_lem p r e).0 (build_numbered p);
  arin_check = λ p l r e. not_numbered r (check_refusals p l) (check_refusals_lem p l r e) (check_numbered p l);
  arin_shape = λ l r e. shape_for_21 Source l r e;
  arin_read = λ l r e. flat_read_for_21 Source l r e;
  arin_write = λ f r e. flat_write_for_21 Source f r e;
  arin_answer = λ l w r e. not_numbered r (answer_refusals l w) (answer_refusals_lem l w r e) (answer_numbered l w);
  arin_summarize = λ l r e. not_numbered r.verdict (shape_refusals l) (arin_summarize_refusals l r e).0 (shape_numbered Source l);
  arin_take_request = λ l w r e. not_numbered r.verdict (decoding_refusals l w) (arin_take_request_refusals l w r e).0 (decoding_numbered l w);
  arin_answer_summary = λ s x r e. not_numbered r (flat_answer_refusals s x) (arin_answer_summary_refusals s x r e) (flat_numbered s x);
  arin_sink_shape = λ l r e. shape_for_21 Sink l r e;
  arin_sink_read = λ l r e. flat_read_for_21 Sink l r e;
  arin_sink_write = λ f r e. flat_write_for_21 Sink f r e;
  arin_sink_check = λ rating l r e. not_numbered r (sink_check_refusals rating l) (arin_sink_check_refusals rating l r e) (sink_check_numbered rating l);
  arin_take_message = λ bs r e. not_numbered r.verdict (taking_refusals bs) (arin_take_message_refusals bs r e).0 (taking_numbered bs);
  arin_read_message = λ bs r e. not_numbered r.verdict (reading_refusals bs) (arin_read_message_refusals bs r e).0 (reading_numbered bs);
  arin_write_message = λ bs m r cs e.
      not_numbered r.verdict (writing_refusals (length bs) m) (arin_write_message_refusals bs m r cs e).0 (writing_numbered (length bs) m);
  arin_set_up = λ ys capacity r zs e.
      not_numbered r (set_up_refusals capacity ys) (set_up_refusals_lem ys capacity r zs e).0 (set_up_numbered capacity ys);
  arin_attach = λ ys capacity port cable r zs e.
      not_numbered r.verdict (attach_refusals capacity ys port cable) (attach_refusals_lem ys capacity port cable r zs e).0
      (attach_numbered capacity ys port cable);
  arin_advertise = λ ys capacity port r zs e.
      not_numbered r.verdict (use_refusals capacity ys port) (advertise_refusals ys capacity port r zs e).0 (use_numbered capacity ys port);
  arin_request = λ ys capacity port word r zs e.
      not_numbered r (request_refusals capacity ys port word) (request_refusals_lem ys capacity port word r zs e).0
      (request_numbered capacity ys port word);
  arin_detach = λ ys capacity port r zs e.
      not_numbered r (use_refusals capacity ys port) (detach_refusals ys capacity port r zs e).0 (use_numbered capacity ys port);
  arin_remaining = λ ys capacity r e.
      not_numbered r.verdict (remaining_refusals capacity ys) (remaining_refusals_lem ys capacity r e).0 (remaining_numbered capacity ys);
}
