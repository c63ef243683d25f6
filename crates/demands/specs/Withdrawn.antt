-- The number 21 is withdrawn (T-01; docs/STATEMENT.md, "Refusal numbers"): no public call gives it, for any input. A call that hands on a refusal of
-- its caller's gives 21 only if that was 21. `Never21` has a line for each public call that gives the number of a refusal, and is proved by
-- `never_21` in proofs/Withdrawn.antt.
-- Assumes nothing.
use Rattle.std.specs.Prelude.{◌≡◌, Bool, List, ℕ, Option, Result}
use Rattle.verdicts.specs.declared.Verdict.{Verdict}
use Rattle.verdicts.specs.Refusals.{told}
use Rattle.steps.specs.declared.Mv50.{Mv50}
use Rattle.steps.specs.declared.Mv100.{Mv100}
use Rattle.steps.specs.declared.Ma10.{Ma10}
use Rattle.steps.specs.declared.Ma50.{Ma50}
use Rattle.steps.specs.declared.HalfWatts.{HalfWatts}
use Rattle.objects.specs.declared.Side.{Side}
use Rattle.objects.specs.declared.Object.{Object}
use Rattle.objects.specs.Decode.{decoded_says}
use Rattle.objects.specs.Encode.{encoded_says}
use Rattle.lists.specs.declared.Words.{Words}
use Rattle.lists.specs.declared.Shaped.{Shaped}
use Rattle.lists.specs.declared.Objects.{Objects}
use Rattle.lists.specs.declared.Reading.{Reading}
use Rattle.lists.specs.declared.Listing.{Listing}
use Rattle.rules.specs.declared.Profile.{Profile}
use Rattle.rules.specs.declared.Profiled.{Profiled}
use Rattle.rules.specs.Placing.{placed_says}
use Rattle.ports.specs.declared.Row.{Row}
use Rattle.ports.specs.declared.Standing.{Standing}
use Rattle.ports.specs.declared.Change.{Change}
use Rattle.ports.specs.declared.RemainingPower.{RemainingPower}
use Rattle.sinks.specs.declared.SinkObject.{SinkObject}
use Rattle.sinks.specs.declared.SinkObjects.{SinkObjects}
use Rattle.sinks.specs.declared.SinkReading.{SinkReading}
use Rattle.sinks.specs.SinkWords.{sink_decoded_says}
use Rattle.flat.specs.declared.FlatObject.{FlatObject}
use Rattle.flat.specs.declared.FlatObjects.{FlatObjects}
use Rattle.flat.specs.declared.FlatReading.{FlatReading}
use Rattle.flat.specs.Flat.{raised_says}
use Rattle.messages.specs.declared.Message.{Message}
use Rattle.messages.specs.declared.MessageReading.{MessageReading}
use Rattle.messages.specs.declared.Written.{Written}
use Rattle.summaries.specs.declared.Summary.{Summary}
use Rattle.summaries.specs.declared.Summarized.{Summarized}
use Rattle.summaries.specs.declared.QuickAsked.{QuickAsked}
use Rattle.summaries.specs.declared.TakenRequest.{TakenRequest}
use Rattle.summaries.specs.Taking.{taken_verdict}
use Rattle.flat.specs.declared.FlatRequest.{FlatRequest}
use Rattle.flat.specs.declared.FlatTaken.{FlatTaken}
use Rattle.messages.specs.Promises.{TakesMessage, ReadsMessage, WritesMessage}
use Rattle.board.specs.MessagePromises.{ArinTakesMessage, ArinReadsMessage, ArinWritesMessage}
use Rattle.board.specs.Promises.{SharesSetUp, SharesAttach, SharesAdvertise, SharesRequest, SharesDetach, SharesRemaining}
use Rattle.demands.specs.CallContracts.{VerdictPlacelessAnswers, VerdictAtAnswers, VerdictPassedAnswers}
use Rattle.demands.specs.CallContracts.{DecodeForAnswers, ShapeForAnswers, ReadableAnswers, FinishedAnswers, DecodeAnswers, EncodeAnswers, FixedWordAnswers, PpsWordAnswers, AvsWordAnswers}
use Rattle.demands.specs.CallContracts.{ShapeAnswers, ReadAnswers, RefuseAnswers, WriteAnswers}
use Rattle.demands.specs.CallContracts.{DefaultAnswers, BuildAnswers, CheckAnswers, WordAtAnswers}
use Rattle.demands.specs.CallContracts.{AnswerAnswers, JudgeAnswers}
use Rattle.demands.specs.CallContracts.{BeginAnswers, TakeRowAnswers, AttachDecides, AdvertiseDecides, OfferAnswers, RequestDecides, DetachDecides, RemainingDecides}
use Rattle.demands.specs.SummaryContracts.{SummarizeAnswers, TakeRequestAnswers, AnswerSummaryAnswers, FlatTakeRequestAnswers, FlatAnswerSummaryAnswers, ArinSummarizeAnswers, ArinTakeRequestAnswers, ArinAnswerSummaryAnswers}
use Rattle.demands.specs.SinkContracts.{SinkDecodeAnswers, SinkEncodeAnswers, SinkShapeAnswers, SinkReadAnswers, SinkWriteAnswers, SinkCheckAnswers, ArinSinkShapeAnswers, ArinSinkReadAnswers, ArinSinkWriteAnswers, ArinSinkCheckAnswers}
use Rattle.demands.specs.FlatContracts.{FlatReadForAnswers, FlatWriteForAnswers, RaiseAnswers, FlatReadAnswers, FlatWriteAnswers}
use Rattle.demands.specs.FlatContracts.{ArinDefaultAnswers, ArinBuildAnswers, ArinCheckAnswers, ArinShapeAnswers, ArinReadAnswers, ArinWriteAnswers, ArinAnswerAnswers}

abbrev pub Not21 : ℕ → Type 0
Not21 n = n ≡ 21 → ⊥

pub record Never21 : Type 0 where
  -- verdicts, which give the number that they are handed, or hand it on
  pub placeless : (number : ℕ) (r : Verdict) → VerdictPlacelessAnswers number r → Not21 number → Not21 r.number
  pub at : (number place : ℕ) (r : Verdict) → VerdictAtAnswers number place r → Not21 number → Not21 r.number
  pub passed : (v : Verdict) (r : Result (Unit {0}) Verdict) → VerdictPassedAnswers v r → Not21 v.number → Not21 (told r).number
  -- objects
  pub decode : (w : ℕ) (r : Option Object) → DecodeAnswers w r → Not21 (decoded_says r).0
  pub decode_for : (side : Side) (w : ℕ) (r : Option Object) → DecodeForAnswers side w r → Not21 (decoded_says r).0
  pub encode : (o : Object) (r : Option ℕ) → EncodeAnswers o r → Not21 (encoded_says r).0
  pub fixed_word : (flags peak : ℕ) (volts : Mv50) (current : Ma10) (r : Option ℕ) → FixedWordAnswers flags peak volts current r → Not21 (encoded_says r).0
  pub pps_word : (limited : ℕ) (max min : Mv100) (current : Ma50) (r : Option ℕ) → PpsWordAnswers limited max min current r → Not21 (encoded_says r).0
  pub avs_word : (peak : ℕ) (low high : Ma10) (r : Option ℕ) → AvsWordAnswers peak low high r → Not21 (encoded_says r).0
  -- lists; `refuse` gives the number that it is handed, and `finished` hands on a refusal
  pub shape_for : (side : Side) (l : Words) (r : Verdict) → ShapeForAnswers side l r → Not21 r.number
  pub shape : (l : Words) (r : Verdict) → ShapeAnswers l r → Not21 r.number
  pub read : (l : Words) (r : Reading) → ReadAnswers l r → Not21 r.verdict.number
  pub readable : (side : Side) (l : Words) (r : Shaped) → ReadableAnswers side l r → Not21 r.verdict.number
  pub finished : (side : Side) (m r : Listing) → FinishedAnswers side m r → Not21 m.verdict.number → Not21 r.verdict.number
  pub write : (o : Objects) (r : Listing) → WriteAnswers o r → Not21 r.verdict.number
  pub refuse : (number place : ℕ) (r : Listing) → RefuseAnswers number place r → Not21 number → Not21 r.verdict.number
  -- rules
  pub default_profile : (m : HalfWatts) (r : Profiled) → DefaultAnswers m r → Not21 r.verdict.number
  pub build : (p : Profile) (r : Listing) → BuildAnswers p r → Not21 r.verdict.number
  pub word_at : (p : Profile) (place : ℕ) (r : Option ℕ) → WordAtAnswers p place r → Not21 (placed_says r).0
  pub check : (p : Profile) (l : Words) (r : Verdict) → CheckAnswers p l r → Not21 r.number
  -- requests
  pub judge : (o : Object) (w : ℕ) (r : Verdict) → JudgeAnswers o w r → Not21 r.number
  pub answer : (l : Words) (w : ℕ) (r : Verdict) → AnswerAnswers l w r → Not21 r.number
  -- summaries
  pub summarize : (l : Words) (r : Summarized) → SummarizeAnswers l r → Not21 r.verdict.number
  pub take_request : (l : Words) (w : ℕ) (r : Result TakenRequest Verdict) → TakeRequestAnswers l w r → Not21 (taken_verdict r).number
  pub answer_summary : (s : Summary) (a : QuickAsked) (r : Verdict) → AnswerSummaryAnswers s a r → Not21 r.number
  -- sinks
  pub sink_decode : (w : ℕ) (r : Option SinkObject) → SinkDecodeAnswers w r → Not21 (sink_decoded_says r).0
  pub sink_encode : (o : SinkObject) (r : Option ℕ) → SinkEncodeAnswers o r → Not21 (encoded_says r).0
  pub sink_shape : (l : Words) (r : Verdict) → SinkShapeAnswers l r → Not21 r.number
  pub sink_read : (l : Words) (r : SinkReading) → SinkReadAnswers l r → Not21 r.verdict.number
  pub sink_write : (o : SinkObjects) (r : Listing) → SinkWriteAnswers o r → Not21 r.verdict.number
  pub sink_check : (rating : HalfWatts) (l : Words) (r : Verdict) → SinkCheckAnswers rating l r → Not21 r.number
  -- messages, whatever the bytes
  pub take_message : (bs : List ℕ) (r : MessageReading) → TakesMessage bs r → Not21 r.verdict.number
  pub read_message : (bs : List ℕ) (r : MessageReading) → ReadsMessage bs r → Not21 r.verdict.number
  pub write_message : (bs : List ℕ) (m : Message) (r : Written) (cs : List ℕ) → WritesMessage bs m r cs → Not21 r.verdict.number
  -- ports, by value; a standing or a change that is handed in may have a refusal already, which is handed on
  pub begin : (count : ℕ) (capacity : HalfWatts) (r : Standing) → BeginAnswers count capacity r → Not21 r.fault.number
  pub take_row : (s : Standing) (y : Row) (place : ℕ) (fresh : Bool) (r : Standing) → TakeRowAnswers s y place fresh r
      → Not21 s.fault.number → Not21 r.fault.number
  pub attach : (s : Standing) (y : Row) (capacity : HalfWatts) (port : ℕ) (cable : Ma10) (r : Change) → AttachDecides s y capacity port cable r
      → Not21 s.fault.number → Not21 r.answer.number
  pub advertise : (s : Standing) (y : Row) (capacity : HalfWatts) (port : ℕ) (r : Change) → AdvertiseDecides s y capacity port r
      → Not21 s.fault.number → Not21 r.answer.number
  pub offer : (c : Change) (r : Listing) → OfferAnswers c r → Not21 c.answer.number → Not21 r.verdict.number
  pub request : (s : Standing) (y : Row) (capacity : HalfWatts) (port word : ℕ) (r : Change) → RequestDecides s y capacity port word r
      → Not21 s.fault.number → Not21 r.answer.number
  pub detach : (s : Standing) (y : Row) (capacity : HalfWatts) (port : ℕ) (r : Change) → DetachDecides s y capacity port r
      → Not21 s.fault.number → Not21 r.answer.number
  pub remaining : (s : Standing) (capacity : HalfWatts) (r : RemainingPower) → RemainingDecides s capacity r
      → Not21 s.fault.number → Not21 r.verdict.number
  -- flat
  pub raise : (x : FlatObject) (r : Option Object) → RaiseAnswers x r → Not21 (raised_says r).0
  pub flat_read_for : (side : Side) (l : Words) (r : FlatReading) → FlatReadForAnswers side l r → Not21 r.verdict.number
  pub flat_read : (l : Words) (r : FlatReading) → FlatReadAnswers l r → Not21 r.verdict.number
  pub flat_write_for : (side : Side) (f : FlatObjects) (r : Listing) → FlatWriteForAnswers side f r → Not21 r.verdict.number
  pub flat_write : (f : FlatObjects) (r : Listing) → FlatWriteAnswers f r → Not21 r.verdict.number
  pub flat_take_request : (l : Words) (w : ℕ) (r : FlatTaken) → FlatTakeRequestAnswers l w r → Not21 r.verdict.number
  pub flat_answer_summary : (s : Summary) (x : FlatRequest) (r : Verdict) → FlatAnswerSummaryAnswers s x r → Not21 r.number
  -- board, lists and requests
  pub arin_default_profile : (m : ℕ) (r : Profiled) → ArinDefaultAnswers m r → Not21 r.verdict.number
  pub arin_build : (p : Profile) (r : Listing) → ArinBuildAnswers p r → Not21 r.verdict.number
  pub arin_check : (p : Profile) (l : Words) (r : Verdict) → ArinCheckAnswers p l r → Not21 r.number
  pub arin_shape : (l : Words) (r : Verdict) → ArinShapeAnswers l r → Not21 r.number
  pub arin_read : (l : Words) (r : FlatReading) → ArinReadAnswers l r → Not21 r.verdict.number
  pub arin_write : (f : FlatObjects) (r : Listing) → ArinWriteAnswers f r → Not21 r.verdict.number
  pub arin_answer : (l : Words) (w : ℕ) (r : Verdict) → ArinAnswerAnswers l w r → Not21 r.number
  -- board, summaries
  pub arin_summarize : (l : Words) (r : Summarized) → ArinSummarizeAnswers l r → Not21 r.verdict.number
  pub arin_take_request : (l : Words) (w : ℕ) (r : FlatTaken) → ArinTakeRequestAnswers l w r → Not21 r.verdict.number
  pub arin_answer_summary : (s : Summary) (x : FlatRequest) (r : Verdict) → ArinAnswerSummaryAnswers s x r → Not21 r.number
  -- board, sinks
  pub arin_sink_shape : (l : Words) (r : Verdict) → ArinSinkShapeAnswers l r → Not21 r.number
  pub arin_sink_read : (l : Words) (r : FlatReading) → ArinSinkReadAnswers l r → Not21 r.verdict.number
  pub arin_sink_write : (f : FlatObjects) (r : Listing) → ArinSinkWriteAnswers f r → Not21 r.verdict.number
  pub arin_sink_check : (rating : ℕ) (l : Words) (r : Verdict) → ArinSinkCheckAnswers rating l r → Not21 r.number
  -- board, messages
  pub arin_take_message : (bs : List ℕ) (r : MessageReading) → ArinTakesMessage bs r → Not21 r.verdict.number
  pub arin_read_message : (bs : List ℕ) (r : MessageReading) → ArinReadsMessage bs r → Not21 r.verdict.number
  pub arin_write_message : (bs : List ℕ) (m : Message) (r : Written) (cs : List ℕ) → ArinWritesMessage bs m r cs → Not21 r.verdict.number
  -- board, over lent rows that can be anything
  pub arin_set_up : (ys : List Row) (capacity : ℕ) (r : Verdict) (zs : List Row) → SharesSetUp ys capacity r zs → Not21 r.number
  pub arin_attach : (ys : List Row) (capacity port cable : ℕ) (r : Listing) (zs : List Row) → SharesAttach ys capacity port cable r zs
      → Not21 r.verdict.number
  pub arin_advertise : (ys : List Row) (capacity port : ℕ) (r : Listing) (zs : List Row) → SharesAdvertise ys capacity port r zs
      → Not21 r.verdict.number
  pub arin_request : (ys : List Row) (capacity port word : ℕ) (r : Verdict) (zs : List Row) → SharesRequest ys capacity port word r zs
      → Not21 r.number
  pub arin_detach : (ys : List Row) (capacity port : ℕ) (r : Verdict) (zs : List Row) → SharesDetach ys capacity port r zs → Not21 r.number
  pub arin_remaining : (ys : List Row) (capacity : ℕ) (r : RemainingPower) → SharesRemaining ys capacity r → Not21 r.verdict.number
