-- Proves the claims of specs/OneOutcome.antt.
-- Assumes nothing.
use mathlib.Core.Path.{◌≡◌, sym, ◌∙◌}
use mathlib.Core.Bool.{Bool}
use Prim.Native.Nat.{ℕ}
use Rattle.steps.proofs.Saying.{mv20_one, mv25_one, mv50_one, mv100_one, ma10_one, ma50_one}
use Rattle.objects.proofs.Saying.{decoded_one, encoded_one}
use Rattle.rules.proofs.Saying.{placed_one}
use Rattle.steps.specs.declared.Mv50.{Mv50}
use Rattle.steps.specs.declared.Mv100.{Mv100}
use Rattle.steps.specs.declared.Ma10.{Ma10}
use Rattle.objects.specs.declared.Side.{Side}
use Rattle.objects.specs.declared.Object.{Object}
use Rattle.demands.specs.CallContracts.{VerdictPlacelessAnswers, VerdictAtAnswers, VerdictPassedAnswers}
use Rattle.demands.specs.CallContracts.{DecodeForAnswers, BadCountAnswers, ShapeForAnswers, ReadableAnswers, FinishedAnswers, RoundDownAnswers, RoundUpAnswers, RoundBothAnswers}
use Rattle.demands.specs.CallContracts.{DecodeForAnswers, BadCountAnswers, ShapeForAnswers, ReadableAnswers, FinishedAnswers, Mv20ToMv25Answers, Mv20ToMv50Answers, Mv20ToMv100Answers, Mv25ToMv20Answers, Mv25ToMv50Answers, Mv25ToMv100Answers, Mv50ToMv20Answers, Mv50ToMv25Answers, Mv50ToMv100Answers, Mv100ToMv20Answers, Mv100ToMv25Answers, Mv100ToMv50Answers, Ma10ToMa50Answers, Ma50ToMa10Answers}
use Rattle.demands.specs.CallContracts.{DecodeForAnswers, BadCountAnswers, ShapeForAnswers, ReadableAnswers, FinishedAnswers, IsKindAnswers, DecodeAnswers, ReservedAnswers, EncodeAnswers, FixedWordAnswers, PpsWordAnswers, AvsWordAnswers}
use Rattle.demands.specs.CallContracts.{DecodeForAnswers, BadCountAnswers, ShapeForAnswers, ReadableAnswers, FinishedAnswers, ShapeAnswers, ReadAnswers, RefuseAnswers, WriteAnswers}
use Rattle.rules.specs.declared.Profile.{Profile}
use Rattle.demands.specs.CallContracts.{DecodeForAnswers, BadCountAnswers, ShapeForAnswers, ReadableAnswers, FinishedAnswers, BadCableAnswers, DefaultAnswers, BuildAnswers, CheckAnswers, WordAtAnswers}
use Rattle.lists.specs.declared.Words.{Words}
use Rattle.demands.specs.CallContracts.{DecodeForAnswers, BadCountAnswers, ShapeForAnswers, ReadableAnswers, FinishedAnswers, PositionAnswers, TakeApartAnswers, AnswerAnswers, JudgeAnswers}
use mathlib.Core.List.{List}
use Rattle.steps.specs.declared.HalfWatts.{HalfWatts}
use Rattle.verdicts.specs.declared.Verdict.{Verdict}
use Rattle.lists.specs.declared.Listing.{Listing}
use Rattle.ports.specs.declared.Row.{Row}
use Rattle.ports.specs.declared.Standing.{Standing}
use Rattle.demands.specs.CallContracts.{DecodeForAnswers, BadCountAnswers, ShapeForAnswers, ReadableAnswers, FinishedAnswers, EmptiedAnswers, BeginAnswers, GoesOnAnswers, TakeRowAnswers, AllOrNoneAnswers, PlaceOfAnswers}
use Rattle.demands.specs.CallContracts.{DecodeForAnswers, BadCountAnswers, ShapeForAnswers, ReadableAnswers, FinishedAnswers, AttachDecides, AdvertiseDecides, OfferAnswers, RequestDecides, DetachDecides, RemainingDecides}
use Rattle.board.specs.Promises.{SharesSetUp, SharesAttach, SharesAdvertise, SharesRequest, SharesDetach, SharesRemaining}
use Rattle.demands.specs.OneOutcome.{Settled, Both, NoSecondOutcome}

-- Every contract here says that the answer, or what it says where it is an enum, equals a definition; what an enum says tells its cases apart.
only : {R : Type 0} {x r s : R} → r ≡ x → s ≡ x → r ≡ s
only e f = e ∙ sym f

-- ---- verdicts

pub verdict_placeless_settles : Settled VerdictPlacelessAnswers
verdict_placeless_settles number r s e f = only e f

pub verdict_at_settles : (number : ℕ) → Settled (VerdictAtAnswers number)
verdict_at_settles number place r s e f = only e f

pub verdict_passed_settles : Settled VerdictPassedAnswers
verdict_passed_settles v r s e f = only e f

-- ---- steps

pub round_down_settles : (numerator : ℕ) → Settled (RoundDownAnswers numerator)
round_down_settles numerator divisor r s e f = only e f

pub round_up_settles : (numerator : ℕ) → Settled (RoundUpAnswers numerator)
round_up_settles numerator divisor r s e f = only e f

pub round_both_settles : (numerator : ℕ) → Settled (RoundBothAnswers numerator)
round_both_settles numerator divisor r s e f = only e f

pub mv20_to_mv25_settles : Settled Mv20ToMv25Answers
mv20_to_mv25_settles v r s e f = mv25_one r s (only e f)

pub mv20_to_mv50_settles : Settled Mv20ToMv50Answers
mv20_to_mv50_settles v r s e f = mv50_one r s (only e f)

pub mv20_to_mv100_settles : Settled Mv20ToMv100Answers
mv20_to_mv100_settles v r s e f = mv100_one r s (only e f)

pub mv25_to_mv20_settles : Settled Mv25ToMv20Answers
mv25_to_mv20_settles v r s e f = mv20_one r s (only e f)

pub mv25_to_mv50_settles : Settled Mv25ToMv50Answers
mv25_to_mv50_settles v r s e f = mv50_one r s (only e f)

pub mv25_to_mv100_settles : Settled Mv25ToMv100Answers
mv25_to_mv100_settles v r s e f = mv100_one r s (only e f)

pub mv50_to_mv20_settles : Settled Mv50ToMv20Answers
mv50_to_mv20_settles v r s e f = mv20_one r s (only e f)

pub mv50_to_mv25_settles : Settled Mv50ToMv25Answers
mv50_to_mv25_settles v r s e f = mv25_one r s (only e f)

pub mv50_to_mv100_settles : Settled Mv50ToMv100Answers
mv50_to_mv100_settles v r s e f = mv100_one r s (only e f)

pub mv100_to_mv20_settles : Settled Mv100ToMv20Answers
mv100_to_mv20_settles v r s e f = mv20_one r s (only e f)

pub mv100_to_mv25_settles : Settled Mv100ToMv25Answers
mv100_to_mv25_settles v r s e f = mv25_one r s (only e f)

pub mv100_to_mv50_settles : Settled Mv100ToMv50Answers
mv100_to_mv50_settles v r s e f = mv50_one r s (only e f)

pub ma10_to_ma50_settles : Settled Ma10ToMa50Answers
ma10_to_ma50_settles v r s e f = ma50_one r s (only e f)

pub ma50_to_ma10_settles : Settled Ma50ToMa10Answers
ma50_to_ma10_settles v r s e f = ma10_one r s (only e f)

-- ---- objects

pub is_kind_settles : (w : ℕ) → Settled (IsKindAnswers w)
is_kind_settles w kind r s e f = only e f

pub decode_settles : Settled DecodeAnswers
decode_settles w r s e f = decoded_one r s (only e f)

pub decode_for_settles : (side : Side) → Settled (DecodeForAnswers side)
decode_for_settles side w r s e f = decoded_one r s (only e f)

pub reserved_bit_set_settles : (side : Side) (o : Object) (first : Bool) → Settled (ReservedAnswers side o first)
reserved_bit_set_settles side o first w r s e f = only e f

pub encode_settles : Settled EncodeAnswers
encode_settles o r s e f = encoded_one r s (only e f)

pub fixed_word_settles : (flags peak : ℕ) (volts : Mv50) → Settled (FixedWordAnswers flags peak volts)
fixed_word_settles flags peak volts current r s e f = encoded_one r s (only e f)

pub pps_word_settles : (limited : ℕ) (max min : Mv100) → Settled (PpsWordAnswers limited max min)
pps_word_settles limited max min current r s e f = encoded_one r s (only e f)

pub avs_word_settles : (peak : ℕ) (low : Ma10) → Settled (AvsWordAnswers peak low)
avs_word_settles peak low high r s e f = encoded_one r s (only e f)

-- ---- lists

pub bad_count_settles : Settled BadCountAnswers
bad_count_settles n r s e f = only e f

pub shape_for_settles : (side : Side) → Settled (ShapeForAnswers side)
shape_for_settles side l r s e f = only e f

pub shape_settles : Settled ShapeAnswers
shape_settles l r s e f = only e f

pub readable_settles : (side : Side) → Settled (ReadableAnswers side)
readable_settles side l r s e f = only e f

pub read_settles : Settled ReadAnswers
read_settles l r s e f = only e f

pub finished_settles : (side : Side) → Settled (FinishedAnswers side)
finished_settles side m r s e f = only e f

pub refuse_settles : (number : ℕ) → Settled (RefuseAnswers number)
refuse_settles number place r s e f = only e f

pub write_settles : Settled WriteAnswers
write_settles o r s e f = only e f

-- ---- rules

pub bad_cable_settles : Settled BadCableAnswers
bad_cable_settles cable r s e f = only e f

pub default_settles : Settled DefaultAnswers
default_settles m r s e f = only e f

pub build_settles : Settled BuildAnswers
build_settles p r s e f = only e f

pub check_settles : (p : Profile) → Settled (CheckAnswers p)
check_settles p l r s e f = only e f

pub word_at_settles : (p : Profile) → Settled (WordAtAnswers p)
word_at_settles p place r s e f = placed_one r s (only e f)

-- ---- requests

pub position_settles : Settled PositionAnswers
position_settles w r s e f = only e f

pub take_apart_settles : (o : Object) → Settled (TakeApartAnswers o)
take_apart_settles o w r s e f = only e f

pub answer_settles : (l : Words) → Settled (AnswerAnswers l)
answer_settles l w r s e f = only e f

pub judge_settles : (o : Object) → Settled (JudgeAnswers o)
judge_settles o w r s e f = only e f

-- ---- ports, by value

pub emptied_settles : Settled EmptiedAnswers
emptied_settles y r s e f = only e f

pub begin_settles : (count : ℕ) → Settled (BeginAnswers count)
begin_settles count capacity r s e f = only e f

pub goes_on_settles : (t : Standing) → Settled (GoesOnAnswers t)
goes_on_settles t judged r s e f = only e f

pub take_row_settles : (t : Standing) (y : Row) (place : ℕ) → Settled (TakeRowAnswers t y place)
take_row_settles t y place fresh r s e f = only e f

pub all_or_none_settles : Settled AllOrNoneAnswers
all_or_none_settles t r s e f = only e f

pub place_of_settles : (t : Standing) → Settled (PlaceOfAnswers t)
place_of_settles t port r s e f = only e f

pub attach_settles : (t : Standing) (y : Row) (capacity : HalfWatts) (port : ℕ) → Settled (AttachDecides t y capacity port)
attach_settles t y capacity port cable r s e f = only e f

pub advertise_settles : (t : Standing) (y : Row) (capacity : HalfWatts) → Settled (AdvertiseDecides t y capacity)
advertise_settles t y capacity port r s e f = only e f

pub offer_settles : Settled OfferAnswers
offer_settles c r s e f = only e f

pub request_settles : (t : Standing) (y : Row) (capacity : HalfWatts) (port : ℕ) → Settled (RequestDecides t y capacity port)
request_settles t y capacity port word r s e f = only e f

pub detach_settles : (t : Standing) (y : Row) (capacity : HalfWatts) → Settled (DetachDecides t y capacity)
detach_settles t y capacity port r s e f = only e f

pub remaining_settles : (t : Standing) → Settled (RemainingDecides t)
remaining_settles t capacity r s e f = only e f

-- ---- over lent rows: the answer and every row at exit, for any rows at entry

pub arin_set_up_settles : (ys : List Row) (capacity : ℕ) → Both Verdict (SharesSetUp ys capacity)
arin_set_up_settles ys capacity r s zs us e f = (only e.0 f.0, only e.1 f.1)

pub arin_attach_settles : (ys : List Row) (capacity port cable : ℕ) → Both Listing (SharesAttach ys capacity port cable)
arin_attach_settles ys capacity port cable r s zs us e f = (only e.0 f.0, only e.1 f.1)

pub arin_advertise_settles : (ys : List Row) (capacity port : ℕ) → Both Listing (SharesAdvertise ys capacity port)
arin_advertise_settles ys capacity port r s zs us e f = (only e.0 f.0, only e.1 f.1)

pub arin_request_settles : (ys : List Row) (capacity port word : ℕ) → Both Verdict (SharesRequest ys capacity port word)
arin_request_settles ys capacity port word r s zs us e f = (only e.0 f.0, only e.1 f.1)

pub arin_detach_settles : (ys : List Row) (capacity port : ℕ) → Both Verdict (SharesDetach ys capacity port)
arin_detach_settles ys capacity port r s zs us e f = (only e.0 f.0, only e.1 f.1)

pub arin_remaining_settles : (ys : List Row) → Settled (SharesRemaining ys)
arin_remaining_settles ys capacity r s e f = only e f

-- ---- all of them

pub no_second_outcome : NoSecondOutcome
no_second_outcome = record {
  verdict_placeless = verdict_placeless_settles;
  verdict_at = verdict_at_settles;
  verdict_passed = verdict_passed_settles;
  round_down = round_down_settles;
  round_up = round_up_settles;
  round_both = round_both_settles;
  mv20_to_mv25 = mv20_to_mv25_settles;
  mv20_to_mv50 = mv20_to_mv50_settles;
  mv20_to_mv100 = mv20_to_mv100_settles;
  mv25_to_mv20 = mv25_to_mv20_settles;
  mv25_to_mv50 = mv25_to_mv50_settles;
  mv25_to_mv100 = mv25_to_mv100_settles;
  mv50_to_mv20 = mv50_to_mv20_settles;
  mv50_to_mv25 = mv50_to_mv25_settles;
  mv50_to_mv100 = mv50_to_mv100_settles;
  mv100_to_mv20 = mv100_to_mv20_settles;
  mv100_to_mv25 = mv100_to_mv25_settles;
  mv100_to_mv50 = mv100_to_mv50_settles;
  ma10_to_ma50 = ma10_to_ma50_settles;
  ma50_to_ma10 = ma50_to_ma10_settles;
  is_kind = is_kind_settles;
  decode = decode_settles;
  decode_for = decode_for_settles;
  reserved_bit_set = reserved_bit_set_settles;
  encode = encode_settles;
  fixed_word = fixed_word_settles;
  pps_word = pps_word_settles;
  avs_word = avs_word_settles;
  bad_count = bad_count_settles;
  shape_for = shape_for_settles;
  shape = shape_settles;
  readable = readable_settles;
  read = read_settles;
  refuse = refuse_settles;
  finished = finished_settles;
  write = write_settles;
  bad_cable = bad_cable_settles;
  default = default_settles;
  build = build_settles;
  check = check_settles;
  word_at = word_at_settles;
  position = position_settles;
  take_apart = take_apart_settles;
  answer = answer_settles;
  judge = judge_settles;
  emptied = emptied_settles;
  begin = begin_settles;
  goes_on = goes_on_settles;
  take_row = take_row_settles;
  all_or_none = all_or_none_settles;
  place_of = place_of_settles;
  attach = attach_settles;
  advertise = advertise_settles;
  offer = offer_settles;
  request = request_settles;
  detach = detach_settles;
  remaining = remaining_settles;
  arin_set_up = arin_set_up_settles;
  arin_attach = arin_attach_settles;
  arin_advertise = arin_advertise_settles;
  arin_request = arin_request_settles;
  arin_detach = arin_detach_settles;
  arin_remaining = arin_remaining_settles;
}
