-- No second outcome: for every input, good or bad, a public call's contract allows one answer only, and over lent rows one list of rows after
-- the call. `NoSecondOutcome` has a line for each public call, by its name or short for it. Each line is proved by the theorem of its name,
-- `shape_settles` for `shape`, and all together by `no_second_outcome`, in proofs/OneOutcome.antt (docs/STATEMENT.md, "What the contracts settle").
-- The calls over flat objects and the calls on lists under C names are in FlatOutcomes.
-- Assumes nothing.
use Rattle.std.specs.Prelude.{◌≡◌, Bool, List, ℕ}
use Rattle.verdicts.specs.declared.Verdict.{Verdict}
use Rattle.steps.specs.declared.Mv50.{Mv50}
use Rattle.steps.specs.declared.Mv100.{Mv100}
use Rattle.steps.specs.declared.Ma10.{Ma10}
use Rattle.steps.specs.declared.HalfWatts.{HalfWatts}
use Rattle.objects.specs.declared.Side.{Side}
use Rattle.objects.specs.declared.Object.{Object}
use Rattle.lists.specs.declared.Words.{Words}
use Rattle.lists.specs.declared.Listing.{Listing}
use Rattle.rules.specs.declared.Profile.{Profile}
use Rattle.ports.specs.declared.Row.{Row}
use Rattle.ports.specs.declared.Standing.{Standing}
use Rattle.board.specs.Promises.{SharesSetUp, SharesAttach, SharesAdvertise, SharesRequest, SharesDetach, SharesRemaining}
use Rattle.demands.specs.CallContracts.{VerdictPlacelessAnswers, VerdictAtAnswers, VerdictPassedAnswers}
use Rattle.demands.specs.CallContracts.{DecodeForAnswers, BadCountAnswers, ShapeForAnswers, ReadableAnswers, FinishedAnswers, RoundDownAnswers, RoundUpAnswers, RoundBothAnswers}
use Rattle.demands.specs.CallContracts.{DecodeForAnswers, BadCountAnswers, ShapeForAnswers, ReadableAnswers, FinishedAnswers, Mv20ToMv25Answers, Mv20ToMv50Answers, Mv20ToMv100Answers, Mv25ToMv20Answers, Mv25ToMv50Answers, Mv25ToMv100Answers, Mv50ToMv20Answers, Mv50ToMv25Answers, Mv50ToMv100Answers, Mv100ToMv20Answers, Mv100ToMv25Answers, Mv100ToMv50Answers, Ma10ToMa50Answers, Ma50ToMa10Answers}
use Rattle.demands.specs.CallContracts.{DecodeForAnswers, BadCountAnswers, ShapeForAnswers, ReadableAnswers, FinishedAnswers, IsKindAnswers, DecodeAnswers, ReservedAnswers, EncodeAnswers, FixedWordAnswers, PpsWordAnswers, AvsWordAnswers}
use Rattle.demands.specs.CallContracts.{DecodeForAnswers, BadCountAnswers, ShapeForAnswers, ReadableAnswers, FinishedAnswers, ShapeAnswers, ReadAnswers, RefuseAnswers, WriteAnswers}
use Rattle.demands.specs.CallContracts.{DecodeForAnswers, BadCountAnswers, ShapeForAnswers, ReadableAnswers, FinishedAnswers, BadCableAnswers, DefaultAnswers, BuildAnswers, CheckAnswers, WordAtAnswers}
use Rattle.demands.specs.CallContracts.{DecodeForAnswers, BadCountAnswers, ShapeForAnswers, ReadableAnswers, FinishedAnswers, PositionAnswers, TakeApartAnswers, AnswerAnswers, JudgeAnswers}
use Rattle.demands.specs.CallContracts.{DecodeForAnswers, BadCountAnswers, ShapeForAnswers, ReadableAnswers, FinishedAnswers, EmptiedAnswers, BeginAnswers, GoesOnAnswers, TakeRowAnswers, AllOrNoneAnswers, PlaceOfAnswers}
use Rattle.demands.specs.CallContracts.{DecodeForAnswers, BadCountAnswers, ShapeForAnswers, ReadableAnswers, FinishedAnswers, AttachDecides, AdvertiseDecides, OfferAnswers, RequestDecides, DetachDecides, RemainingDecides}

-- two answers that a contract allows for one input are the same
abbrev pub Settled : {A R : Type 0} → (A → R → Type 0) → Type 0
Settled {A} {R} allows = (a : A) (r s : R) → allows a r → allows a s → r ≡ s

-- and so are the rows at exit
abbrev pub Both : (R : Type 0) → (R → List Row → Type 0) → Type 0
Both R allows = (r s : R) (zs us : List Row) → allows r zs → allows s us → (r ≡ s) × (zs ≡ us)

pub record NoSecondOutcome : Type 0 where
  -- verdicts
  pub verdict_placeless : Settled VerdictPlacelessAnswers
  pub verdict_at : (number : ℕ) → Settled (VerdictAtAnswers number)
  pub verdict_passed : Settled VerdictPassedAnswers
  -- steps
  pub round_down : (numerator : ℕ) → Settled (RoundDownAnswers numerator)
  pub round_up : (numerator : ℕ) → Settled (RoundUpAnswers numerator)
  pub round_both : (numerator : ℕ) → Settled (RoundBothAnswers numerator)
  pub mv20_to_mv25 : Settled Mv20ToMv25Answers
  pub mv20_to_mv50 : Settled Mv20ToMv50Answers
  pub mv20_to_mv100 : Settled Mv20ToMv100Answers
  pub mv25_to_mv20 : Settled Mv25ToMv20Answers
  pub mv25_to_mv50 : Settled Mv25ToMv50Answers
  pub mv25_to_mv100 : Settled Mv25ToMv100Answers
  pub mv50_to_mv20 : Settled Mv50ToMv20Answers
  pub mv50_to_mv25 : Settled Mv50ToMv25Answers
  pub mv50_to_mv100 : Settled Mv50ToMv100Answers
  pub mv100_to_mv20 : Settled Mv100ToMv20Answers
  pub mv100_to_mv25 : Settled Mv100ToMv25Answers
  pub mv100_to_mv50 : Settled Mv100ToMv50Answers
  pub ma10_to_ma50 : Settled Ma10ToMa50Answers
  pub ma50_to_ma10 : Settled Ma50ToMa10Answers
  -- objects
  pub is_kind : (w : ℕ) → Settled (IsKindAnswers w)
  pub decode : Settled DecodeAnswers
  pub decode_for : (side : Side) → Settled (DecodeForAnswers side)
  pub reserved_bit_set : (side : Side) (o : Object) (first : Bool) → Settled (ReservedAnswers side o first)
  pub encode : Settled EncodeAnswers
  pub fixed_word : (flags peak : ℕ) (volts : Mv50) → Settled (FixedWordAnswers flags peak volts)
  pub pps_word : (limited : ℕ) (max min : Mv100) → Settled (PpsWordAnswers limited max min)
  pub avs_word : (peak : ℕ) (low : Ma10) → Settled (AvsWordAnswers peak low)
  -- lists
  pub bad_count : Settled BadCountAnswers
  pub shape_for : (side : Side) → Settled (ShapeForAnswers side)
  pub shape : Settled ShapeAnswers
  pub readable : (side : Side) → Settled (ReadableAnswers side)
  pub read : Settled ReadAnswers
  pub refuse : (number : ℕ) → Settled (RefuseAnswers number)
  pub finished : (side : Side) → Settled (FinishedAnswers side)
  pub write : Settled WriteAnswers
  -- rules
  pub bad_cable : Settled BadCableAnswers
  pub default : Settled DefaultAnswers
  pub build : Settled BuildAnswers
  pub check : (p : Profile) → Settled (CheckAnswers p)
  pub word_at : (p : Profile) → Settled (WordAtAnswers p)
  -- requests
  pub position : Settled PositionAnswers
  pub take_apart : (o : Object) → Settled (TakeApartAnswers o)
  pub answer : (l : Words) → Settled (AnswerAnswers l)
  pub judge : (o : Object) → Settled (JudgeAnswers o)
  -- ports, by value
  pub emptied : Settled EmptiedAnswers
  pub begin : (count : ℕ) → Settled (BeginAnswers count)
  pub goes_on : (t : Standing) → Settled (GoesOnAnswers t)
  pub take_row : (t : Standing) (y : Row) (place : ℕ) → Settled (TakeRowAnswers t y place)
  pub all_or_none : Settled AllOrNoneAnswers
  pub place_of : (t : Standing) → Settled (PlaceOfAnswers t)
  pub attach : (t : Standing) (y : Row) (capacity : HalfWatts) (port : ℕ) → Settled (AttachDecides t y capacity port)
  pub advertise : (t : Standing) (y : Row) (capacity : HalfWatts) → Settled (AdvertiseDecides t y capacity)
  pub offer : Settled OfferAnswers
  pub request : (t : Standing) (y : Row) (capacity : HalfWatts) (port : ℕ) → Settled (RequestDecides t y capacity port)
  pub detach : (t : Standing) (y : Row) (capacity : HalfWatts) → Settled (DetachDecides t y capacity)
  pub remaining : (t : Standing) → Settled (RemainingDecides t)
  -- over lent rows: the answer and every row at exit, for any rows at entry
  pub arin_set_up : (ys : List Row) (capacity : ℕ) → Both Verdict (SharesSetUp ys capacity)
  pub arin_attach : (ys : List Row) (capacity port cable : ℕ) → Both Listing (SharesAttach ys capacity port cable)
  pub arin_advertise : (ys : List Row) (capacity port : ℕ) → Both Listing (SharesAdvertise ys capacity port)
  pub arin_request : (ys : List Row) (capacity port word : ℕ) → Both Verdict (SharesRequest ys capacity port word)
  pub arin_detach : (ys : List Row) (capacity port : ℕ) → Both Verdict (SharesDetach ys capacity port)
  pub arin_remaining : (ys : List Row) → Settled (SharesRemaining ys)
