-- The contract of each public call, by name: `ShapeAnswers l r` says that the contract of `shape` allows the answer r at the list l.
-- Each name is the clause of the source itself, as the prover reads it: `Post` of the arguments, the answer and the arguments at exit.
-- Nothing is claimed here. The claims of this folder speak of the calls by these names, by those of FlatContracts, and, for the calls over
-- lent rows, by the names that are their clauses (crates/board/specs/Promises.antt); where a claim is over a definition that a contract cites,
-- the head of its file says so.
-- Assumes nothing.
use Rattle.std.specs.Prelude.{Result, Bool, ℕ, Option}
use Rattle.verdicts.specs.declared.Verdict.{Verdict}
use Rattle.steps.specs.declared.Mv20.{Mv20}
use Rattle.steps.specs.declared.Mv25.{Mv25}
use Rattle.steps.specs.declared.Mv50.{Mv50}
use Rattle.steps.specs.declared.Mv100.{Mv100}
use Rattle.steps.specs.declared.Ma10.{Ma10}
use Rattle.steps.specs.declared.Ma50.{Ma50}
use Rattle.verdicts.proofs.Verdict.placeless.Reads as verdict_placeless
use Rattle.verdicts.proofs.Verdict.at.Reads as verdict_at
use Rattle.verdicts.proofs.Verdict.passed.Reads as verdict_passed
use Rattle.steps.proofs.round_down.Reads as round_down
use Rattle.steps.proofs.round_up.Reads as round_up
use Rattle.steps.specs.declared.Roundings.{Roundings}
use Rattle.steps.proofs.round_both.Reads as round_both
use Rattle.steps.proofs.Mv20.to_mv25.Reads as mv20_to_mv25
use Rattle.steps.proofs.Mv20.to_mv50.Reads as mv20_to_mv50
use Rattle.steps.proofs.Mv20.to_mv100.Reads as mv20_to_mv100
use Rattle.steps.proofs.Mv25.to_mv20.Reads as mv25_to_mv20
use Rattle.steps.proofs.Mv25.to_mv50.Reads as mv25_to_mv50
use Rattle.steps.proofs.Mv25.to_mv100.Reads as mv25_to_mv100
use Rattle.steps.proofs.Mv50.to_mv20.Reads as mv50_to_mv20
use Rattle.steps.proofs.Mv50.to_mv25.Reads as mv50_to_mv25
use Rattle.steps.proofs.Mv50.to_mv100.Reads as mv50_to_mv100
use Rattle.steps.proofs.Mv100.to_mv20.Reads as mv100_to_mv20
use Rattle.steps.proofs.Mv100.to_mv25.Reads as mv100_to_mv25
use Rattle.steps.proofs.Mv100.to_mv50.Reads as mv100_to_mv50
use Rattle.steps.proofs.Ma10.to_ma50.Reads as ma10_to_ma50
use Rattle.steps.proofs.Ma50.to_ma10.Reads as ma50_to_ma10
use Rattle.objects.specs.declared.Side.{Side}
use Rattle.objects.specs.declared.Object.{Object}
use Rattle.objects.proofs.is_kind.Reads as is_kind
use Rattle.objects.proofs.decode.Reads as decode
use Rattle.objects.proofs.decode_for.Reads as decode_for
use Rattle.objects.proofs.reserved_bit_set.Reads as reserved_bit_set
use Rattle.objects.proofs.encode.Reads as encode
use Rattle.objects.proofs.fixed_word.Reads as fixed_word
use Rattle.objects.proofs.pps_word.Reads as pps_word
use Rattle.objects.proofs.avs_word.Reads as avs_word
use Rattle.lists.specs.declared.Words.{Words}
use Rattle.lists.specs.declared.Objects.{Objects}
use Rattle.lists.specs.declared.Reading.{Reading}
use Rattle.lists.specs.declared.Listing.{Listing}
use Rattle.lists.specs.declared.Shaped.{Shaped}
use Rattle.lists.proofs.bad_count.Reads as bad_count
use Rattle.lists.proofs.shape_for.Reads as shape_for
use Rattle.lists.proofs.shape.Reads as shape
use Rattle.lists.proofs.readable.Reads as readable
use Rattle.lists.proofs.read.Reads as read
use Rattle.lists.proofs.refuse.Reads as refuse
use Rattle.lists.proofs.finished.Reads as finished
use Rattle.lists.proofs.write.Reads as write
use Rattle.steps.specs.declared.HalfWatts.{HalfWatts}
use Rattle.rules.specs.declared.Profile.{Profile}
use Rattle.rules.specs.declared.Profiled.{Profiled}
use Rattle.rules.proofs.bad_cable.Reads as bad_cable
use Rattle.rules.proofs.default_profile.Reads as default_profile
use Rattle.rules.proofs.build.Reads as build
use Rattle.rules.proofs.check.Reads as check
use Rattle.rules.proofs.word_at.Reads as word_at
use Rattle.requests.specs.declared.Asked.{Asked}
use Rattle.requests.proofs.position.Reads as position
use Rattle.requests.proofs.take_apart.Reads as take_apart
use Rattle.requests.proofs.answer.Reads as answer
use Rattle.requests.proofs.judge.Reads as judge
use Rattle.ports.specs.declared.Row.{Row}
use Rattle.ports.specs.declared.Standing.{Standing}
use Rattle.ports.specs.declared.Change.{Change}
use Rattle.ports.specs.declared.RemainingPower.{RemainingPower}
use Rattle.ports.proofs.emptied.Reads as emptied
use Rattle.ports.proofs.begin.Reads as begin
use Rattle.ports.proofs.goes_on.Reads as goes_on
use Rattle.ports.proofs.take_row.Reads as take_row
use Rattle.ports.proofs.all_or_none.Reads as all_or_none
use Rattle.ports.proofs.place_of.Reads as place_of
use Rattle.ports.proofs.attach.Reads as attach
use Rattle.ports.proofs.advertise.Reads as advertise
use Rattle.ports.proofs.offer.Reads as offer
use Rattle.ports.proofs.request.Reads as request
use Rattle.ports.proofs.detach.Reads as detach
use Rattle.ports.proofs.remaining.Reads as remaining

-- ---- verdicts

abbrev pub VerdictPlacelessAnswers : ℕ → Verdict → Type 0
VerdictPlacelessAnswers number r = verdict_placeless.Post tt (number, tt) r (number, tt)

abbrev pub VerdictAtAnswers : ℕ → ℕ → Verdict → Type 0
VerdictAtAnswers number place r = verdict_at.Post tt (number, (place, tt)) r (number, (place, tt))

abbrev pub VerdictPassedAnswers : Verdict → Result (Unit {0}) Verdict → Type 0
VerdictPassedAnswers v r = verdict_passed.Post tt (v, tt) r (v, tt)

-- ---- steps

abbrev pub RoundDownAnswers : ℕ → ℕ → ℕ → Type 0
RoundDownAnswers numerator divisor r = round_down.Post tt (numerator, (divisor, tt)) r (numerator, (divisor, tt))

abbrev pub RoundUpAnswers : ℕ → ℕ → ℕ → Type 0
RoundUpAnswers numerator divisor r = round_up.Post tt (numerator, (divisor, tt)) r (numerator, (divisor, tt))

abbrev pub RoundBothAnswers : ℕ → ℕ → Roundings → Type 0
RoundBothAnswers numerator divisor r = round_both.Post tt (numerator, (divisor, tt)) r (numerator, (divisor, tt))

abbrev pub Mv20ToMv25Answers : Mv20 → Option Mv25 → Type 0
Mv20ToMv25Answers v r = mv20_to_mv25.Post tt (v, tt) r (v, tt)

abbrev pub Mv20ToMv50Answers : Mv20 → Option Mv50 → Type 0
Mv20ToMv50Answers v r = mv20_to_mv50.Post tt (v, tt) r (v, tt)

abbrev pub Mv20ToMv100Answers : Mv20 → Option Mv100 → Type 0
Mv20ToMv100Answers v r = mv20_to_mv100.Post tt (v, tt) r (v, tt)

abbrev pub Mv25ToMv20Answers : Mv25 → Option Mv20 → Type 0
Mv25ToMv20Answers v r = mv25_to_mv20.Post tt (v, tt) r (v, tt)

abbrev pub Mv25ToMv50Answers : Mv25 → Option Mv50 → Type 0
Mv25ToMv50Answers v r = mv25_to_mv50.Post tt (v, tt) r (v, tt)

abbrev pub Mv25ToMv100Answers : Mv25 → Option Mv100 → Type 0
Mv25ToMv100Answers v r = mv25_to_mv100.Post tt (v, tt) r (v, tt)

abbrev pub Mv50ToMv20Answers : Mv50 → Option Mv20 → Type 0
Mv50ToMv20Answers v r = mv50_to_mv20.Post tt (v, tt) r (v, tt)

abbrev pub Mv50ToMv25Answers : Mv50 → Option Mv25 → Type 0
Mv50ToMv25Answers v r = mv50_to_mv25.Post tt (v, tt) r (v, tt)

abbrev pub Mv50ToMv100Answers : Mv50 → Option Mv100 → Type 0
Mv50ToMv100Answers v r = mv50_to_mv100.Post tt (v, tt) r (v, tt)

abbrev pub Mv100ToMv20Answers : Mv100 → Option Mv20 → Type 0
Mv100ToMv20Answers v r = mv100_to_mv20.Post tt (v, tt) r (v, tt)

abbrev pub Mv100ToMv25Answers : Mv100 → Option Mv25 → Type 0
Mv100ToMv25Answers v r = mv100_to_mv25.Post tt (v, tt) r (v, tt)

abbrev pub Mv100ToMv50Answers : Mv100 → Option Mv50 → Type 0
Mv100ToMv50Answers v r = mv100_to_mv50.Post tt (v, tt) r (v, tt)

abbrev pub Ma10ToMa50Answers : Ma10 → Option Ma50 → Type 0
Ma10ToMa50Answers v r = ma10_to_ma50.Post tt (v, tt) r (v, tt)

abbrev pub Ma50ToMa10Answers : Ma50 → Option Ma10 → Type 0
Ma50ToMa10Answers v r = ma50_to_ma10.Post tt (v, tt) r (v, tt)

-- ---- objects

abbrev pub IsKindAnswers : ℕ → ℕ → Bool → Type 0
IsKindAnswers w kind r = is_kind.Post tt (w, (kind, tt)) r (w, (kind, tt))

abbrev pub DecodeAnswers : ℕ → Option Object → Type 0
DecodeAnswers w r = decode.Post tt (w, tt) r (w, tt)

abbrev pub DecodeForAnswers : Side → ℕ → Option Object → Type 0
DecodeForAnswers side w r = decode_for.Post tt (side, (w, tt)) r (side, (w, tt))

abbrev pub ReservedAnswers : Side → Object → Bool → ℕ → Bool → Type 0
ReservedAnswers side o first w r = reserved_bit_set.Post tt (side, (o, (first, (w, tt)))) r (side, (o, (first, (w, tt))))

abbrev pub EncodeAnswers : Object → Option ℕ → Type 0
EncodeAnswers o r = encode.Post tt (o, tt) r (o, tt)

abbrev pub FixedWordAnswers : ℕ → ℕ → Mv50 → Ma10 → Option ℕ → Type 0
FixedWordAnswers flags peak volts current r =
    fixed_word.Post tt (flags, (peak, (volts, (current, tt)))) r (flags, (peak, (volts, (current, tt))))

abbrev pub PpsWordAnswers : ℕ → Mv100 → Mv100 → Ma50 → Option ℕ → Type 0
PpsWordAnswers limited max min current r =
    pps_word.Post tt (limited, (max, (min, (current, tt)))) r (limited, (max, (min, (current, tt))))

abbrev pub AvsWordAnswers : ℕ → Ma10 → Ma10 → Option ℕ → Type 0
AvsWordAnswers peak low high r = avs_word.Post tt (peak, (low, (high, tt))) r (peak, (low, (high, tt)))

-- ---- lists

abbrev pub BadCountAnswers : ℕ → Bool → Type 0
BadCountAnswers n r = bad_count.Post tt (n, tt) r (n, tt)

abbrev pub ShapeForAnswers : Side → Words → Verdict → Type 0
ShapeForAnswers side l r = shape_for.Post tt (side, (l, tt)) r (side, (l, tt))

abbrev pub ShapeAnswers : Words → Verdict → Type 0
ShapeAnswers l r = shape.Post tt (l, tt) r (l, tt)

abbrev pub ReadableAnswers : Side → Words → Shaped → Type 0
ReadableAnswers side l r = readable.Post tt (side, (l, tt)) r (side, (l, tt))

abbrev pub ReadAnswers : Words → Reading → Type 0
ReadAnswers l r = read.Post tt (l, tt) r (l, tt)

abbrev pub RefuseAnswers : ℕ → ℕ → Listing → Type 0
RefuseAnswers number place r = refuse.Post tt (number, (place, tt)) r (number, (place, tt))

abbrev pub FinishedAnswers : Side → Listing → Listing → Type 0
FinishedAnswers side m r = finished.Post tt (side, (m, tt)) r (side, (m, tt))

abbrev pub WriteAnswers : Objects → Listing → Type 0
WriteAnswers o r = write.Post tt (o, tt) r (o, tt)

-- ---- rules

abbrev pub BadCableAnswers : Ma10 → Bool → Type 0
BadCableAnswers cable r = bad_cable.Post tt (cable, tt) r (cable, tt)

abbrev pub DefaultAnswers : HalfWatts → Profiled → Type 0
DefaultAnswers m r = default_profile.Post tt (m, tt) r (m, tt)

abbrev pub BuildAnswers : Profile → Listing → Type 0
BuildAnswers p r = build.Post tt (p, tt) r (p, tt)

abbrev pub CheckAnswers : Profile → Words → Verdict → Type 0
CheckAnswers p l r = check.Post tt (p, (l, tt)) r (p, (l, tt))

abbrev pub WordAtAnswers : Profile → ℕ → Option ℕ → Type 0
WordAtAnswers p place r = word_at.Post tt (p, (place, tt)) r (p, (place, tt))

-- ---- requests

abbrev pub PositionAnswers : ℕ → ℕ → Type 0
PositionAnswers w r = position.Post tt (w, tt) r (w, tt)

abbrev pub TakeApartAnswers : Object → ℕ → Asked → Type 0
TakeApartAnswers o w r = take_apart.Post tt (o, (w, tt)) r (o, (w, tt))

abbrev pub AnswerAnswers : Words → ℕ → Verdict → Type 0
AnswerAnswers l w r = answer.Post tt (l, (w, tt)) r (l, (w, tt))

abbrev pub JudgeAnswers : Object → ℕ → Verdict → Type 0
JudgeAnswers o w r = judge.Post tt (o, (w, tt)) r (o, (w, tt))

-- ---- ports

abbrev pub EmptiedAnswers : Row → Row → Type 0
EmptiedAnswers y r = emptied.Post tt (y, tt) r (y, tt)

abbrev pub BeginAnswers : ℕ → HalfWatts → Standing → Type 0
BeginAnswers count capacity r = begin.Post tt (count, (capacity, tt)) r (count, (capacity, tt))

abbrev pub GoesOnAnswers : Standing → ℕ → Bool → Type 0
GoesOnAnswers s judged r = goes_on.Post tt (s, (judged, tt)) r (s, (judged, tt))

abbrev pub TakeRowAnswers : Standing → Row → ℕ → Bool → Standing → Type 0
TakeRowAnswers s y place fresh r = take_row.Post tt (s, (y, (place, (fresh, tt)))) r (s, (y, (place, (fresh, tt))))

abbrev pub AllOrNoneAnswers : Standing → ℕ → Type 0
AllOrNoneAnswers s r = all_or_none.Post tt (s, tt) r (s, tt)

abbrev pub PlaceOfAnswers : Standing → ℕ → ℕ → Type 0
PlaceOfAnswers s port r = place_of.Post tt (s, (port, tt)) r (s, (port, tt))

abbrev pub AttachDecides : Standing → Row → HalfWatts → ℕ → Ma10 → Change → Type 0
AttachDecides s y capacity port cable r =
    attach.Post tt (s, (y, (capacity, (port, (cable, tt))))) r (s, (y, (capacity, (port, (cable, tt)))))

abbrev pub AdvertiseDecides : Standing → Row → HalfWatts → ℕ → Change → Type 0
AdvertiseDecides s y capacity port r = advertise.Post tt (s, (y, (capacity, (port, tt)))) r (s, (y, (capacity, (port, tt))))

abbrev pub OfferAnswers : Change → Listing → Type 0
OfferAnswers c r = offer.Post tt (c, tt) r (c, tt)

abbrev pub RequestDecides : Standing → Row → HalfWatts → ℕ → ℕ → Change → Type 0
RequestDecides s y capacity port word r =
    request.Post tt (s, (y, (capacity, (port, (word, tt))))) r (s, (y, (capacity, (port, (word, tt)))))

abbrev pub DetachDecides : Standing → Row → HalfWatts → ℕ → Change → Type 0
DetachDecides s y capacity port r = detach.Post tt (s, (y, (capacity, (port, tt)))) r (s, (y, (capacity, (port, tt))))

abbrev pub RemainingDecides : Standing → HalfWatts → RemainingPower → Type 0
RemainingDecides s capacity r = remaining.Post tt (s, (capacity, tt)) r (s, (capacity, tt))
