-- A library, for the claims on wrong libraries: an answer to every call under its C name, for every input, and the rows after it. It meets the
-- contracts where each call does, for every input. That there is one that does is claimed here: the library of the definitions;
-- `definitions_meet` in proofs/RightLibrary.antt proves `DefinitionsMeet`.
-- Assumes nothing.
use Rattle.std.specs.Prelude.{List, ℕ}
use Rattle.verdicts.specs.declared.Verdict.{Verdict}
use Rattle.lists.specs.declared.Words.{Words}
use Rattle.lists.specs.declared.Listing.{Listing}
use Rattle.lists.specs.Shape.{shape_of}
use Rattle.rules.specs.declared.Profile.{Profile}
use Rattle.rules.specs.declared.Profiled.{Profiled}
use Rattle.rules.specs.Profiles.{half_watts, default_of}
use Rattle.rules.specs.Building.{built_of}
use Rattle.rules.specs.Checking.{checked_of}
use Rattle.requests.specs.Answering.{answer_of}
use Rattle.flat.specs.declared.FlatObjects.{FlatObjects}
use Rattle.flat.specs.declared.FlatReading.{FlatReading}
use Rattle.flat.specs.Reading.{flat_reading_of}
use Rattle.flat.specs.Writing.{flat_write_of}
use Rattle.ports.specs.declared.Row.{Row}
use Rattle.ports.specs.declared.RemainingPower.{RemainingPower}
use Rattle.ports.specs.Lending.{set_up_answer, set_up_rows, attach_answer, attach_rows, advertise_answer, advertise_rows, request_answer, request_rows, detach_answer, detach_rows, remaining_answer}
use Rattle.board.specs.Promises.{SharesSetUp, SharesAttach, SharesAdvertise, SharesRequest, SharesDetach, SharesRemaining}
use Rattle.demands.specs.FlatContracts.{ArinDefaultAnswers, ArinBuildAnswers, ArinCheckAnswers, ArinShapeAnswers, ArinReadAnswers, ArinWriteAnswers, ArinAnswerAnswers}

-- the calls over rows are given the rows and the capacity first, and give an answer and the rows after
pub record Library : Type 0 where
  pub default : ℕ → Profiled
  pub build : Profile → Listing
  pub check : Profile → Words → Verdict
  pub shape : Words → Verdict
  pub read : Words → FlatReading
  pub write : FlatObjects → Listing
  pub answer : Words → ℕ → Verdict
  pub set_up : List Row → ℕ → Verdict × List Row
  pub attach : List Row → ℕ → ℕ → ℕ → Listing × List Row
  pub advertise : List Row → ℕ → ℕ → Listing × List Row
  pub request : List Row → ℕ → ℕ → ℕ → Verdict × List Row
  pub detach : List Row → ℕ → ℕ → Verdict × List Row
  pub remaining : List Row → ℕ → RemainingPower

pub record Meets (l : Library) : Type 0 where
  pub defaults : (m : ℕ) → ArinDefaultAnswers m (l.default m)
  pub builds : (p : Profile) → ArinBuildAnswers p (l.build p)
  pub checks : (p : Profile) (w : Words) → ArinCheckAnswers p w (l.check p w)
  pub shapes : (w : Words) → ArinShapeAnswers w (l.shape w)
  pub reads : (w : Words) → ArinReadAnswers w (l.read w)
  pub writes : (f : FlatObjects) → ArinWriteAnswers f (l.write f)
  pub answers : (w : Words) (word : ℕ) → ArinAnswerAnswers w word (l.answer w word)
  pub sets_up : (ys : List Row) (capacity : ℕ) → SharesSetUp ys capacity (l.set_up ys capacity).0 (l.set_up ys capacity).1
  pub attaches : (ys : List Row) (capacity port cable : ℕ) → SharesAttach ys capacity port cable (l.attach ys capacity port cable).0
      (l.attach ys capacity port cable).1
  pub advertises : (ys : List Row) (capacity port : ℕ) → SharesAdvertise ys capacity port (l.advertise ys capacity port).0
      (l.advertise ys capacity port).1
  pub requests : (ys : List Row) (capacity port word : ℕ) → SharesRequest ys capacity port word (l.request ys capacity port word).0
      (l.request ys capacity port word).1
  pub detaches : (ys : List Row) (capacity port : ℕ) → SharesDetach ys capacity port (l.detach ys capacity port).0 (l.detach ys capacity port).1
  pub remains : (ys : List Row) (capacity : ℕ) → SharesRemaining ys capacity (l.remaining ys capacity)

-- ---- one that does: each call gives what its definition gives

abbrev pub of_definitions : Library
of_definitions = record {
  default = λ m. default_of (half_watts m);
  build = built_of;
  check = checked_of;
  shape = shape_of;
  read = flat_reading_of;
  write = flat_write_of;
  answer = answer_of;
  set_up = λ ys capacity. (set_up_answer capacity ys, set_up_rows capacity ys);
  attach = λ ys capacity port cable. (attach_answer capacity ys port cable, attach_rows capacity ys port cable);
  advertise = λ ys capacity port. (advertise_answer capacity ys port, advertise_rows capacity ys port);
  request = λ ys capacity port word. (request_answer capacity ys port word, request_rows capacity ys port word);
  detach = λ ys capacity port. (detach_answer capacity ys port, detach_rows capacity ys port);
  remaining = λ ys capacity. remaining_answer capacity ys;
}

abbrev pub DefinitionsMeet : Type 0
DefinitionsMeet = Meets of_definitions
