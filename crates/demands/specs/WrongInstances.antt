-- The six wrong libraries of docs/STATEMENT.md, "What the contracts settle", each as a definition: in which ways a library is wrong. No library
-- that meets the contracts is wrong in any of these ways, shown on the rows of the worked cases, capacity 200 and two ports of M 130.
-- `no_wrong_library` in proofs/WrongInstances.antt proves `NoWrongLibrary`; each way has a theorem of its own there, which follows from
-- WrongLibraries. That there is a library which meets them is claimed in Libraries.
-- Assumes nothing.
use Rattle.std.specs.Prelude.{◌≡◌, List, [], ◌∷◌, ℕ}
use Rattle.verdicts.specs.Refusals.{success}
use Rattle.lists.specs.declared.Words.{Words}
use Rattle.lists.specs.declared.Listing.{Listing}
use Rattle.rules.specs.declared.Profile.{Profile}
use Rattle.flat.specs.declared.FlatObjects.{FlatObjects}
use Rattle.ports.specs.declared.Row.{Row}
use Rattle.board.specs.Promises.{SharesAttach}
use Rattle.demands.specs.MarkedCases.{port, two, fixed}
use Rattle.demands.specs.Runs.{Event, attached, requested, Run}
use Rattle.demands.specs.DueAnswers.{accepting}
use Rattle.demands.specs.Libraries.{Library, Meets}

-- ---- a run: set-up, port 1 is attached, and takes its power

abbrev pub none_attached : List Row
none_attached = two (port 0 0 15) (port 0 0 15)

abbrev pub one_attached : List Row
one_attached = two (port 500 130 15) (port 0 0 15)

abbrev pub one_holds : List Row
one_holds = two (port 500 130 130) (port 0 0 15)

abbrev pub list_130 : Words
list_130 = record { words = 0x0001912C ∷ 0x0002D12C ∷ 0x0004B12C ∷ 0x00064145 ∷ 0xE004B145 ∷ 0 ∷ 0 ∷ []; count = 5 }

abbrev pub first_call : List Event
first_call = attached 1 500 (accepting list_130) ∷ []

abbrev pub both_calls : List Event
both_calls = requested 1 (fixed 4 325) success ∷ first_call

-- it is a run; `first_calls` proves it
abbrev pub FirstCalls : Type 0
FirstCalls = Run 200 none_attached both_calls one_holds

-- ---- the six

-- 1: a call refuses every input
pub data RefusesEverything (l : Library) : Type 0 where
  of_default : ((n : ℕ) → (l.default n).verdict ≡ success → ⊥) → RefusesEverything l
  of_build : ((p : Profile) → (l.build p).verdict ≡ success → ⊥) → RefusesEverything l
  of_check : ((p : Profile) (w : Words) → l.check p w ≡ success → ⊥) → RefusesEverything l
  of_shape : ((w : Words) → l.shape w ≡ success → ⊥) → RefusesEverything l
  of_read : ((w : Words) → (l.read w).verdict ≡ success → ⊥) → RefusesEverything l
  of_write : ((o : FlatObjects) → (l.write o).verdict ≡ success → ⊥) → RefusesEverything l
  of_answer : ((w : Words) (word : ℕ) → l.answer w word ≡ success → ⊥) → RefusesEverything l
  of_set_up : ((ys : List Row) (capacity : ℕ) → (l.set_up ys capacity).0 ≡ success → ⊥) → RefusesEverything l
  of_advertise : ((ys : List Row) (capacity port : ℕ) → (l.advertise ys capacity port).0.verdict ≡ success → ⊥) → RefusesEverything l
  of_detach : ((ys : List Row) (capacity port : ℕ) → (l.detach ys capacity port).0 ≡ success → ⊥) → RefusesEverything l
  of_remaining : ((ys : List Row) (capacity : ℕ) → (l.remaining ys capacity).verdict ≡ success → ⊥) → RefusesEverything l

-- 2: no port is attached, or no shared request accepted
pub data ServesNoPort (l : Library) : Type 0 where
  no_attach : ((ys : List Row) (capacity port cable : ℕ) → (l.attach ys capacity port cable).0.verdict ≡ success → ⊥) → ServesNoPort l
  no_request : ((ys : List Row) (capacity port word : ℕ) → (l.request ys capacity port word).0 ≡ success → ⊥) → ServesNoPort l

-- 3: each list has one word, which is that of 5 V
pub data Always5V (l : Library) : Type 0 where
  built_5_V : ((p : Profile) → (l.build p).list.count ≡ 1) → Always5V l
  attached_5_V : ((ys : List Row) (capacity port cable : ℕ) → (l.attach ys capacity port cable).0.list.count ≡ 1) → Always5V l
  advertised_5_V : ((ys : List Row) (capacity port : ℕ) → (l.advertise ys capacity port).0.list.count ≡ 1) → Always5V l

-- 4: requests are ignored, or no row ever changes
pub data ChangesNothing (l : Library) : Type 0 where
  by_request : ((ys : List Row) (capacity port word : ℕ) → (l.request ys capacity port word).1 ≡ ys) → ChangesNothing l
  by_attach : ((ys : List Row) (capacity port cable : ℕ) → (l.attach ys capacity port cable).1 ≡ ys) → ChangesNothing l
  by_detach : ((ys : List Row) (capacity port : ℕ) → (l.detach ys capacity port).1 ≡ ys) → ChangesNothing l

-- 5: after the run above, port 2 is attached with a nod: with the list that port 1 got, or with rows that stay
pub data OnlyNods (l : Library) : Type 0 where
  same_list : (l.attach one_holds 200 2 500).0 ≡ accepting list_130 → OnlyNods l
  same_rows : (l.attach one_holds 200 2 500).1 ≡ one_holds → OnlyNods l

-- 6: the list of port 1 has a count other than 5, or the power that remains after the run is other than 55
pub data Invents (l : Library) : Type 0 where
  a_count : (n : ℕ) → (n ≡ 5 → ⊥) → (l.attach none_attached 200 1 500).0.list.count ≡ n → Invents l
  a_power : (n : ℕ) → (n ≡ 55 → ⊥) → (l.remaining one_holds 200).power.0 ≡ n → Invents l

pub data Wrong (l : Library) : Type 0 where
  refuses_everything : RefusesEverything l → Wrong l
  serves_no_port : ServesNoPort l → Wrong l
  always_5_V : Always5V l → Wrong l
  changes_nothing : ChangesNothing l → Wrong l
  only_nods : OnlyNods l → Wrong l
  invents : Invents l → Wrong l

abbrev pub NoWrongLibrary : Type 0
NoWrongLibrary = (l : Library) → Meets l → Wrong l → ⊥

-- ---- 5, for a library with any memory of its own: no answer to the next call that its contract allows is a nod

abbrev pub NoOldList : Type 0
NoOldList = (r : Listing) (zs : List Row) → SharesAttach one_holds 200 2 500 r zs → r ≡ accepting list_130 → ⊥

abbrev pub NoOldRows : Type 0
NoOldRows = (r : Listing) (zs : List Row) → SharesAttach one_holds 200 2 500 r zs → zs ≡ one_holds → ⊥
