-- How the rule check follows a list along the tables (STATEMENT, "The rule check"): parts of `checked_of`, named for the functions that
-- work them out. That they decide the set of objects and find the first current that is not allowed is proved in proofs/Followed and
-- proofs/SetLaw.
-- Assumes nothing.
use Rattle.objects.specs.declared.Object.{Object}
use Rattle.std.specs.Prelude.{Bool, true, not, ◌&&◌, ◌||◌, cond, List, ℕ, zero, suc, ◌+◌, ltb, eqb, get_or, length, Option, Some, None, Result, Ok}
use Rattle.verdicts.specs.declared.Verdict.{Verdict}
use Rattle.verdicts.specs.Refusals.{err}
use Rattle.objects.specs.Asking.{of_object}
use Rattle.objects.specs.Decode.{decode_of}
use Rattle.lists.specs.declared.Words.{Words}
use Rattle.rules.specs.declared.Profile.{Profile}
use Rattle.rules.specs.declared.checking.Found.{Found}
use Rattle.rules.specs.declared.checking.Found.TheVariants.{Other, Allowed, NotAllowed}
use Rattle.rules.specs.declared.checking.Walk.{Walk}
use Rattle.rules.specs.Tables.{Slot, Nothing, base_slots, slots}
use Rattle.rules.specs.Sets.{fits}
use Rattle.rules.specs.Checking.{current_refused}

abbrev pub walk : ℕ → Option ℕ → Walk
walk at fault = record { at = at; fault = fault }

-- the first fault is kept
abbrev pub first_fault : Option ℕ → ℕ → Option ℕ
first_fault (Some first) place = Some first
first_fault None place = Some place

-- what is said of the place of the first current that is not allowed
abbrev pub fault_said : Option ℕ → Result (Unit {0}) Verdict
fault_said (Some place) = err 19 place
fault_said None = Ok tt

-- the object at a place; past the count there is none
unfoldable pub object_at : Words → ℕ → Option Object
object_at l k = cond (ltb k l.count) (decode_of (get_or l.words k 0)) None

-- what stands where a slot's object has to stand
unfoldable pub found_of : Profile → Slot → Option Object → Found
found_of p s d = cond (of_object (fits s) d) (cond (of_object (current_refused p s) d) NotAllowed Allowed) Other

-- one place further; where another object stands or none, there is no way on
unfoldable pub step_by : Walk → Found → Option Walk
step_by w Other = None
step_by w Allowed = Some (walk (w.at + 1) w.fault)
step_by w NotAllowed = Some (walk (w.at + 1) (first_fault w.fault (w.at + 1)))

unfoldable pub step_of : Profile → Words → Slot → Walk → Option Walk
step_of p l s w = step_by w (found_of p s (object_at l w.at))

-- a step that is taken or not
abbrev pub step_if : Bool → Profile → Words → Slot → Walk → Option Walk
step_if goes p l s w = cond goes (step_of p l s w) (Some w)

-- a walk that is lost stays lost
abbrev pub and_on : Option Walk → (Walk → Option Walk) → Option Walk
and_on (Some w) f = f w
and_on None f = None

-- the first n slots of the port's full list
unfoldable pub followed : Profile → Words → ℕ → Option Walk
followed p l zero = Some (walk 0 None)
followed p l (suc n) = and_on (followed p l n) (step_of p l (get_or (slots p.max.0) n Nothing))

-- ---- what following a list to its end says

-- each of the first n words is what its slot asks for
unfoldable pub all_fit : List Slot → List ℕ → ℕ → Bool
all_fit ss ws zero = true
all_fit ss ws (suc k) = all_fit ss ws k && of_object (fits (get_or ss k Nothing)) (decode_of (get_or ws k 0))

-- without PPS, or with all of it where the port has its maximum
abbrev pub right_count : Profile → ℕ → Bool
right_count p n =
    eqb n (length (base_slots p.max.0)) || (not (ltb p.present.0 p.max.0) && eqb n (length (slots p.max.0)))

abbrev pub right_walk : Profile → Words → Bool
right_walk p l = right_count p l.count && all_fit (slots p.max.0) l.words l.count
