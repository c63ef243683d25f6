-- Demand 3, what is known of each port after a run, reckoned from the calls and their answers alone: its cable, the list it was last given, the
-- P of that list, and its figure, which is the power that is kept for it. Nothing here reads a row after set-up: M and PPS wanted are what the
-- caller lent to set-up, all else stands in calls and answers. Nothing is claimed here: AfterRun says what holds of these figures.
-- Ports count from 1, as the calls count them, and so do the places of refusals and the positions in request words. What is looked up in a list
-- counts from 0. So the port named `port` stands at `port - 1`: its row is `get_or start (port - 1) no_row`, and what is known of it `h (port - 1)`.
-- `◌-◌` stops at zero, so port 0 would look at 0 too; what is said of a port is therefore said from 1 on (`from_1`), and a call with port 0 is
-- refused and teaches nothing.
-- Assumes nothing.
use Rattle.std.specs.Prelude.{◌≡◌, true, false, cond, List, [], ◌∷◌, ℕ, ◌-◌, ◌≤◌, min, eqb, length, get_or}
use Rattle.verdicts.specs.declared.Verdict.{Verdict}
use Rattle.lists.specs.declared.Words.{Words}
use Rattle.lists.specs.Writing.{no_words}
use Rattle.rules.specs.Profiles.{bad_cable, half_watts, in_10_mA}
use Rattle.ports.specs.declared.Row.{Row}
use Rattle.ports.specs.Rows.{no_row, together, besides}
use Rattle.ports.specs.RuleLists.{rule_list}
use Rattle.ports.specs.Requests.{held_for}
use Rattle.demands.specs.Runs.{Event, attached, advertised, requested, detached, remained}

-- ---- what is known

-- what a bench knows of a port: its cable (0 when empty), the list it was last given, the P that list was for, and its figure
pub record Known : Type 0 where
  pub cable : ℕ
  pub list : Words
  pub present : ℕ
  pub figure : ℕ

-- an empty port counts 15
abbrev pub empty : Known
empty = record { cable = 0; list = no_words; present = 0; figure = 15 }

-- the figure of the port that stands at k
abbrev pub figures : (ℕ → Known) → ℕ → ℕ
figures h k = (h k).figure

-- the P of the next list of a port: the smaller of its M and what the figures of the others leave of the capacity, of `count` ports
abbrev pub smaller : ℕ → ℕ → (ℕ → ℕ) → (ℕ → Known) → ℕ → ℕ
smaller capacity count m h port = min (m (port - 1)) (capacity - together (besides (port - 1) (figures h)) count)

-- the port that stands at i known anew
unfoldable pub changed : ℕ → Known → (ℕ → Known) → ℕ → Known
changed i p h k = cond (eqb k i) p (h k)

-- a port known anew where the call was accepted, and else nothing
abbrev pub if_accepted : Verdict → ℕ → Known → (ℕ → Known) → ℕ → Known
if_accepted v port p h = cond (eqb v.number 0) (changed (port - 1) p h) h

-- the figure that a request would have: its power, and 15 at least, reckoned from the list that the port was last given
abbrev pub new_figure : (ℕ → Known) → ℕ → ℕ → ℕ
new_figure h port word = held_for (h (port - 1)).list (h (port - 1)).present word

-- what is known after one call more. A refused call teaches nothing. Attach tells the cable, the list and its P, and the figure is 15;
-- advertise tells a new list and its P; an accepted request changes the figure; after detach the port is empty
abbrev pub learnt : ℕ → ℕ → (ℕ → ℕ) → (ℕ → Known) → Event → ℕ → Known
learnt capacity count m h (attached port cable r) =
    if_accepted r.verdict port (record { cable = cable; list = r.list; present = smaller capacity count m h port; figure = 15 }) h
learnt capacity count m h (advertised port r) =
    if_accepted r.verdict port
    (record { cable = (h (port - 1)).cable; list = r.list; present = smaller capacity count m h port; figure = (h (port - 1)).figure }) h
learnt capacity count m h (requested port word r) =
    if_accepted r port
    (record { cable = (h (port - 1)).cable; list = (h (port - 1)).list; present = (h (port - 1)).present; figure = new_figure h port word }) h
learnt capacity count m h (detached port r) = if_accepted r port empty h
learnt capacity count m h (remained r) = h

-- M and PPS wanted of the port that stands at k, as lent to set-up
abbrev pub max_of : List Row → ℕ → ℕ
max_of start k = (get_or start k no_row).max.0

abbrev pub wanted_of : List Row → ℕ → ℕ
wanted_of start k = (get_or start k no_row).pps

-- what is known after a run: of empty ports, where set-up is all of it
abbrev pub known : ℕ → List Row → List Event → ℕ → Known
known capacity start [] = λ k. empty
known capacity start (e ∷ es) = learnt capacity (length start) (max_of start) (known capacity start es) e

-- ---- what follows from it

-- the rule list for M, PPS wanted, a cable and P
abbrev pub list_for : ℕ → ℕ → ℕ → ℕ → Words
list_for m wanted cable present =
    rule_list (record { max = half_watts m; pps = wanted; cable = in_10_mA cable; present = half_watts present; held = half_watts 0 })

-- a port that is attached, by what is known
pub record IsAttached (count : ℕ) (h : ℕ → Known) (port : ℕ) : Type 0 where
  pub from_1 : 1 ≤ port
  pub to_count : port ≤ count
  pub cabled : eqb (h (port - 1)).cable 0 ≡ false

-- a port that can be attached with a cable, by what is known
pub record CanAttach (count : ℕ) (h : ℕ → Known) (port cable : ℕ) : Type 0 where
  pub from_1 : 1 ≤ port
  pub to_count : port ≤ count
  pub good_cable : bad_cable cable ≡ false
  pub free : eqb (h (port - 1)).cable 0 ≡ true
