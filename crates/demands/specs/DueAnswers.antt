-- After every run, what the next call is due: by what is known from calls and answers alone it is accepted exactly where it is to be, and then
-- it has the answer that it is due. A row that stays as it was tells that its port is as it was. Each claim follows from demand 3, and is proved by
-- the theorem of its name in small letters (`due_answer` is `DueAnswer`) in proofs/DueAnswers.antt.
-- Ports count from 1 and what is looked up counts from 0, as in Figures.
-- Assumes nothing.
use Rattle.std.specs.Prelude.{◌≡◌, false, List, ◌∷◌, ◌↔◌, ℕ, ◌-◌, ◌≤◌, ◌<◌, eqb, length}
use Rattle.verdicts.specs.declared.Verdict.{Verdict}
use Rattle.verdicts.specs.Refusals.{success}
use Rattle.lists.specs.declared.Words.{Words}
use Rattle.lists.specs.declared.Listing.{Listing}
use Rattle.lists.specs.Writing.{no_words}
use Rattle.rules.specs.Profiles.{half_watts}
use Rattle.requests.specs.Answering.{answer_of}
use Rattle.ports.specs.declared.Row.{Row}
use Rattle.ports.specs.Rows.{row_of, together, besides}
use Rattle.demands.specs.Runs.{Event, attached, advertised, requested, detached, remained, Step, Run}
use Rattle.demands.specs.Figures.{Known, figures, smaller, new_figure, max_of, wanted_of, known, list_for, IsAttached, CanAttach}

-- ---- which calls are to be accepted, by what is known

-- a request that the port's latest list allows, and for which the others leave the power
pub record CanHold (capacity count : ℕ) (h : ℕ → Known) (port word : ℕ) : Type 0 where
  pub in_use : IsAttached count h port
  pub allowed : answer_of (h (port - 1)).list word ≡ success
  pub power_there : new_figure h port word ≤ capacity - together (besides (port - 1) (figures h)) count

-- attach on an empty port, the others on an attached one, remaining power always
abbrev pub ToAccept : ℕ → ℕ → (ℕ → Known) → Event → Type 0
ToAccept capacity count h (attached port cable r) = CanAttach count h port cable
ToAccept capacity count h (advertised port r) = IsAttached count h port
ToAccept capacity count h (requested port word r) = CanHold capacity count h port word
ToAccept capacity count h (detached port r) = IsAttached count h port
ToAccept capacity count h (remained r) = Unit {0}

-- ---- and with which answer; the one that an event has is not looked at

-- the rule list for M at the smaller of M and what the other figures leave of the capacity
abbrev pub next_list : ℕ → List Row → (ℕ → Known) → ℕ → ℕ → Words
next_list capacity start h port cable =
    list_for (max_of start (port - 1)) (wanted_of start (port - 1)) cable (smaller capacity (length start) (max_of start) h port)

abbrev pub accepting : Words → Listing
accepting l = record { verdict = success; list = l }

abbrev pub due : ℕ → List Row → (ℕ → Known) → Event → Event
due capacity start h (attached port cable r) = attached port cable (accepting (next_list capacity start h port cable))
due capacity start h (advertised port r) = advertised port (accepting (next_list capacity start h port (h (port - 1)).cable))
due capacity start h (requested port word r) = requested port word success
due capacity start h (detached port r) = detached port success
due capacity start h (remained r) =
    remained (record { verdict = success; power = half_watts (capacity - together (figures h) (length start)) })

-- what is looked at in an answer
abbrev pub verdict_in : Event → Verdict
verdict_in (attached port cable r) = r.verdict
verdict_in (advertised port r) = r.verdict
verdict_in (requested port word r) = r
verdict_in (detached port r) = r
verdict_in (remained r) = r.verdict

abbrev pub list_in : Event → Words
list_in (attached port cable r) = r.list
list_in (advertised port r) = r.list
list_in (requested port word r) = no_words
list_in (detached port r) = no_words
list_in (remained r) = no_words

-- ---- what stays known of a port where its row stays

pub record Same (before after : Known) : Type 0 where
  pub cable : after.cable ≡ before.cable
  pub figure : after.figure ≡ before.figure
  pub present : eqb before.cable 0 ≡ false → after.present ≡ before.present

-- ---- after every run

-- a call is accepted exactly where it is to be
abbrev pub AcceptedExactly : Type 0
AcceptedExactly =
    (capacity : ℕ) (start : List Row) (es : List Event) (ys : List Row) → Run capacity start es ys
    → (e : Event) (zs : List Row) → Step capacity ys e zs
    → verdict_in e ≡ success ↔ ToAccept capacity (length start) (known capacity start es) e

-- a call that is to be accepted has the answer that it is due
abbrev pub DueAnswer : Type 0
DueAnswer =
    (capacity : ℕ) (start : List Row) (es : List Event) (ys : List Row) → Run capacity start es ys
    → (e : Event) (zs : List Row) → Step capacity ys e zs
    → ToAccept capacity (length start) (known capacity start es) e → e ≡ due capacity start (known capacity start es) e

-- one call more: where the row of a port is the one before, the port is as before
abbrev pub RowStays : Type 0
RowStays =
    (capacity : ℕ) (start : List Row) (es : List Event) (ys : List Row) → Run capacity start es ys
    → (e : Event) (zs : List Row) → Step capacity ys e zs → (k : ℕ) → k < length start → row_of zs k ≡ row_of ys k
    → Same (known capacity start es k) (known capacity start (e ∷ es) k)

-- an attached port has a figure of 15 at least
abbrev pub FigureFrom15 : Type 0
FigureFrom15 =
    (capacity : ℕ) (start : List Row) (es : List Event) (ys : List Row) → Run capacity start es ys
    → (port : ℕ) → IsAttached (length start) (known capacity start es) port → 15 ≤ (known capacity start es (port - 1)).figure
