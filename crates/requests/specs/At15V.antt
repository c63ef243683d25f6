-- What is claimed of a request to an AVS object (STATEMENT, "Answering a request": "Both ranges hold 15.0 V, so a port that offers the
-- larger current there grants it."): `AsksAvs` is such a request, `AllowsUpTo` the largest current with which it is accepted. Over the
-- contract of the call the claim is in demands, At15V; no contract of this crate cites this page.
-- Assumes nothing.
use Rattle.std.specs.Prelude.{◌≡◌, ◌↔◌, ℕ, ◌<◌, ◌≤◌, Some}
use Rattle.verdicts.specs.Refusals.{verdict, success}
use Rattle.steps.specs.Units.{ma50}
use Rattle.steps.specs.declared.Ma10.{Ma10}
use Rattle.objects.specs.declared.Object.TheVariants.{Avs}
use Rattle.lists.specs.declared.Words.{Words}
use Rattle.lists.specs.Shape.{shape_of}
use Rattle.requests.specs.Taking.{position_of, current_in}
use Rattle.requests.specs.Answering.{named_by, answer_of}

-- A request to an AVS object: the shape of the list passes, the position names a word of the list, and that word is an AVS object with
-- these two currents. Its reserved bits are whatever they are.
pub record AsksAvs (l : Words) (w : ℕ) (low high : Ma10) : Type 0 where
  pub shape_passes : shape_of l ≡ success
  pub from_1 : 1 ≤ position_of w
  pub to_count : position_of w ≤ l.count
  pub peak : ℕ
  pub names : named_by l w ≡ Some (Avs peak low high)

-- The request is accepted exactly when its current is at most so many mA. Above that it is refused with 24, place 0.
pub record AllowsUpTo (l : Words) (w milliamperes : ℕ) : Type 0 where
  pub accepted : answer_of l w ≡ success ↔ (ma50 (current_in w) ≤ milliamperes)
  pub refused : milliamperes < ma50 (current_in w) → answer_of l w ≡ verdict 24 0
