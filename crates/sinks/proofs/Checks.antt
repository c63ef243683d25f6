-- The cases of the sink check, in order.
-- Assumes nothing.
use Rattle.std.specs.Ordering.{is_lt, nat_cmp}
use Rattle.std.proofs.Common.{Less, Equal, Greater}
use Rattle.std.specs.Prelude.{Ok}
use mathlib.Core.Path.{◌≡◌, refl, sym, ap, ap₂, ◌∙◌}
use mathlib.Core.Bool.{Bool, true, false, cond, ◌||◌}
use mathlib.Core.List.{List}
use Prim.Native.Nat.{ℕ, ◌≤◌}
use lib.Dec.{ltb, eqb}
use borrow.Author.Tests.{le-ltb}
use Rattle.verdicts.specs.declared.Verdict.{Verdict}
use Rattle.verdicts.specs.Refusals.{Refusal, each_place, first_of, passed_by, passed_of, told, verdict, success, verdict_of}
use Rattle.verdicts.proofs.First.{miss, onward, numbered, numbered_append, numbered_places}
use Rattle.verdicts.proofs.Results.{told_by, went_on}
use Rattle.objects.specs.declared.Side.TheVariants.{Sink}
use Rattle.lists.specs.declared.Words.{Words}
use Rattle.lists.proofs.Shapes.{shape_numbered, as_shape_refused, as_shape_passes, none_of, count_high}
use Rattle.sinks.specs.SinkLists.{sink_shape_refusals, sink_shape_of}
use Rattle.sinks.specs.Rating.{bad_rating, ceiling_rows, sink_check_refusals, sink_checked_of}

-- the derived order of two ratings
less : (p q : Bool) → is_lt (cond p Less (cond q Equal Greater)) ≡ p
less true q = refl
less false true = refl
less false false = refl

pub bad_rating_told : (r : ℕ) {low high : Bool} → low ≡ is_lt (nat_cmp r 1) → high ≡ is_lt (nat_cmp 200 r) → (low || high) ≡ bad_rating r
bad_rating_told r e f = ap₂ ◌||◌ (e ∙ less (ltb r 1) (eqb r 1)) (f ∙ less (ltb 200 r) (eqb 200 r))

pub rated : (r : ℕ) → 1 ≤ r → r ≤ 200 → bad_rating r ≡ false
rated r h k = rw (le-ltb r 1 h, le-ltb 200 r k)

abbrev figures_part : ℕ → Words → List Refusal
figures_part rating l = each_place (ceiling_rows rating l.words) l.count

-- any answer over the rows of the check
module _ {A : Type 0} (refused : ℕ → ℕ → A) (answer : A) (rating : ℕ) (l : Words) (e : bad_rating rating ≡ false) where
  abbrev answered : A
  answered = first_of refused (sink_check_refusals rating l) answer

  past_rating : answered ≡ first_of refused (sink_shape_refusals l) (first_of refused (figures_part rating l) answer)
  past_rating = miss refused answer 1 0 _ e ∙ onward refused answer (sink_shape_refusals l) (figures_part rating l)

  pub misshapen_so : ((sink_shape_of l).number ≡ 0 → ⊥) → answered ≡ refused (sink_shape_of l).number (sink_shape_of l).place
  misshapen_so f = past_rating ∙ as_shape_refused refused Sink l (first_of refused (figures_part rating l) answer) f

  pub figures_so : (sink_shape_of l).number ≡ 0 → answered ≡ first_of refused (figures_part rating l) answer
  figures_so z = past_rating ∙ as_shape_passes refused Sink l (first_of refused (figures_part rating l) answer) z

module _ (rating : ℕ) (l : Words) where
  pub by_figures : bad_rating rating ≡ false → (sink_shape_of l).number ≡ 0 → sink_checked_of rating l ≡ verdict_of (figures_part rating l)
  unfolding sink_checked_of
  by_figures e z = figures_so verdict success rating l e z

  pub sink_check_numbered : numbered (sink_check_refusals rating l) ≡ true
  sink_check_numbered =
      numbered_append (sink_shape_refusals l) (figures_part rating l) (shape_numbered Sink l)
      (numbered_places (ceiling_rows rating l.words) (λ k. refl) l.count)

  pub sink_check_verdict : sink_checked_of rating l ≡ verdict_of (sink_check_refusals rating l)
  unfolding sink_checked_of
  sink_check_verdict = refl

  -- the verdict of the result
  pub sink_check_told : told (passed_by (sink_check_refusals rating l)) ≡ sink_checked_of rating l
  unfolding sink_checked_of
  sink_check_told = told_by (sink_check_refusals rating l)

-- a list whose shape passes has at most seven words
pub few_words : (l : Words) (v : Verdict) {u : Unit {0}} → v ≡ sink_shape_of l → Ok u ≡ passed_of v → l.count ≤ 7
few_words l v e q = count_high l.count (none_of Sink l (went_on (sink_shape_of l) (sym (q ∙ ap passed_of e)))).0
