-- A decoded request judged by the limits of a row: the cases that the code tells apart.
-- Assumes nothing.
use Rattle.std.specs.Prelude.{Ok}
use mathlib.Core.Path.{◌≡◌, refl, ap}
use mathlib.Core.Bool.{Bool, true, false, not, and-false}
use mathlib.Core.List.{List, []}
use Prim.Native.Nat.{ℕ, ◌*◌, ◌%◌, ◌<◌, ◌≤◌}
use native.Mathlib.Omega.{arith}
use lib.Dec.{leb}
use borrow.Author.Tests.{le-leb, lt-leb}
use Rattle.verdicts.specs.Refusals.{first_of, err, passed_by, verdict, success}
use Rattle.verdicts.proofs.First.{hit, miss, without_last}
use Rattle.steps.specs.Units.{mv20, mv25, ma50}
use Rattle.steps.specs.declared.Ma10.{Ma10}
use Rattle.steps.specs.declared.Ma50.{Ma50}
use Rattle.steps.specs.declared.Mv20.{Mv20}
use Rattle.steps.specs.declared.Mv25.{Mv25}
use Rattle.requests.specs.Limits.{avs_limit}
use Rattle.requests.proofs.Limits.{no_maximum}
use Rattle.requests.proofs.AvsLimits.{whole_100, not_whole_100}
use Rattle.summaries.specs.declared.QuickRequest.{QuickRequest}
use Rattle.summaries.specs.declared.QuickRequest.TheVariants.{Fixed, Variable, Pps, Avs}
use Rattle.summaries.specs.Summaries.{lowest_in, highest_in, below_in, above_in}
use Rattle.summaries.specs.Answering.{limits_in_row, row_with, limit_for, row_refusals, judged_by, range_by, range_refusals}

module _ (ls : List ℕ) where
  -- the four limits by name say what the row says
  pub by_limits : (mismatch : Bool) (r : QuickRequest)
      → passed_by (row_refusals (row_with (limits_in_row ls)) mismatch r) ≡ passed_by (row_refusals ls mismatch r)
  by_limits mismatch (Fixed o x) = refl
  by_limits mismatch (Variable o x) = refl
  by_limits mismatch (Pps v a) = refl
  by_limits mismatch (Avs v a) = refl

  -- ---- fixed and variable: two currents, and no voltage

  module _ (o x : Ma10) (mismatch : Bool) where
    pub operating_over : below_in ls < o.0 * 10 → passed_by (row_refusals ls mismatch (Fixed o x)) ≡ err 24 0
    unfolding first_of
    operating_over h = rw (lt-leb (o.0 * 10) (below_in ls) h)

    module _ (within : o.0 * 10 ≤ below_in ls) where
      pub excused : mismatch ≡ true → passed_by (row_refusals ls mismatch (Fixed o x)) ≡ Ok tt
      unfolding first_of
      excused e = rw (le-leb (o.0 * 10) (below_in ls) within, e, and-false (not (leb (x.0 * 10) (below_in ls))))

      pub maximum_over : mismatch ≡ false → below_in ls < x.0 * 10 → passed_by (row_refusals ls mismatch (Fixed o x)) ≡ err 25 0
      unfolding first_of
      maximum_over e h = rw (le-leb (o.0 * 10) (below_in ls) within, e, lt-leb (x.0 * 10) (below_in ls) h)

      pub both_within : x.0 * 10 ≤ below_in ls → passed_by (row_refusals ls mismatch (Fixed o x)) ≡ Ok tt
      unfolding first_of
      both_within h = rw (le-leb (o.0 * 10) (below_in ls) within, le-leb (x.0 * 10) (below_in ls) h)

    pub variable_as_fixed : judged_by ls mismatch (Fixed o x) ≡ judged_by ls mismatch (Variable o x)
    unfolding judged_by
    variable_as_fixed = refl

  -- ---- a voltage in mV and a current in mA: whatever the refusals make, and whatever the answer is where there is none

  module _ {A : Type 0} (refused : ℕ → ℕ → A) (answer : A) (mv ma : ℕ) where
    pub under_as : mv < lowest_in ls → first_of refused (range_refusals ls mv ma) answer ≡ refused 22 0
    unfolding first_of
    under_as h = rw (lt-leb (lowest_in ls) mv h)

    module _ (from : lowest_in ls ≤ mv) where
      pub beyond_as : highest_in ls < mv → first_of refused (range_refusals ls mv ma) answer ≡ refused 22 0
      unfolding first_of
      beyond_as h = rw (le-leb (lowest_in ls) mv from, lt-leb mv (highest_in ls) h)

      module _ (to : mv ≤ highest_in ls) (limit : ℕ) (is : limit ≡ avs_limit mv (below_in ls) (above_in ls)) where
        pub over_as : limit < ma → first_of refused (range_refusals ls mv ma) answer ≡ refused 24 0
        unfolding first_of
        over_as h =
            rw (le-leb (lowest_in ls) mv from, le-leb mv (highest_in ls) to)
            (hit refused answer 24 0 [] (ap not (lt-leb _ _ (omega (arith, is, h)))))

        pub allowed_as : ma ≤ limit → first_of refused (range_refusals ls mv ma) answer ≡ answer
        unfolding first_of
        allowed_as h =
            rw (le-leb (lowest_in ls) mv from, le-leb mv (highest_in ls) to)
            (miss refused answer 24 0 [] (ap not (le-leb _ _ (omega (arith, is, h)))))

  -- of the verdict
  module _ (mv ma : ℕ) (from : lowest_in ls ≤ mv) (to : mv ≤ highest_in ls) (limit : ℕ) (is : limit ≡ avs_limit mv (below_in ls) (above_in ls)) where
    pub range_over : limit < ma → range_by ls mv ma ≡ verdict 24 0
    unfolding range_by
    range_over h = over_as verdict success mv ma from to limit is h

    pub range_allowed : ma ≤ limit → range_by ls mv ma ≡ success
    unfolding range_by
    range_allowed h = allowed_as verdict success mv ma from to limit is h

  -- ---- PPS and AVS: a voltage in the range, and no maximum figure

  module _ {A : Type 0} (refused : ℕ → ℕ → A) (answer : A) (a : Ma50) (mismatch : Bool) where
    pub pps_as : (v : Mv20)
        → first_of refused (range_refusals ls (mv20 v) (ma50 a)) answer ≡ first_of refused (row_refusals ls mismatch (Pps v a)) answer
    unfolding first_of
    pps_as v = rw (no_maximum (limit_for ls (Pps v a)) mismatch) (without_last refused answer (range_refusals ls (mv20 v) (ma50 a)) 25 0)

    pub avs_not_whole : (v : Mv25) → (v.0 % 4 ≡ 0 → ⊥) → first_of refused (row_refusals ls mismatch (Avs v a)) answer ≡ refused 23 0
    avs_not_whole v f = hit refused answer 23 0 _ (not_whole_100 v.0 f)

    pub avs_as : (v : Mv25) → v.0 % 4 ≡ 0
        → first_of refused (range_refusals ls (mv25 v) (ma50 a)) answer ≡ first_of refused (row_refusals ls mismatch (Avs v a)) answer
    unfolding first_of
    avs_as v e =
        rw (whole_100 v.0 e, no_maximum (limit_for ls (Avs v a)) mismatch) (without_last refused answer (range_refusals ls (mv25 v) (ma50 a)) 25 0)

  -- of the verdict
  pub pps_by_range : (v : Mv20) (a : Ma50) (mismatch : Bool) → range_by ls (mv20 v) (ma50 a) ≡ judged_by ls mismatch (Pps v a)
  unfolding range_by judged_by
  pps_by_range v a mismatch = pps_as verdict success a mismatch v

  pub avs_by_range : (v : Mv25) (a : Ma50) (mismatch : Bool) → v.0 % 4 ≡ 0 → range_by ls (mv25 v) (ma50 a) ≡ judged_by ls mismatch (Avs v a)
  unfolding range_by judged_by
  avs_by_range v a mismatch e = avs_as verdict success a mismatch v e

  -- bit 26 is not looked at
  pub avs_either_way : (v : Mv25) (a : Ma50) (mismatch : Bool) → judged_by ls false (Avs v a) ≡ judged_by ls mismatch (Avs v a)
  unfolding judged_by first_of
  avs_either_way v a mismatch = rw (no_maximum (limit_for ls (Avs v a)) false, no_maximum (limit_for ls (Avs v a)) mismatch)
