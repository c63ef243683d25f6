-- The 15.0 V theorem: where the two ranges of an AVS object meet, a request may draw the larger of the two currents; lower down the first
-- current is what is advertised, further up the second (STATEMENT, "Answering a request": "Both ranges hold 15.0 V, so a port that offers
-- the larger current there grants it.").
-- Assumes nothing.
use mathlib.Core.Path.{◌≡◌, refl, sym, ap, ◌∙◌, subst}
use mathlib.Core.Bool.{Bool, true, false, not}
use mathlib.Core.Logic.{◌↔◌}
use Prim.Native.Nat.{ℕ, ◌*◌, ◌%◌, ◌<◌, ◌≤◌, max}
use native.Mathlib.Omega.{arith}
use lib.Dec.{leb, eqb}
use borrow.Author.Tests.{eq-eqb, eqb-true, eqb-false, le-leb, lt-leb, leb-true, leb-false}
use Rattle.steps.specs.Ranges.{within}
use Rattle.steps.proofs.RangeLaws.{inside}
use Rattle.verdicts.specs.declared.Verdict.{Verdict}
use Rattle.verdicts.specs.Refusals.{verdict, success, verdict_of}
use Rattle.steps.specs.Units.{mv25, ma10, ma50}
use Rattle.steps.specs.declared.Ma10.{Ma10}
use Rattle.objects.specs.declared.Object.TheVariants.{Avs}
use Rattle.lists.specs.declared.Words.{Words}
use Rattle.requests.specs.Taking.{position_of, mismatch_of, avs_volts, current_in}
use Rattle.requests.specs.Limits.{avs_top, avs_limit}
use Rattle.requests.specs.Answering.{answer_of}
use Rattle.requests.specs.Judging.{refusals_of}
use Rattle.requests.proofs.Limits.{over, allowed, no_maximum}
use Rattle.requests.proofs.AvsLimits.{ends_at_15_V, ends_at_20_V, limit_below, limit_above, limit_at_lem}
use Rattle.requests.proofs.Answers.{position_good, judged, judged_verdict}
use Rattle.requests.specs.At15V.{AsksAvs, AllowsUpTo}

-- ---- how the limit decides

decides : (v : Verdict) (asked limit : ℕ) → (asked ≤ limit → v ≡ success) → (limit < asked → v ≡ verdict 24 0)
    → v ≡ success ↔ (asked ≤ limit)
decides v asked limit accepts refuses = ((λ e. go (leb asked limit) refl e), accepts) where
  go : (b : Bool) → leb asked limit ≡ b → v ≡ success → asked ≤ limit
  go true q e = leb-true asked limit q
  go false q e =
      let z : ◌≡◌ {A = ℕ} 24 0 = ap (λ (x : Verdict). x.number) (sym (refuses (leb-false asked limit q)) ∙ e) in
      absurd (omega arith)

module _ (l : Words) (w : ℕ) (low high : Ma10) (asks : AsksAvs l w low high) where
  -- the answer is that of the limits of the object
  by_limits : answer_of l w ≡ verdict_of (refusals_of (Avs asks.peak low high) w)
  by_limits =
      judged l w (ap (λ (v : Verdict). v.number) asks.shape_passes) (Avs asks.peak low high)
      (position_good l.count (position_of w) asks.from_1 asks.to_count) asks.names
      ∙ judged_verdict (Avs asks.peak low high) w

  module _ (whole : mv25 (avs_volts w) % 100 ≡ 0) (from : 9000 ≤ mv25 (avs_volts w)) (to : mv25 (avs_volts w) ≤ avs_top high)
      (limit : ℕ) (is : avs_limit (mv25 (avs_volts w)) (ma10 low) (ma10 high) ≡ limit) where
    whole_step_lem : not (eqb (mv25 (avs_volts w) % 100) 0) ≡ false
    whole_step_lem = ap not (eq-eqb (mv25 (avs_volts w) % 100) 0 whole)

    in_range_lem : not (within 9000 (avs_top high) (mv25 (avs_volts w))) ≡ false
    in_range_lem = inside 9000 (avs_top high) (mv25 (avs_volts w)) from to

    accepts : ma50 (current_in w) ≤ limit → answer_of l w ≡ success
    accepts h =
        let at_most = avs_limit (mv25 (avs_volts w)) (ma10 low) (ma10 high) in
        by_limits
        ∙ allowed verdict success (Avs asks.peak low high) w whole_step_lem in_range_lem (ap not (le-leb (ma50 (current_in w)) at_most (omega arith)))
        (no_maximum at_most (mismatch_of w))

    refuses : limit < ma50 (current_in w) → answer_of l w ≡ verdict 24 0
    refuses h =
        let at_most = avs_limit (mv25 (avs_volts w)) (ma10 low) (ma10 high) in
        by_limits ∙ over verdict success (Avs asks.peak low high) w whole_step_lem in_range_lem (ap not (lt-leb (ma50 (current_in w)) at_most (omega arith)))

    up_to : AllowsUpTo l w limit
    up_to = record { accepted = decides (answer_of l w) (ma50 (current_in w)) limit accepts refuses; refused = refuses }

  -- no range ends before 15.0 V
  top_from_15_V : 15000 ≤ avs_top high
  top_from_15_V = go (eqb high.0 0) refl where
    go : (b : Bool) → eqb high.0 0 ≡ b → 15000 ≤ avs_top high
    go true q = subst (λ (n : ℕ). 15000 ≤ n) (sym (ends_at_15_V high (eqb-true high.0 0 q))) (omega arith)
    go false q = subst (λ (n : ℕ). 15000 ≤ n) (sym (ends_at_20_V high (eqb-false high.0 0 q))) (omega arith)

  -- ---- THE THEOREM: at 15.0 V

  pub at_15_V : mv25 (avs_volts w) ≡ 15000 → AllowsUpTo l w (max (ma10 low) (ma10 high))
  at_15_V e =
      up_to (ap (λ (n : ℕ). n % 100) e) (omega arith) (omega (arith, top_from_15_V)) (max (ma10 low) (ma10 high))
      (limit_at_lem (mv25 (avs_volts w)) (ma10 low) (ma10 high) e)

  -- without a second current the range ends at 15.0 V, and the first current limits there
  pub at_15_V_alone : mv25 (avs_volts w) ≡ 15000 → high.0 ≡ 0 → AllowsUpTo l w (ma10 low)
  at_15_V_alone e z =
      let m : max (ma10 low) (ma10 high) ≡ ma10 low = omega arith in
      subst (AllowsUpTo l w) m (at_15_V e)

  -- ---- its neighbours, at a whole 100 mV

  pub below_15_V : mv25 (avs_volts w) % 100 ≡ 0 → 9000 ≤ mv25 (avs_volts w) → mv25 (avs_volts w) < 15000 → AllowsUpTo l w (ma10 low)
  below_15_V whole from h =
      up_to whole from (omega (arith, top_from_15_V)) (ma10 low) (limit_below (mv25 (avs_volts w)) (ma10 low) (ma10 high) h)

  pub above_15_V : mv25 (avs_volts w) % 100 ≡ 0 → 15000 < mv25 (avs_volts w) → mv25 (avs_volts w) ≤ 20000 → (high.0 ≡ 0 → ⊥)
      → AllowsUpTo l w (ma10 high)
  above_15_V whole h to second =
      up_to whole (omega arith) (omega (arith, ends_at_20_V high second)) (ma10 high)
      (limit_above (mv25 (avs_volts w)) (ma10 low) (ma10 high) h)

-- 15.0 V is the figure 600 in bits 20..9
pub figure_600 : (w : ℕ) → (avs_volts w).0 ≡ 600 → mv25 (avs_volts w) ≡ 15000
figure_600 w e = ap (λ (n : ℕ). n * 25) e
