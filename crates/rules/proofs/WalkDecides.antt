-- The walk along the tables decides the rule check: the set of objects (18), then the first current that is not allowed (19).
-- Assumes nothing.
use mathlib.Core.Path.{◌≡◌, refl, sym, ap, ap₂, ◌∙◌}
use mathlib.Core.Bool.{Bool, true, false, not, ◌&&◌, ◌||◌, and-false, or-true}
use Prim.Native.Nat.{ℕ, ◌≤◌, ◌<◌}
use lib.Dec.{ltb, eqb}
use lib.ListN.{length}
use borrow.Author.Tests.{eq-eqb, eqb-true, lt-ltb, le-ltb}
use Rattle.std.specs.Prelude.{Result, Some, None}
use native.Mathlib.Omega.{arith}
use Rattle.verdicts.specs.declared.Verdict.{Verdict}
use Rattle.verdicts.specs.Refusals.{each_place, err, passed_by, NoneApply}
use Rattle.lists.specs.declared.Words.{Words}
use Rattle.lists.specs.Shape.{shape_refusals}
use Rattle.rules.specs.declared.Profile.{Profile}
use Rattle.rules.specs.Profiles.{profile_refusals}
use Rattle.rules.specs.Tables.{base_slots, slots}
use Rattle.rules.specs.declared.checking.Walk.{Walk}
use Rattle.rules.specs.Checking.{current_rows, check_refusals}
use Rattle.rules.specs.Following.{fault_said, followed, all_fit, right_walk}
use Rattle.rules.proofs.EachMaximum.{base_within}
use Rattle.rules.proofs.Checks.{bad_set, by_currents}
use Rattle.rules.proofs.Followed.{Ended, ends, ends_not, lost_before}
use Rattle.rules.proofs.SetLaw.{set_law}

module _ (p : Profile) (l : Words) (x : NoneApply (profile_refusals p)) (y : NoneApply (shape_refusals l)) where
  abbrev m : ℕ
  m = p.max.0

  abbrev n : ℕ
  n = l.count

  abbrev fit : Bool
  fit = all_fit (slots m) l.words n

  abbrev whole : Bool
  whole = not (ltb p.present.0 m)

  abbrev base : ℕ
  base = length (base_slots m)

  abbrev full : ℕ
  full = length (slots m)

  abbrev verdict : Result (Unit {0}) Verdict
  verdict = passed_by (check_refusals p l)

  -- ---- a walk that ends at the count

  module _ (w : Walk) where
    fits_to : (k : ℕ) → Ended p l k w → fit ≡ true
    fits_to k s = ap (all_fit (slots m) l.words) s.count ∙ s.fit

    passed : (k : ℕ) → Ended p l k w → right_walk p l ≡ true → fault_said w.fault ≡ verdict
    passed k s r =
        s.said ∙ ap (λ (j : ℕ). passed_by (each_place (current_rows p l.words) j)) (sym s.count) ∙ sym (by_currents p l x y (set_law p l x y ∙ ap not r))

    pub without_pps : followed p l base ≡ Some w → w.at ≡ n → fault_said w.fault ≡ verdict
    without_pps f e =
        let s = ends p l base w f e in
        passed base s (ap₂ (λ (a b : Bool). (a || (whole && eqb n full)) && b) (eq-eqb n base s.count) (fits_to base s))

    pub with_pps : m ≤ p.present.0 → followed p l full ≡ Some w → w.at ≡ n → fault_said w.fault ≡ verdict
    with_pps h f e =
        let s = ends p l full w f e in
        passed full s
        (ap₂ (λ (a b : Bool). (eqb n base || a) && b) (ap₂ (λ (c d : Bool). not c && d) (le-ltb p.present.0 m h) (eq-eqb n full s.count)) (fits_to full s)
        ∙ ap (λ (a : Bool). a && true) (or-true (eqb n base)))

  -- ---- a walk that does not

  abbrev pub Misses : ℕ → Type 0
  Misses k = (w : Walk) → followed p l k ≡ Some w → w.at ≡ n → ⊥

  -- a test that a false figure follows is no test
  and_fails : (k : ℕ) → (n ≡ k → fit ≡ false) → (eqb n k && fit) ≡ false
  and_fails k f = go (eqb n k) refl where
    go : (b : Bool) → eqb n k ≡ b → (b && fit) ≡ false
    go true e = f (eqb-true n k e)
    go false e = refl

  split : (a b c d : Bool) → (a && d) ≡ false → (b && (c && d)) ≡ false → ((a || (b && c)) && d) ≡ false
  split true b c d e f = e
  split false true c d e f = f
  split false false c d e f = refl

  refused : right_walk p l ≡ false → err 18 0 ≡ verdict
  refused e = sym (bad_set p l x y (set_law p l x y ∙ ap not e))

  pub wrong_below : Misses base → p.present.0 < m → err 18 0 ≡ verdict
  wrong_below f h =
      refused (split (eqb n base) whole (eqb n full) fit (and_fails base (ends_not p l base f))
      (ap (λ (b : Bool). not b && (eqb n full && fit)) (lt-ltb p.present.0 m h)))

  either : (n ≡ base → fit ≡ false) → (n ≡ full → fit ≡ false) → err 18 0 ≡ verdict
  either f g =
      refused (split (eqb n base) whole (eqb n full) fit (and_fails base f) (ap (λ (b : Bool). whole && b) (and_fails full g) ∙ and-false whole))

  pub wrong_both : Misses base → Misses full → err 18 0 ≡ verdict
  wrong_both f g = either (ends_not p l base f) (ends_not p l full g)

  -- one that is lost on the way
  pub wrong_early : followed p l base ≡ None → err 18 0 ≡ verdict
  wrong_early e = either (λ q. lost_before p l base e (omega arith)) (λ q. lost_before p l base e (omega (arith, base_within m)))

  pub wrong_late : Misses base → followed p l full ≡ None → err 18 0 ≡ verdict
  wrong_late f e = either (ends_not p l base f) (λ q. lost_before p l full e (omega arith))
