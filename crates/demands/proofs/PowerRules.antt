-- Proves the claims of specs/PowerRules.antt.
-- Assumes nothing.
use mathlib.Core.Path.{◌≡◌, refl, sym, ap, ◌∙◌}
use mathlib.Core.Bool.{Bool, true, false, ◌&&◌, ◌||◌, and-eq-true_iff}
use mathlib.Core.List.{List}
use mathlib.Core.Logic.{◌↔◌, ◌⊎◌, inl, inr, ⊎_elim}
use Prim.Native.Nat.{ℕ, min}
use lib.Dec.{leb, eqb}
use lib.ListN.{get_or}
use borrow.Author.Tests.{leb-true, le-leb, eqb-true, eq-eqb}
use Rattle.verdicts.specs.declared.Verdict.{Verdict}
use Rattle.verdicts.specs.Refusals.{success, NoneApply}
use Rattle.verdicts.proofs.First.{all_missed, none_applied}
use Rattle.lists.specs.declared.Words.{Words}
use Rattle.lists.specs.declared.Reading.{Reading}
use Rattle.lists.specs.declared.Listing.{Listing}
use Rattle.lists.specs.Kept.{kept_words}
use Rattle.lists.specs.Seven.{seven_to}
use Rattle.lists.specs.Reading.{read_of}
use Rattle.lists.specs.Writing.{write_of}
use Rattle.lists.proofs.Sevens.{filled_at, same_seven}
use Rattle.objects.specs.declared.Side.TheVariants.{Source}
use Rattle.lists.proofs.Readings.{read_clear}
use Rattle.lists.proofs.RoundTrips as whole-list
use Rattle.rules.specs.declared.Profile.{Profile}
use Rattle.rules.specs.Profiles.{build_refusals}
use Rattle.rules.specs.Currents.{down_at, up_at, above_3_A, fixed_allowed, prog_down, cable_in_whole_50_mA, prog_current, may_exceed, prog_allowed}
use Rattle.rules.specs.Building.{word_for, built_count, built_words}
use Rattle.rules.specs.Checking.{check_refusals, checked_of}
use Rattle.rules.proofs.Allowed.{is_above_3_A, not_above_at_20_V, not_above_up_to, above_3_A_lem, not_above_3_A}
use Rattle.rules.proofs.Builds.{build_numbered, build_verdict, build_clear}
use Rattle.rules.proofs.Checks.{check_verdict}
use Rattle.rules.proofs.BuiltPasses.{shape_clear, check_clear, built_counts, built_fits}
use Rattle.demands.specs.CallContracts.{BuildAnswers}
use Rattle.demands.specs.PowerRules.{BuiltPasses, BuiltReturns, AllowedAt20V, AllowedPast3A, AllowedTo3A, ProgAllowedExactly}

-- ---- what is built

-- a builder's success says that no refusal applies, and gives the list
pub built_clear : (p : Profile) (b : Listing) → BuildAnswers p b → b.verdict ≡ success → NoneApply (build_refusals p)
built_clear p b e s =
    none_applied (build_refusals p) (build_numbered p)
    (ap (λ (v : Verdict). v.number) (sym (build_verdict p) ∙ sym (ap (λ (x : Listing). x.verdict) e) ∙ s))

pub built_list : (p : Profile) (b : Listing) → BuildAnswers p b → b.verdict ≡ success → b.list ≡ built_words p
built_list p b e s = ap (λ (x : Listing). x.list) (e ∙ build_clear p (built_clear p b e s))

pub built_passes : BuiltPasses
built_passes p b e s v f =
    f ∙ ap (checked_of p) (built_list p b e s) ∙ check_verdict p (built_words p)
    ∙ all_missed _ success (check_refusals p (built_words p)) (check_clear p (built_clear p b e s))

pub built_returns : BuiltReturns
built_returns p b e s r f w g =
    let x = built_clear p b e s in
    let sh = shape_clear p x in
    let a = f ∙ ap read_of (built_list p b e s) ∙ read_clear Source (built_words p) sh in (
      ap (λ (y : Reading). y.verdict) a,
      g ∙ ap (λ (y : Reading). write_of y.list) a ∙ whole-list.read_write (built_words p) (built_fits p x) sh ∙ ap listing (built_kept p x)
          ∙ sym (e ∙ build_clear p x),
    )
  where
    listing : Words → Listing
    listing l = record { verdict = success; list = l }

    built_kept : (p : Profile) → NoneApply (build_refusals p) → kept_words (built_words p) ≡ built_words p
    built_kept p x =
        ap (λ (ws : List ℕ). counting ws (built_count p))
        (same_seven (λ (k : ℕ). get_or (seven_to (word_for p) 0 (built_count p)) k 0) (word_for p) 0 (built_count p)
        (λ k h. filled_at (word_for p) 0 (built_count p) k (built_counts p x) h))
      where
        counting : List ℕ → ℕ → Words
        counting ws n = record { words = ws; count = n }

-- ---- which currents are allowed, exactly when

or_is : (a b : Bool) → ((a || b) ≡ true) ↔ ((a ≡ true) ⊎ (b ≡ true))
or_is true b = ((λ e. inl refl), (λ e. refl))
or_is false b = ((λ e. inr e), (λ e. ⊎_elim (λ z. let q : false ≡ true = z in cc) (λ z. z) e))

eqb_is : (a b : ℕ) → (eqb a b ≡ true) ↔ (a ≡ b)
eqb_is a b = (eqb-true a b, eq-eqb a b)

either_figure : (a b c : ℕ) → ((eqb a b || eqb a c) ≡ true) ↔ ((a ≡ b) ⊎ (a ≡ c))
either_figure a b c = (
  (λ e. ⊎_elim (λ z. inl (eqb-true a b z)) (λ z. inr (eqb-true a c z)) ((or_is (eqb a b) (eqb a c)).0 e)),
  (λ s. (or_is (eqb a b) (eqb a c)).1 (⊎_elim (λ z. inl (eq-eqb a b z)) (λ z. inr (eq-eqb a c z)) s)),
)

-- where P is not above 3 A, and at 20 V, one row
pub cut_roundings : (p : Profile) (volts a : ℕ) → above_3_A p volts ≡ false
    → (fixed_allowed p volts a ≡ true) ↔ ((a ≡ min (down_at p volts) p.cable.0) ⊎ (a ≡ min (up_at p volts) p.cable.0))
cut_roundings p volts a e = rw (not_above_3_A p volts a e) (either_figure a (min (down_at p volts) p.cable.0) (min (up_at p volts) p.cable.0))

pub allowed_at_20_V : AllowedAt20V
allowed_at_20_V p volts a e = cut_roundings p volts a (not_above_at_20_V p volts e)

pub allowed_past_3_A : AllowedPast3A
allowed_past_3_A p volts a f h =
    let low = min 300 p.cable.0 in
    let top = min p.cable.0 (up_at p volts) in
    rw (above_3_A_lem p volts a (is_above_3_A p volts f h)) (
      (λ e. let s = (and-eq-true_iff (leb low a) (leb a top)).0 e in (leb-true low a s.0, leb-true a top s.1)),
      (λ s. (and-eq-true_iff (leb low a) (leb a top)).1 (le-leb low a s.0, le-leb a top s.1)),
    )

pub allowed_to_3_A : AllowedTo3A
allowed_to_3_A p volts a f h = cut_roundings p volts a (not_above_up_to p volts h)

pub prog_allowed_exactly : ProgAllowedExactly
unfolding prog_allowed
prog_allowed_exactly p volts a =
    let top = min (prog_down p volts) (cable_in_whole_50_mA p) in
    let more = may_exceed p.max.0 volts in
    let low = leb (prog_current p volts) a in
    let high = leb a top in (
      (λ e. ⊎_elim (λ z. inl (eqb-true a (prog_current p volts) z))
          (λ z. let s = (and-eq-true_iff more (low && high)).0 z in
          let t = (and-eq-true_iff low high).0 s.1 in
          inr (s.0, (leb-true (prog_current p volts) a t.0, leb-true a top t.1)))
          ((or_is (eqb a (prog_current p volts)) (more && (low && high))).0 e)),
      (λ s. (or_is (eqb a (prog_current p volts)) (more && (low && high))).1 (⊎_elim (λ z. inl (eq-eqb a (prog_current p volts) z))
          (λ z. inr ((and-eq-true_iff more (low && high)).1 (z.0, (and-eq-true_iff low high).1 (le-leb (prog_current p volts) a z.1.0, le-leb a top z.1.1)))) s)),
    )
