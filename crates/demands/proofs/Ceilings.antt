-- Proves the claims of specs/Ceilings.antt.
-- Assumes nothing.
use mathlib.Core.Path.{◌≡◌, refl, sym, ap, ap₂, ◌∙◌}
use mathlib.Core.Bool.{Bool, true, false, not, cond, ◌&&◌}
use mathlib.Core.List.{List}
use mathlib.Core.Logic.{◌↔◌}
use Prim.Native.Nat.{ℕ, ◌*◌, ◌<◌}
use native.Mathlib.Omega.{arith}
use lib.Dec.{leb, eqb}
use lib.ListN.{get_or}
use borrow.Author.Tests.{eqb-true, eqb-false, le-leb, leb-true, not-false}
use Rattle.verdicts.specs.declared.Verdict.{Verdict}
use Rattle.verdicts.specs.Refusals.{Refusal, each_place, success, verdict, verdict_of, NoneApply}
use Rattle.verdicts.proofs.First.{none_at, none_all, none_applied, all_missed, number_passes, pass_places, numbered_places}
use Rattle.steps.specs.declared.HalfWatts.{HalfWatts}
use Rattle.steps.specs.Units.{mw500}
use Rattle.steps.proofs.StepTests.{past, at, product}
use Rattle.objects.specs.declared.Side.TheVariants.{Sink}
use Rattle.lists.specs.declared.Words.{Words}
use Rattle.lists.proofs.Sevens.{filled_at}
use Rattle.lists.proofs.Shapes.{count_high, none_of}
use Rattle.sinks.specs.declared.SinkObject.{SinkObject}
use Rattle.sinks.specs.declared.SinkObject.TheVariants.{Fixed, Battery, Variable, Pps}
use Rattle.sinks.specs.declared.SinkPlace.{SinkPlace}
use Rattle.sinks.specs.declared.SinkReading.{SinkReading}
use Rattle.sinks.specs.SinkLists.{sink_shape_refusals, sink_shape_of, empty_sink, sink_place}
use Rattle.sinks.specs.Rating.{above_quotient, is_range, divided_by, figure_above, object_above, word_above, ceiling_rows, sink_checked_of}
use Rattle.sinks.proofs.Ceilings.{above_product, by_tenths}
use Rattle.sinks.proofs.Checks.{rated, by_figures}
use Rattle.sinks.proofs.Readings.{sink_read_verdict, sink_read_passes}
use Rattle.sinks.proofs.RoundTrips.{sink_word_known}
use Rattle.demands.specs.Ceilings.{pps_divided_by, needs, Checkable, EachWithin, KeepsToRating, ArinKeepsToRating}

-- ---- one object

-- a quotient by v in steps of b, and a figure in steps of c: in microwatts
in_steps : (n v a b c : ℕ) → 0 < b * c → above_quotient n v a ≡ not (leb (v * b * (a * c)) (n * (b * c)))
in_steps n v a b c pos =
    sym (above_product n v a) ∙ past (b * c) n (v * a) pos ∙ ap (λ (x : ℕ). not (leb x (n * (b * c)))) (sym (product v a b c))

-- the three ranges, in tenths of a volt and in millivolts
same_range : (max min top : ℕ) → is_range max min top 50 ≡ (eqb (max * 100) (top * 100) && eqb (min * 100) 5000)
same_range max min top = ap₂ ◌&&◌ (at 100 top max (omega arith)) (at 100 50 min (omega arith))

in_millivolts : (max min : ℕ) → divided_by max min * 100 ≡ pps_divided_by (max * 100) (min * 100)
in_millivolts max min =
    go (is_range max min 110 50) (is_range max min 160 50) (is_range max min 210 50)
    ∙ ap₂ (λ (b d : Bool). volts b d (is_range max min 210 50)) (same_range max min 110) (same_range max min 160)
    ∙ ap (volts (eqb (max * 100) 11000 && eqb (min * 100) 5000) (eqb (max * 100) 16000 && eqb (min * 100) 5000)) (same_range max min 210)
  where
    volts : Bool → Bool → Bool → ℕ
    volts b d f = cond b 9000 (cond d 15000 (cond f 20000 (max * 100)))

    go : (b d f : Bool) → cond b 90 (cond d 150 (cond f 200 max)) * 100 ≡ volts b d f
    go true d f = refl
    go false true f = refl
    go false false true = refl
    go false false false = refl

above_rating : (rating : HalfWatts) (o : SinkObject) → figure_above rating.0 o ≡ not (leb (needs o) (mw500 rating * 1000))
unfolding figure_above
above_rating rating (Fixed f v a) =
    in_steps (1000 * rating.0) v.0 a.0 50 10 (omega arith) ∙ ap (λ (n : ℕ). not (leb (needs (Fixed f v a)) n)) (omega arith)
above_rating rating (Battery x m p) =
    let n : p.0 * 250000 ≡ needs (Battery x m p) = omega arith in
    let b : 2 * rating.0 * 250000 ≡ mw500 rating * 1000 = omega arith in
    past 250000 (2 * rating.0) p.0 (omega arith) ∙ ap₂ (λ (u v : ℕ). not (leb u v)) n b
above_rating rating (Variable x m a) =
    in_steps (1000 * rating.0) x.0 a.0 50 10 (omega arith) ∙ ap (λ (n : ℕ). not (leb (needs (Variable x m a)) n)) (omega arith)
above_rating rating (Pps x m a) =
    by_tenths rating.0 x.0 m.0 a.0
    ∙ in_steps (100 * rating.0) (divided_by x.0 m.0) a.0 100 50 (omega arith)
    ∙ ap₂ (λ (v n : ℕ). not (leb (v * (a.0 * 50)) n)) (in_millivolts x.0 m.0) b
  where
    b : 100 * rating.0 * (100 * 50) ≡ mw500 rating * 1000
    b = omega arith

-- ---- the list

module _ (rating : HalfWatts) (l : Words) (s : SinkReading) (c : Checkable rating l s) where
  shape_passes : (sink_shape_of l).number ≡ 0
  shape_passes =
      ap (λ (v : Verdict). v.number) (sym (sink_read_verdict l) ∙ sym (ap (λ (y : SinkReading). y.verdict) c.read) ∙ c.shaped)

  clear : NoneApply (sink_shape_refusals l)
  clear = none_of Sink l shape_passes

  object_at_lem : (k : ℕ) → k < l.count → get_or s.list.places k empty_sink ≡ sink_place (get_or l.words k 0)
  object_at_lem k h =
      ap (λ (y : SinkReading). get_or y.list.places k empty_sink) (c.read ∙ sink_read_passes l shape_passes)
      ∙ filled_at (λ (j : ℕ). sink_place (get_or l.words j 0)) empty_sink l.count k (count_high l.count clear.0) h

  -- whether the row of a word applies, by what its object needs
  row_at : (k : ℕ) → k < l.count
      → word_above rating.0 (get_or l.words k 0) ≡ not (leb (needs (get_or s.list.places k empty_sink).object) (mw500 rating * 1000))
  row_at k h =
      ap (object_above rating.0) (sink_word_known l clear k h)
      ∙ above_rating rating (sink_place (get_or l.words k 0)).object
      ∙ sym (ap (λ (p : SinkPlace). not (leb (needs p.object) (mw500 rating * 1000))) (object_at_lem k h))

  abbrev rows : List Refusal
  rows = each_place (ceiling_rows rating.0 l.words) l.count

  -- a verdict of these rows is 43 or none
  no_other : ((verdict_of rows).number ≡ 43 → ⊥) → (verdict_of rows).number ≡ 0
  no_other f = go (eqb (verdict_of rows).number 0) refl where
    go : (b : Bool) → eqb (verdict_of rows).number 0 ≡ b → (verdict_of rows).number ≡ 0
    go true e = eqb-true (verdict_of rows).number 0 e
    go false e =
        absurd (f (eqb-true (verdict_of rows).number 43
        (number_passes (λ (n : ℕ). eqb n 43) rows (pass_places (λ (n : ℕ). eqb n 43) (ceiling_rows rating.0 l.words) (λ k. refl) l.count)
        (eqb-false (verdict_of rows).number 0 e))))

  keeps : (r : Verdict) → r ≡ sink_checked_of rating.0 l → (r.number ≡ 43 → ⊥) ↔ EachWithin rating l s
  keeps r e = (
    (λ f k h.
        let z = no_other (λ q. f (ap (λ (v : Verdict). v.number) judged ∙ q)) in
        let none = none_applied rows (numbered_places (ceiling_rows rating.0 l.words) (λ j. refl) l.count) z in
        leb-true _ _ (not-false _ (sym (row_at k h) ∙ (none_at (ceiling_rows rating.0 l.words) l.count k none h).0))),
    (λ each q.
        let none = none_all (ceiling_rows rating.0 l.words) l.count (λ k h. (row_at k h ∙ ap not (le-leb _ _ (each k h)), tt)) in
        let z : ◌≡◌ {A = ℕ} 0 43 = sym (ap (λ (v : Verdict). v.number) (judged ∙ all_missed verdict success rows none)) ∙ q in
        omega arith),
  ) where
    judged : r ≡ verdict_of rows
    judged = e ∙ by_figures rating.0 l (rated rating.0 c.low c.high) shape_passes

pub keeps_to_rating : KeepsToRating
keeps_to_rating rating l s c r e = keeps rating l s c r e

pub arin_keeps_to_rating : ArinKeepsToRating
arin_keeps_to_rating rating l s c r e = keeps rating l s c r e
