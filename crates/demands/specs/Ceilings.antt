-- The design rating of a sink in milliwatts (docs/STATEMENT.md, "The design rating"): a list that has its shape gets 43 exactly when some operating
-- figure takes more power than the rating, at the voltage that the page divides by. `keeps_to_rating` and `arin_keeps_to_rating` in
-- proofs/Ceilings.antt prove the two claims. Millivolts times milliamperes are microwatts, a thousandth of a milliwatt; the figures are those of the
-- objects in their own steps, so the greatest that passes is the quotient rounded down to the step. Objects are looked up from 0 on.
-- Assumes nothing.
use Rattle.std.specs.Prelude.{◌≡◌, cond, ◌&&◌, ◌↔◌, ℕ, ◌*◌, ◌≤◌, ◌<◌, eqb, get_or}
use Rattle.verdicts.specs.declared.Verdict.{Verdict}
use Rattle.verdicts.specs.Refusals.{success}
use Rattle.steps.specs.declared.HalfWatts.{HalfWatts}
use Rattle.steps.specs.Units.{mv50, mv100, ma10, ma50, mw250, mw500}
use Rattle.lists.specs.declared.Words.{Words}
use Rattle.sinks.specs.declared.SinkObject.{SinkObject}
use Rattle.sinks.specs.declared.SinkObject.TheVariants.{Fixed, Battery, Variable, Pps}
use Rattle.sinks.specs.declared.SinkReading.{SinkReading}
use Rattle.sinks.specs.SinkLists.{empty_sink}
use Rattle.demands.specs.SinkContracts.{SinkReadAnswers, SinkCheckAnswers, ArinSinkCheckAnswers}

-- "PPS from 5.0 V to 11.0 V" by 9 V, "to 16.0 V" by 15 V, "to 21.0 V" by 20 V, and "any other PPS" by its maximum: all in millivolts
abbrev pub pps_divided_by : ℕ → ℕ → ℕ
pps_divided_by max min =
    cond (eqb max 11000 && eqb min 5000) 9000
    (cond (eqb max 16000 && eqb min 5000) 15000 (cond (eqb max 21000 && eqb min 5000) 20000 max))

-- what an object needs, in microwatts: fixed at its voltage, variable at its maximum voltage
abbrev pub needs : SinkObject → ℕ
needs (Fixed f v a) = mv50 v * ma10 a
needs (Battery x m p) = mw250 p * 1000
needs (Variable x m a) = mv50 x * ma10 a
needs (Pps x m a) = pps_divided_by (mv100 x) (mv100 m) * ma50 a

abbrev pub WithinRating : HalfWatts → SinkObject → Type 0
WithinRating rating o = needs o ≤ mw500 rating * 1000

-- of a rating of 1 to 200 half watts and a list that can be read
pub record Checkable (rating : HalfWatts) (l : Words) (s : SinkReading) : Type 0 where
  pub low : 1 ≤ rating.0
  pub high : rating.0 ≤ 200
  pub read : SinkReadAnswers l s
  pub shaped : s.verdict ≡ success

abbrev pub EachWithin : HalfWatts → Words → SinkReading → Type 0
EachWithin rating l s = (k : ℕ) → k < l.count → WithinRating rating (get_or s.list.places k empty_sink).object

abbrev pub KeepsToRating : Type 0
KeepsToRating =
    (rating : HalfWatts) (l : Words) (s : SinkReading) → Checkable rating l s
    → (r : Verdict) → SinkCheckAnswers rating l r → (r.number ≡ 43 → ⊥) ↔ EachWithin rating l s

abbrev pub ArinKeepsToRating : Type 0
ArinKeepsToRating =
    (rating : HalfWatts) (l : Words) (s : SinkReading) → Checkable rating l s
    → (r : Verdict) → ArinSinkCheckAnswers rating.0 l r → (r.number ≡ 43 → ⊥) ↔ EachWithin rating l s
