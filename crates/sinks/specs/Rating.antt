-- The rating that a sink is designed for (STATEMENT, "The design rating").
-- Assumes nothing.
use Rattle.std.specs.Prelude.{Bool, false, cond, ◌&&◌, ◌||◌, List, [], ◌∷◌, ◌++◌, ℕ, ◌*◌, ltb, eqb, get_or, Option, Some, None}
use Rattle.verdicts.specs.declared.Verdict.{Verdict}
use Rattle.verdicts.specs.Refusals.{Refusal, refusal, each_place, verdict_of}
use Rattle.steps.specs.Rounding.{down_of}
use Rattle.lists.specs.declared.Words.{Words}
use Rattle.sinks.specs.declared.SinkObject.{SinkObject}
use Rattle.sinks.specs.declared.SinkObject.TheVariants.{Fixed, Battery, Variable, Pps}
use Rattle.sinks.specs.SinkWords.{sink_decode_of}
use Rattle.sinks.specs.SinkLists.{sink_shape_refusals}

-- 1: "a rating outside 1 to 200"
abbrev pub bad_rating : ℕ → Bool
bad_rating rating = ltb rating 1 || ltb 200 rating

-- above a ceiling: "the rating divided by a voltage, rounded down to the object's step". "A voltage of zero sets no ceiling."
unfoldable pub above_quotient : ℕ → ℕ → ℕ → Bool
above_quotient numerator volts figure = ltb 0 volts && ltb (down_of numerator volts) figure

-- a range of PPS, in 100 mV
abbrev pub is_range : ℕ → ℕ → ℕ → ℕ → Bool
is_range max min top bottom = eqb max top && eqb min bottom

-- "PPS from 5.0 V to 11.0 V": 10 R / 9, "to 16.0 V": 10 R / 15, "to 21.0 V": 10 R / 20; "any other PPS": 100 R / v, v its maximum in 100 mV
abbrev pub pps_above : ℕ → ℕ → ℕ → ℕ → Bool
pps_above rating max min figure =
    cond (is_range max min 110 50) (above_quotient (10 * rating) 9 figure)
    (cond (is_range max min 160 50) (above_quotient (10 * rating) 15 figure)
    (cond (is_range max min 210 50) (above_quotient (10 * rating) 20 figure) (above_quotient (100 * rating) max figure)))

-- "fixed", by "its voltage": 1000 R / v in 10 mA, v in 50 mV; "variable", by "its maximum voltage", the same; "battery": 2 R in 250 mW
unfoldable pub figure_above : ℕ → SinkObject → Bool
figure_above rating (Fixed f v a) = above_quotient (1000 * rating) v.0 a.0
figure_above rating (Battery x m p) = ltb (2 * rating) p.0
figure_above rating (Variable x m a) = above_quotient (1000 * rating) x.0 a.0
figure_above rating (Pps x m a) = pps_above rating x.0 m.0 a.0

-- a word that has no object has no figure
abbrev pub object_above : ℕ → Option SinkObject → Bool
object_above rating (Some o) = figure_above rating o
object_above rating None = false

abbrev pub word_above : ℕ → ℕ → Bool
word_above rating w = object_above rating (sink_decode_of w)

-- 43: "a figure of a sink list above its ceiling", with place 0 wherever it stands
abbrev pub ceiling_rows : ℕ → List ℕ → ℕ → List Refusal
ceiling_rows rating ws k = refusal (word_above rating (get_or ws k 0)) 43 0 ∷ []

-- "1; then as sink shape; then 43"
abbrev pub sink_check_refusals : ℕ → Words → List Refusal
sink_check_refusals rating l =
    refusal (bad_rating rating) 1 0 ∷ (sink_shape_refusals l ++ each_place (ceiling_rows rating l.words) l.count)

unfoldable pub sink_checked_of : ℕ → Words → Verdict
sink_checked_of rating l = verdict_of (sink_check_refusals rating l)

-- ---- as the code has it: one voltage in 100 mV, by which 100 R is divided, whatever the range

abbrev pub divided_by : ℕ → ℕ → ℕ
divided_by max min =
    cond (is_range max min 110 50) 90 (cond (is_range max min 160 50) 150 (cond (is_range max min 210 50) 200 max))
