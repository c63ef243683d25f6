-- The shape of a list (STATEMENT, "Shape of a list" and "Shape of a sink list"; numbers and order from "Refusal numbers"). The side
-- decides which kinds there are, which bits are reserved, and whether AVS has to agree; all else is the same for both.
-- Assumes nothing.
use Rattle.std.specs.Prelude.{Bool, true, false, not, ◌&&◌, ◌||◌, List, [], ◌∷◌, ◌++◌, ℕ, zero, suc, ◌+◌, ◌-◌, get_or, ltb, eqb, Option, Some, None}
use Rattle.verdicts.specs.declared.Verdict.{Verdict}
use Rattle.verdicts.specs.Refusals.{Refusal, refusal, each_place, first_of, verdict, success, verdict_of}
use Rattle.steps.specs.Units.{mv50}
use Rattle.steps.specs.declared.Ma10.{Ma10}
use Rattle.objects.specs.declared.Side.{Side}
use Rattle.objects.specs.declared.Side.TheVariants.{Source, Sink}
use Rattle.objects.specs.declared.Object.{Object}
use Rattle.objects.specs.Asking.{of_object, of_fixed, of_avs}
use Rattle.objects.specs.Decode.{decode_of, decode_for, decoded_number}
use Rattle.objects.specs.Reserved.{reserved_set}
use Rattle.lists.specs.declared.Words.{Words}
use Rattle.lists.specs.declared.Shaped.{Shaped}
use Rattle.lists.specs.ObjectRules.{out_of_bounds, over_100_W, may_follow}

-- 10: "count outside 1 to 7"
abbrev pub bad_count : ℕ → Bool
bad_count n = ltb n 1 || ltb 7 n

-- 11: "the first object is not fixed 5 V"
unfoldable pub is_fixed_5_V : ℕ → Bool
is_fixed_5_V w = of_object (of_fixed (λ v a. eqb (mv50 v) 5000)) (decode_of w)

-- 14: "Each word is compared with the one right before it", so it says nothing of the first
abbrev pub out_of_order : Bool → Option Object → Option Object → Bool
out_of_order true before d = false
out_of_order false (Some o) d = of_object (λ (x : Object). not (may_follow o x)) d
out_of_order false None d = false

-- one word, with the one before it: "for each word in turn 12, 13, 15, 16, 14"
abbrev pub word_refusals : Side → Bool → ℕ → Option Object → ℕ → List Refusal
word_refusals side first place before w =
    refusal (eqb (decoded_number (decode_for side w)) 12) 12 place
    ∷ refusal (of_object (λ (o : Object). reserved_set side o first w) (decode_for side w)) 13 place
    ∷ refusal (of_object out_of_bounds (decode_for side w)) 15 place
    ∷ refusal (of_object over_100_W (decode_for side w)) 16 place
    ∷ refusal (out_of_order first before (decode_for side w)) 14 place
    ∷ []

-- the word at place k + 1 of a list
abbrev pub word_rows : Side → List ℕ → ℕ → List Refusal
word_rows side ws k = word_refusals side (eqb k 0) (k + 1) (decode_for side (get_or ws (k - 1) 0)) (get_or ws k 0)

-- a fixed object of so many millivolts, with the same current
abbrev pub fixed_with : ℕ → Ma10 → Object → Bool
fixed_with mv current = of_fixed (λ v a. eqb (mv50 v) mv && eqb a.0 current.0)

-- there is such an object among the first n words
unfoldable pub has_fixed : List ℕ → ℕ → ℕ → Ma10 → Bool
has_fixed ws zero mv current = false
has_fixed ws (suc k) mv current = has_fixed ws k mv current || of_object (fixed_with mv current) (decode_of (get_or ws k 0))

-- "there is a fixed object of 15 V with a current equal to the first AVS current, and, unless the second AVS current is zero, a fixed
-- object of 20 V with a current equal to the second"
abbrev pub avs_matches : List ℕ → ℕ → Ma10 → Ma10 → Bool
avs_matches ws n low high = has_fixed ws n 15000 low && (eqb high.0 0 || has_fixed ws n 20000 high)

unfoldable pub avs_differs : List ℕ → ℕ → Object → Bool
avs_differs ws n = of_avs (λ low high. not (avs_matches ws n low high))

-- 17: "AVS does not agree with its fixed objects", at the AVS word
abbrev pub avs_rows : List ℕ → ℕ → ℕ → List Refusal
avs_rows ws n k = refusal (of_object (avs_differs ws n) (decode_of (get_or ws k 0))) 17 (k + 1) ∷ []

-- of a sink "There is no 17, since there is no AVS."
abbrev pub agreement_rows : Side → Words → List Refusal
agreement_rows Source l = each_place (avs_rows l.words l.count) l.count
agreement_rows Sink l = []

-- "10; 11; then for each word in turn 12, 13, 15, 16, 14; then 17"
abbrev pub refusals_for : Side → Words → List Refusal
refusals_for side l =
    refusal (bad_count l.count) 10 0
    ∷ refusal (not (is_fixed_5_V (get_or l.words 0 0))) 11 1
    ∷ (each_place (word_rows side l.words) l.count ++ agreement_rows side l)

unfoldable pub shape_for : Side → Words → Verdict
shape_for side l = verdict_of (refusals_for side l)

-- ---- of a source, whose lists are meant where no side is named

abbrev pub shape_refusals : Words → List Refusal
shape_refusals l = refusals_for Source l

abbrev pub shape_of : Words → Verdict
shape_of l = shape_for Source l

-- ---- how many words there are to read: on a refusal none

abbrev pub shaped_refused : ℕ → ℕ → Shaped
shaped_refused n p = record { verdict = verdict n p; count = 0 }

unfoldable pub shaped_of : Side → Words → Shaped
shaped_of side l = first_of shaped_refused (refusals_for side l) (record { verdict = success; count = l.count })
