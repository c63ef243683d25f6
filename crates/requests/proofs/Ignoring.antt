-- Ignored bits change no answer: a field is what its bits are, and no field that counts has an ignored bit.
-- Assumes nothing.
use Rattle.std.specs.Prelude.{Option, Some, None}
use mathlib.Core.Path.{◌≡◌, refl, sym, ap, ap₂, ◌∙◌}
use mathlib.Core.Bool.{Bool, true, false, not, ◌&&◌, ◌||◌, cond, and-eq-true_iff}
use mathlib.Core.List.{List, [], ◌∷◌, ◌++◌, append-nil}
use Prim.Native.Nat.{ℕ, zero, suc, ◌+◌, ◌-◌, ◌*◌, ◌/◌, ◌%◌, ◌^◌, ◌<◌, ◌≤◌}
use native.Mathlib.Nat.{mod-one}
use native.Mathlib.Omega.{arith}
use lib.Pow.{shr-shr, mod-pow-add}
use lib.Dec.{ltb, eqb}
use borrow.Author.Tests.{ltb-true, ne_eqb}
use lib.ListN.{get_or}
use Rattle.verdicts.specs.Refusals.{Refusal, refusal, first_of, verdict, success, verdict_of}
use Rattle.verdicts.proofs.First.{hit, onward}
use Rattle.steps.specs.Ranges.{within}
use Rattle.steps.specs.Units.{mv25, ma10, ma50}
use Rattle.objects.specs.Bits.{bits}
use Rattle.objects.specs.declared.Object.{Object}
use Rattle.objects.specs.declared.Object.TheVariants.{Fixed, Battery, Variable, Pps, Avs}
use Rattle.objects.specs.Decode.{decode_of}
use Rattle.lists.specs.declared.Words.{Words}
use Rattle.lists.specs.Shape.{shape_refusals}
use Rattle.requests.specs.declared.Request.{Request}
use Rattle.requests.specs.declared.Request.TheVariants as asked
use Rattle.requests.specs.Taking.{position_of, mismatch_of, operating_in, maximum_in, avs_volts, request_of}
use Rattle.requests.specs.Limits.{avs_limit, voltage_not_whole, voltage_outside, operating_too_large, maximum_too_large}
use Rattle.requests.specs.Judging.{refusals_of, judged_of}
use Rattle.requests.specs.Answering.{bad_position, named_by, named_refusals, answer_refusals, answer_of}
use Rattle.requests.specs.Ignoring.{beside_figures, beside_voltage, below_position, ignored_by, ignored_for, is_none_of, AgreeOutside, SameOn}
use Rattle.requests.proofs.Limits.{no_maximum}

-- ---- a field is what its bits are

-- the exponent of a single bit
one_bit : (w b : ℕ) → bits w b b ≡ w / 2 ^ b % 2 ^ 1
unfolding bits
one_bit w b = let e : b + 1 - b ≡ 1 = omega arith in ap (λ (n : ℕ). w / 2 ^ b % 2 ^ n) e

module _ (w v lo : ℕ) where
  same_low : (n : ℕ) → ((b : ℕ) → lo ≤ b → b < lo + n → bits w b b ≡ bits v b b) → w / 2 ^ lo % 2 ^ n ≡ v / 2 ^ lo % 2 ^ n
  same_low zero same = mod-one (w / 2 ^ lo) ∙ sym (mod-one (v / 2 ^ lo))
  same_low (suc n) same =
      top w ∙ ap₂ (λ (x y : ℕ). x * 2 ^ n + y) here (same_low n (λ b h k. same b h (omega arith))) ∙ sym (top v) where
        -- the highest bit, and the rest
        top : (u : ℕ) → u / 2 ^ lo % 2 ^ (suc n) ≡ u / 2 ^ (lo + n) % 2 ^ 1 * 2 ^ n + u / 2 ^ lo % 2 ^ n
        top u =
            ap (λ (k : ℕ). u / 2 ^ lo % 2 ^ k) (let e : suc n ≡ 1 + n = omega arith in e)
            ∙ mod-pow-add (u / 2 ^ lo) 1 n
            ∙ ap (λ (x : ℕ). x % 2 ^ 1 * 2 ^ n + u / 2 ^ lo % 2 ^ n) (shr-shr u lo n)

        here : w / 2 ^ (lo + n) % 2 ^ 1 ≡ v / 2 ^ (lo + n) % 2 ^ 1
        here = sym (one_bit w (lo + n)) ∙ same (lo + n) (omega arith) (omega arith) ∙ one_bit v (lo + n)

-- every place of a list is outside lo..hi
abbrev apart_from : ℕ → ℕ → List ℕ → Bool
apart_from lo hi [] = true
apart_from lo hi (x ∷ xs) = (ltb x lo || ltb hi x) && apart_from lo hi xs

apart_place : (lo hi x b : ℕ) → (ltb x lo || ltb hi x) ≡ true → lo ≤ b → b ≤ hi → b ≡ x → ⊥
apart_place lo hi x b t low high e = go (ltb x lo) refl where
  go : (c : Bool) → ltb x lo ≡ c → ⊥
  go true q = let h = ltb-true x lo q in absurd (omega (arith, h, low, e))
  go false q = let h = ltb-true hi x (ap (λ (c : Bool). c || ltb hi x) (sym q) ∙ t) in absurd (omega (arith, h, high, e))

apart_places : (lo hi b : ℕ) (xs : List ℕ) → apart_from lo hi xs ≡ true → lo ≤ b → b ≤ hi → is_none_of b xs ≡ true
apart_places lo hi b [] t low high = refl
apart_places lo hi b (x ∷ xs) t low high =
    let h = (and-eq-true_iff (ltb x lo || ltb hi x) (apart_from lo hi xs)).0 t in
    (and-eq-true_iff (not (eqb b x)) (is_none_of b xs)).1
    (ap not (ne_eqb b x (apart_place lo hi x b h.0 low high)), apart_places lo hi b xs h.1 low high)

module _ (w v : ℕ) (places : List ℕ) (same : AgreeOutside places w v) where
  -- a field of a word of 32 bits that has none of these places
  same_field : (hi lo : ℕ) → hi < 32 → apart_from lo hi places ≡ true → bits w hi lo ≡ bits v hi lo
  unfolding bits
  same_field hi lo top t =
      same_low w v lo (hi + 1 - lo)
      (λ b low high. let up : b ≤ hi = omega (arith, low, high) in
      same b (omega (arith, up, top)) (apart_places lo hi b places t low up))

-- ---- what a request says

module _ (w v : ℕ) where
  same_operating : AgreeOutside beside_figures w v → operating_in w ≡ operating_in v
  same_operating same = same_field w v beside_figures same 19 10 (omega arith) refl

  same_maximum : AgreeOutside beside_figures w v → maximum_in w ≡ maximum_in v
  same_maximum same = same_field w v beside_figures same 9 0 (omega arith) refl

  same_mismatch : AgreeOutside beside_figures w v → mismatch_of w ≡ mismatch_of v
  same_mismatch same = ap (λ (n : ℕ). not (eqb n 0)) (same_field w v beside_figures same 26 26 (omega arith) refl)

  same_volts : AgreeOutside beside_voltage w v → bits w 20 9 ≡ bits v 20 9
  same_volts same = same_field w v beside_voltage same 20 9 (omega arith) refl

  same_current : AgreeOutside beside_voltage w v → bits w 6 0 ≡ bits v 6 0
  same_current same = same_field w v beside_voltage same 6 0 (omega arith) refl

  pub same_request : (o : Object) → AgreeOutside (ignored_by o) w v → request_of o w ≡ request_of o v
  same_request (Fixed f p x a) same =
      ap₂ (λ (o m : ℕ). asked.Fixed (record { 0 = o }) (record { 0 = m })) (same_operating same) (same_maximum same)
  same_request (Battery x m p) same =
      ap₂ (λ (o m : ℕ). asked.Battery (record { 0 = o }) (record { 0 = m })) (same_operating same) (same_maximum same)
  same_request (Variable x m a) same =
      ap₂ (λ (o m : ℕ). asked.Variable (record { 0 = o }) (record { 0 = m })) (same_operating same) (same_maximum same)
  same_request (Pps l x m a) same =
      ap₂ (λ (u i : ℕ). asked.Pps (record { 0 = u }) (record { 0 = i })) (same_volts same) (same_current same)
  same_request (Avs p l h) same =
      ap₂ (λ (u i : ℕ). asked.Avs (record { 0 = u }) (record { 0 = i })) (same_volts same) (same_current same)

  same_position : (d : Option Object) → AgreeOutside (ignored_for d) w v → position_of w ≡ position_of v
  same_position (Some (Fixed f p x a)) same = same_field w v beside_figures same 31 28 (omega arith) refl
  same_position (Some (Battery x m p)) same = same_field w v beside_figures same 31 28 (omega arith) refl
  same_position (Some (Variable x m a)) same = same_field w v beside_figures same 31 28 (omega arith) refl
  same_position (Some (Pps l x m a)) same = same_field w v beside_voltage same 31 28 (omega arith) refl
  same_position (Some (Avs p l h)) same = same_field w v beside_voltage same 31 28 (omega arith) refl
  same_position None same = same_field w v below_position same 31 28 (omega arith) refl

-- ---- what it is refused for

-- the maximum figure, which bit 26 excuses: PPS and AVS requests have none, and bit 26 is ignored
same_excess : (w v : ℕ) (o : Object) → AgreeOutside (ignored_by o) w v
    → maximum_too_large o (mismatch_of w) (request_of o w) ≡ maximum_too_large o (mismatch_of v) (request_of o v)
same_excess w v (Fixed f p x a) same = ap₂ (maximum_too_large (Fixed f p x a)) (same_mismatch w v same) (same_request w v (Fixed f p x a) same)
same_excess w v (Battery x m p) same = ap₂ (maximum_too_large (Battery x m p)) (same_mismatch w v same) (same_request w v (Battery x m p) same)
same_excess w v (Variable x m a) same = ap₂ (maximum_too_large (Variable x m a)) (same_mismatch w v same) (same_request w v (Variable x m a) same)
same_excess w v (Pps l x m a) same = no_maximum (ma50 a) (mismatch_of w) ∙ sym (no_maximum (ma50 a) (mismatch_of v))
same_excess w v (Avs p l h) same =
    no_maximum (avs_limit (mv25 (avs_volts w)) (ma10 l) (ma10 h)) (mismatch_of w)
    ∙ sym (no_maximum (avs_limit (mv25 (avs_volts v)) (ma10 l) (ma10 h)) (mismatch_of v))

-- the rows of a request to an object, of which the last is worked out
abbrev rows_for : Object → Request → Bool → List Refusal
rows_for o r excess =
    refusal (voltage_not_whole o r) 23 0 ∷ refusal (voltage_outside o r) 22 0 ∷ refusal (operating_too_large o r) 24 0 ∷ refusal excess 25 0 ∷ []

same_refusals : (w v : ℕ) (o : Object) → AgreeOutside (ignored_by o) w v → refusals_of o w ≡ refusals_of o v
same_refusals w v o same = ap₂ (rows_for o) (same_request w v o same) (same_excess w v o same)

same_named : (w v : ℕ) (d : Option Object) → AgreeOutside (ignored_for d) w v → named_refusals d w ≡ named_refusals d v
same_named w v (Some o) same = same_refusals w v o same
same_named w v None same = refl

-- ---- the table of a list

module _ (l : Words) (w v : ℕ) (same : AgreeOutside (ignored_for (named_by l w)) w v) where
  same_place : position_of w ≡ position_of v
  same_place = same_position w v (named_by l w) same

  -- both name the same word of the list
  pub names_same : named_by l w ≡ named_by l v
  names_same = ap (λ (n : ℕ). decode_of (get_or l.words (n - 1) 0)) same_place

  table_same : answer_refusals l w ≡ answer_refusals l v
  table_same =
      ap₂ (λ (b : Bool) (own : List Refusal). shape_refusals l ++ (refusal b 20 0 ∷ own))
      (ap (bad_position l.count) same_place)
      (same_named w v (named_by l w) same ∙ ap (λ (d : Option Object). named_refusals d v) names_same)

-- ---- the answers

pub judged_ignores : (w v : ℕ) (o : Object) → AgreeOutside (ignored_by o) w v → judged_of o w ≡ judged_of o v
unfolding judged_of
judged_ignores w v o same = ap verdict_of (same_refusals w v o same)

-- what comes behind 20 does not matter
stops_at_20 : {A : Type 0} (refused : ℕ → ℕ → A) (l : Words) (w : ℕ) → bad_position l.count (position_of w) ≡ true
    → (after : List Refusal) (x : A) → first_of refused (answer_refusals l w ++ after) x ≡ first_of refused (shape_refusals l) (refused 20 0)
stops_at_20 refused l w bad after x =
    onward refused x (answer_refusals l w) after
    ∙ onward refused (first_of refused after x) (shape_refusals l) _
    ∙ ap (first_of refused (shape_refusals l)) (hit refused (first_of refused after x) 20 0 _ bad)

-- the table of a list, what comes behind it and the answer at its end, where these go by a figure of the request
module _ {A : Type 0} (refused : ℕ → ℕ → A) (l : Words) (w v : ℕ) (same : SameOn l w v) (after : ℕ → List Refusal) (end : ℕ → A)
    (figure : ℕ → ℕ) (same-figure : AgreeOutside (ignored_for (named_by l w)) w v → figure w ≡ figure v) where
  abbrev told : ℕ → A
  told u = first_of refused (answer_refusals l u ++ after (figure u)) (end (figure u))

  same_told : (b : Bool) → bad_position l.count (position_of w) ≡ b
      → AgreeOutside (cond b below_position (ignored_for (named_by l w))) w v → told w ≡ told v
  same_told true bad agree =
      let place : position_of w ≡ position_of v = same_field w v below_position agree 31 28 (omega arith) refl in
      stops_at_20 refused l w bad _ _ ∙ sym (stops_at_20 refused l v (ap (bad_position l.count) (sym place) ∙ bad) _ _)
  same_told false good agree =
      ap₂ (λ (rs : List Refusal) (n : ℕ). first_of refused (rs ++ after n) (end n)) (table_same l w v agree) (same-figure agree)

  pub told_ignores : told w ≡ told v
  told_ignores = same_told (bad_position l.count (position_of w)) refl same

pub answer_ignores : (l : Words) (w v : ℕ) → SameOn l w v → answer_of l w ≡ answer_of l v
unfolding answer_of
answer_ignores l w v same =
    whole w ∙ told_ignores verdict l w v same (λ n. []) (λ n. success) (λ u. 0) (λ agree. refl) ∙ sym (whole v) where
      whole : (u : ℕ) → verdict_of (answer_refusals l u) ≡ verdict_of (answer_refusals l u ++ [])
      whole u = ap verdict_of (sym (append-nil (answer_refusals l u)))

-- ---- nothing is left out: every place of a word is ignored, or belongs to a field that counts

abbrev every_place : (ℕ → Bool) → ℕ → Bool
every_place test zero = true
every_place test (suc b) = test b && every_place test b

-- the position, bit 26 and the two figures
abbrev of_figures : ℕ → Bool
of_figures b = within 28 31 b || (eqb b 26 || (within 10 19 b || within 0 9 b))

-- the position, the voltage and the current
abbrev of_voltage : ℕ → Bool
of_voltage b = within 28 31 b || (within 9 20 b || within 0 6 b)

pub figures_whole : every_place (λ b. of_figures b || not (is_none_of b beside_figures)) 32 ≡ true
figures_whole = refl

pub voltage_whole : every_place (λ b. of_voltage b || not (is_none_of b beside_voltage)) 32 ≡ true
voltage_whole = refl

pub position_whole : every_place (λ b. within 28 31 b || not (is_none_of b below_position)) 32 ≡ true
position_whole = refl
