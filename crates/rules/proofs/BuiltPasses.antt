-- "Every list that it builds has its shape and passes the rule check of its profile." (STATEMENT, "The builder")
-- Assumes nothing.
use Rattle.std.specs.Prelude.{Option, Some}
use mathlib.Core.Path.{◌≡◌, refl, sym, ap, ap₂, ◌∙◌, subst}
use mathlib.Core.Bool.{Bool, true, false, not, cond, ◌&&◌, ◌||◌, beq, or-true}
use mathlib.Core.List.{List, [], ◌∷◌, ◌++◌}
use Prim.Native.Nat.{ℕ, zero, suc, ◌-◌, ◌*◌, ◌^◌, ◌≤◌, ◌<◌}
use native.Mathlib.Nat.{mul_assoc}
use native.Mathlib.Omega.{arith}
use lib.Dec.{ltb, eqb, eqb-suc-zero}
use lib.ListN.{length, get_or}
use borrow.Author.Tests.{eq-eqb, ne_eqb, ltb-true, ltb-false}
use Rattle.verdicts.specs.Refusals.{refusal, each_place, NoneApply}
use Rattle.verdicts.proofs.First.{none_append, none_left, none_right, none_all}
use Rattle.objects.specs.declared.Side.TheVariants.{Source}
use Rattle.objects.specs.declared.Object.{Object}
use Rattle.objects.specs.Asking.{of_object, of_fixed}
use Rattle.objects.specs.Decode.{decode_of, decoded_number}
use Rattle.objects.specs.Reserved.{reserved_set}
use Rattle.objects.specs.Encode.{encode_of}
use Rattle.objects.proofs.RoundTrip.{encode_decode}
use Rattle.objects.proofs.Made.{made_clear, made_lt}
use Rattle.steps.specs.Units.{mv50}
use Rattle.lists.specs.ObjectRules.{out_of_bounds, over_100_W}
use Rattle.lists.specs.Shape.{is_fixed_5_V, out_of_order, word_rows, fixed_with, has_fixed, avs_differs, avs_rows, shape_refusals}
use Rattle.lists.proofs.Finding.{found_at}
use Rattle.lists.proofs.Shapes.{counted}
use Rattle.lists.proofs.Sevens.{filled_at, past_filled}
use Rattle.lists.specs.Kept.{Words32}
use Rattle.rules.specs.declared.Profile.{Profile}
use Rattle.rules.specs.Profiles.{pps_below_maximum, profile_refusals, build_refusals}
use Rattle.rules.specs.Tables.{Slot, Nothing, Fixed, Avs, Prog, base_slots, slots}
use Rattle.rules.specs.Currents.{built_current}
use Rattle.rules.specs.Building.{object_for, word_for, built_count, built_words}
use Rattle.rules.specs.Sets.{fits, wrong_set}
use Rattle.rules.specs.Checking.{current_refused, current_rows, check_refusals}
use Rattle.rules.specs.Following.{all_fit, right_count}
use Rattle.rules.proofs.EachMaximum.{base_within}
use Rattle.rules.proofs.ProfileCases.{max_high, max_low}
use Rattle.rules.proofs.Builds.{built_count_high}
use Rattle.rules.proofs.Listed.{fit_all}
use Rattle.rules.proofs.SetLaw.{set_law}
use Rattle.rules.proofs.Slots.{slot_good, good_at, base_not_empty, first_is_5_V, has_15_V, has_20_V, follow_is, follows_at}
use Rattle.rules.proofs.Built.{some_at_20_V, has_word, no_flags_later, in_bounds, in_power}
use Rattle.rules.proofs.BuiltCurrents.{allowed_at}

-- an object that is built is what its slot asks for
pub fits_own : (p : Profile) → NoneApply (profile_refusals p) → (first : Bool) (s : Slot) → slot_good s ≡ true → fits s (object_for p first s) ≡ true
unfolding fits object_for
fits_own p x first Nothing g = let z : false ≡ true = g in cc
fits_own p x first (Fixed volts) g = eq-eqb (volts * 20 * 50) (volts * 1000) (mul_assoc volts 20 50)
fits_own p x first (Avs true) g = ap (λ (b : Bool). beq true (not b)) (ne_eqb (built_current p 20) 0 (λ e. omega (arith, some_at_20_V p x)))
fits_own p x first (Avs false) g = refl
fits_own p x first (Prog volts top) g = ap (λ (b : Bool). b && true) (eq-eqb (top * 100) (top * 100) refl)

module _ (p : Profile) (b : NoneApply (build_refusals p)) where
  abbrev m : ℕ
  m = p.max.0

  abbrev n : ℕ
  n = built_count p

  abbrev ws : List ℕ
  ws = (built_words p).words

  abbrev slot : ℕ → Slot
  slot k = get_or (slots m) k Nothing

  pub profile_clear : NoneApply (profile_refusals p)
  profile_clear = none_left (profile_refusals p) (refusal (pps_below_maximum p) 6 0 ∷ []) b

  -- ---- the count

  high : m ≤ 200
  high = max_high p profile_clear

  n_high : n ≤ 7
  n_high = built_count_high p high

  base_in : length (base_slots m) ≤ n
  base_in = go (eqb p.pps 1) where
    go : (t : Bool) → length (base_slots m) ≤ cond t (length (slots m)) (length (base_slots m))
    go true = base_within m
    go false = omega arith

  n_in : n ≤ length (slots m)
  n_in = go (eqb p.pps 1) where
    go : (t : Bool) → cond t (length (slots m)) (length (base_slots m)) ≤ length (slots m)
    go true = omega arith
    go false = base_within m

  n_low : 1 ≤ n
  n_low = omega (arith, base_in, base_not_empty m (max_low p profile_clear) high)

  -- ---- each word

  pub good : (k : ℕ) → k < n → slot_good (slot k) ≡ true
  good k h = good_at m high k (omega (arith, n_in))

  own : (k : ℕ) → k < n → encode_of (object_for p (eqb k 0) (slot k)) ≡ Some (get_or ws k 0)
  own k h = has_word p profile_clear (eqb k 0) (slot k) (good k h) ∙ ap Some (sym (filled_at (word_for p) 0 n k n_high h))

  pub known : (k : ℕ) → k < n → decode_of (get_or ws k 0) ≡ Some (object_for p (eqb k 0) (slot k))
  known k h = encode_decode (object_for p (eqb k 0) (slot k)) (get_or ws k 0) (own k h)

  in_order : (k : ℕ) → k < n → out_of_order (eqb k 0) (decode_of (get_or ws (k - 1) 0)) (decode_of (get_or ws k 0)) ≡ false
  in_order zero h = refl
  in_order (suc j) h =
      let e : suc j - 1 ≡ j = omega arith in
      rw (eqb-suc-zero j)
      (ap₂ (λ (d f : Option Object). out_of_order false d f) (ap (λ (i : ℕ). decode_of (get_or ws i 0)) e ∙ known j (omega arith)) (known (suc j) h)
      ∙ ap not (follow_is p (eqb j 0) (eqb (suc j) 0) (slot j) (slot (suc j)) ∙ follows_at m high j (omega (arith, n_in))))

  words_clear : (k : ℕ) → k < n → NoneApply (word_rows Source ws k)
  words_clear k h =
      let g = good k h in
      let d = known k h in (
        ap (λ (x : Option Object). eqb (decoded_number x) 12) d,
        (
          ap (of_object (λ (o : Object). reserved_set Source o (eqb k 0) (get_or ws k 0))) d
              ∙ made_clear (object_for p (eqb k 0) (slot k)) (get_or ws k 0) (eqb k 0) (own k h) (no_flags_later p profile_clear (eqb k 0) (slot k)),
          (
            ap (of_object out_of_bounds) d ∙ in_bounds p profile_clear (eqb k 0) (slot k) g,
            (ap (of_object over_100_W) d ∙ in_power p profile_clear (eqb k 0) (slot k) g, (in_order k h, tt)),
          ),
        ),
      )

  -- ---- AVS and its fixed objects

  found : (k volts : ℕ) → k < n → slot k ≡ Fixed volts → has_fixed ws n (volts * 1000) (record { 0 = built_current p volts }) ≡ true
  unfolding object_for
  found k volts h e =
      found_at ws (volts * 1000) (record { 0 = built_current p volts }) n k h
      (ap (of_object (fixed_with (volts * 1000) (record { 0 = built_current p volts }))) (known k h ∙ ap (λ (s : Slot). Some (object_for p (eqb k 0) s)) e)
      ∙ ap₂ ◌&&◌ (eq-eqb (volts * 20 * 50) (volts * 1000) (mul_assoc volts 20 50)) (eq-eqb (built_current p volts) (built_current p volts) refl))

  avs_own : (k : ℕ) → k < n → (s : Slot) → slot k ≡ s → avs_differs ws n (object_for p (eqb k 0) s) ≡ false
  unfolding object_for avs_differs
  avs_own k h Nothing e = refl
  avs_own k h (Fixed volts) e = refl
  avs_own k h (Avs true) e =
      let f = has_15_V m high k true e in
      let t = has_20_V m high k e in
      rw (found 2 15 (omega (arith, base_in, f.below)) f.slot, found 3 20 (omega (arith, base_in, t.below)) t.slot)
      (ap not (or-true (eqb (built_current p 20) 0)))
  avs_own k h (Avs false) e =
      let f = has_15_V m high k false e in
      rw (found 2 15 (omega (arith, base_in, f.below)) f.slot)
  avs_own k h (Prog volts top) e = refl

  avs_clear : (k : ℕ) → k < n → NoneApply (avs_rows ws n k)
  avs_clear k h = (ap (of_object (avs_differs ws n)) (known k h) ∙ avs_own k h (slot k) refl, tt)

  -- ---- the shape

  begins : is_fixed_5_V (get_or ws 0 0) ≡ true
  unfolding is_fixed_5_V object_for
  begins =
      ap (of_object (of_fixed (λ v a. eqb (mv50 v) 5000)))
      (known 0 n_low ∙ ap (λ (s : Slot). Some (object_for p true s)) (first_is_5_V m (max_low p profile_clear) high))

  pub shape_clear : NoneApply (shape_refusals (built_words p))
  shape_clear = (
    counted n n_low n_high,
    (ap not begins, none_append (each_place (word_rows Source ws) n) (each_place (avs_rows ws n) n) (none_all (word_rows Source ws) n words_clear) (none_all (avs_rows ws n) n avs_clear)),
  )

  -- ---- the set of objects and their currents

  all_fit_lem : all_fit (slots m) ws n ≡ true
  all_fit_lem = fit_all (slots m) ws n (λ k h. ap (of_object (fits (slot k))) (known k h) ∙ fits_own p profile_clear (eqb k 0) (slot k) (good k h))

  right_count_lem : right_count p n ≡ true
  right_count_lem = go (eqb p.pps 1) refl where
    below : pps_below_maximum p ≡ false
    below = (none_right (profile_refusals p) (refusal (pps_below_maximum p) 6 0 ∷ []) b).0

    go : (t : Bool) → eqb p.pps 1 ≡ t
        → (eqb (cond t (length (slots m)) (length (base_slots m))) (length (base_slots m))
        || (not (ltb p.present.0 m) && eqb (cond t (length (slots m)) (length (base_slots m))) (length (slots m)))) ≡ true
    go true e =
        ap (λ (r : Bool). eqb (length (slots m)) (length (base_slots m)) || r)
        (ap₂ (λ (q r : Bool). not q && r) (sym (ap (λ (q : Bool). q && ltb p.present.0 m) e) ∙ below) (eq-eqb (length (slots m)) (length (slots m)) refl))
        ∙ or-true (eqb (length (slots m)) (length (base_slots m)))
    go false e =
        ap (λ (r : Bool). r || (not (ltb p.present.0 m) && eqb (length (base_slots m)) (length (slots m))))
        (eq-eqb (length (base_slots m)) (length (base_slots m)) refl)

  right_set : wrong_set p (built_words p) ≡ false
  right_set = set_law p (built_words p) profile_clear shape_clear ∙ ap not (ap₂ ◌&&◌ right_count_lem all_fit_lem)

  currents_clear : (k : ℕ) → k < n → NoneApply (current_rows p ws k)
  currents_clear k h = (ap (of_object (current_refused p (slot k))) (known k h) ∙ allowed_at p (eqb k 0) (slot k) (good k h), tt)

  pub check_clear : NoneApply (check_refusals p (built_words p))
  check_clear =
      let last = refusal (wrong_set p (built_words p)) 18 0 ∷ each_place (current_rows p ws) n in
      let tail : NoneApply last = (right_set, none_all (current_rows p ws) n currents_clear) in
      none_append (profile_refusals p) (shape_refusals (built_words p) ++ last) profile_clear
      (none_append (shape_refusals (built_words p)) last shape_clear tail)

  -- ---- its count, and that each word has 32 bits

  pub built_counts : built_count p ≤ 7
  built_counts = n_high

  pub built_fits : Words32 (built_words p)
  built_fits = record { fits = λ k. go k (ltb k n) refl } where
    go : (k : ℕ) (t : Bool) → ltb k n ≡ t → get_or ws k 0 < 2 ^ 32
    go k true e = made_lt (object_for p (eqb k 0) (slot k)) (get_or ws k 0) (own k (ltb-true k n e))
    go k false e = subst (λ (w : ℕ). w < 2 ^ 32) (sym (past_filled (word_for p) 0 n k (ltb-false k n e))) (omega arith)
