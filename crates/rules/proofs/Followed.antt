-- What following a list along the tables says: whether each word is what its slot asks for, and the first current that is not allowed.
-- Assumes nothing.
use Rattle.std.specs.Prelude.{Option, Some, None, Ok}
use Rattle.objects.specs.declared.Object.{Object}
use mathlib.Core.Path.{◌≡◌, refl, sym, ap, ap₂, ◌∙◌, subst}
use mathlib.Core.Bool.{Bool, true, false, ◌&&◌, cond, and-false}
use mathlib.Core.List.{List, [], ◌∷◌, ◌++◌}
use mathlib.Core.Logic.{◌⊎◌, inl, inr, ⊎_elim}
use Prim.Native.Nat.{ℕ, zero, suc, ◌+◌, ◌≤◌, ◌<◌}
use native.Mathlib.Nat.{eq-or-lt_of_le, le_of_suc-le-suc}
use native.Mathlib.Numerals.{add-one}
use native.Mathlib.Omega.{arith}
use lib.Dec.{ltb}
use lib.ListN.{get_or}
use borrow.Author.Tests.{ltb-true, ltb-false}
use Rattle.verdicts.specs.Refusals.{Refusal, refusal, each_place, first_of, err, passed_by}
use Rattle.verdicts.proofs.First.{onward, all_missed}
use Rattle.verdicts.proofs.Results.{none_applied, refused_as}
use Rattle.objects.specs.Asking.{of_object}
use Rattle.objects.specs.Decode.{decode_of}
use Rattle.lists.specs.declared.Words.{Words}
use Rattle.rules.specs.declared.Profile.{Profile}
use Rattle.rules.specs.declared.checking.Found.TheVariants.{Other, Allowed, NotAllowed}
use Rattle.rules.specs.declared.checking.Walk.{Walk}
use Rattle.rules.specs.Tables.{Slot, Nothing, slots}
use Rattle.rules.specs.Sets.{fits}
use Rattle.rules.specs.Checking.{current_refused, current_rows}
use Rattle.rules.specs.Following.{walk, first_fault, fault_said, object_at, found_of, step_by, step_of, and_on, followed, all_fit}
use Rattle.rules.proofs.Steps.{same_walk, counted, past, lost_on}

-- ---- each word at its slot

module _ (ss : List Slot) (ws : List ℕ) where
  none_looked : all_fit ss ws 0 ≡ true
  unfolding all_fit
  none_looked = refl

  fit_more : (k : ℕ) → all_fit ss ws k ≡ true → of_object (fits (get_or ss k Nothing)) (decode_of (get_or ws k 0)) ≡ true → all_fit ss ws (k + 1) ≡ true
  unfolding all_fit
  fit_more k e f = rw (add-one k) (ap₂ ◌&&◌ e f)

  fit_fails : (n k : ℕ) → k < n → of_object (fits (get_or ss k Nothing)) (decode_of (get_or ws k 0)) ≡ false → all_fit ss ws n ≡ false
  unfolding all_fit
  fit_fails zero k h f = absurd (omega arith)
  fit_fails (suc n) k h f = ⊎_elim
      (λ e. ap (λ (b : Bool). all_fit ss ws n && b) (ap (λ (j : ℕ). of_object (fits (get_or ss j Nothing)) (decode_of (get_or ws j 0))) (sym e) ∙ f)
      ∙ and-false (all_fit ss ws n))
      (λ l. ap (λ (b : Bool). b && of_object (fits (get_or ss n Nothing)) (decode_of (get_or ws n 0))) (fit_fails n k l f))
      (eq-or-lt_of_le (le_of_suc-le-suc h))

-- ---- following n slots

module _ (p : Profile) (l : Words) where
  abbrev ss : List Slot
  ss = slots p.max.0

  abbrev ws : List ℕ
  ws = l.words

  -- every word so far is right
  pub record Kept (n : ℕ) : Type 0 where
    pub fault : Option ℕ
    pub reached : followed p l n ≡ Some (walk n fault)
    pub counts : n ≤ l.count
    pub fit : all_fit ss ws n ≡ true
    pub said : fault_said fault ≡ passed_by (each_place (current_rows p ws) n)

  -- the list is too short, or a word is not right
  pub record Lost (n : ℕ) : Type 0 where
    pub gone : followed p l n ≡ None
    pub wrong : (k : ℕ) → n ≤ k → k ≡ l.count → all_fit ss ws k ≡ false

  begun : Kept 0
  unfolding followed each_place first_of
  begun = record { fault = None; reached = refl; counts = omega arith; fit = none_looked ss ws; said = refl }

  -- the first fault is kept
  abbrev fault_after : Option ℕ → Bool → ℕ → Option ℕ
  fault_after f refused place = cond refused (first_fault f place) f

  -- the first fault, with one place more
  fault_more : (xs : List Refusal) (f : Option ℕ) → fault_said f ≡ passed_by xs → (b : Bool) (q : ℕ)
      → fault_said (fault_after f b q) ≡ passed_by (xs ++ (refusal b 19 q ∷ []))
  unfolding first_of
  fault_more xs None e true q = sym (onward err (Ok tt) xs (refusal true 19 q ∷ []) ∙ all_missed err (err 19 q) xs (none_applied tt xs (sym e)))
  fault_more xs None e false q = sym (onward err (Ok tt) xs (refusal false 19 q ∷ []) ∙ all_missed err (Ok tt) xs (none_applied tt xs (sym e)))
  fault_more xs (Some k) e true q = sym (onward err (Ok tt) xs (refusal true 19 q ∷ []) ∙ refused_as tt xs (sym e) err (err 19 q))
  fault_more xs (Some k) e false q = sym (onward err (Ok tt) xs (refusal false 19 q ∷ []) ∙ refused_as tt xs (sym e) err (Ok tt))

  module _ (n : ℕ) where
    abbrev slot : Slot
    slot = get_or ss n Nothing

    abbrev word : Option Object
    word = decode_of (get_or ws n 0)

    -- where nothing stands, or another object
    off : Kept n → of_object (fits slot) (object_at l n) ≡ false → followed p l (suc n) ≡ None
    unfolding followed step_of step_by found_of
    off kept f = ap (λ (o : Option Walk). and_on o (step_of p l slot)) kept.reached ∙ rw f

    -- the right object
    one_place : (w : Walk) (refused : Bool) → step_by w (cond refused NotAllowed Allowed) ≡ Some (walk (w.at + 1) (fault_after w.fault refused (w.at + 1)))
    unfolding step_by
    one_place w true = refl
    one_place w false = refl

    right : Kept n → n < l.count → of_object (fits slot) word ≡ true → Kept (suc n)
    unfolding followed step_of found_of each_place
    right kept h f =
        let w = walk n kept.fault in
        let refused = of_object (current_refused p slot) word in
        let on : followed p l (suc n) ≡ Some (walk (n + 1) (fault_after kept.fault refused (n + 1))) =
        ap (λ (o : Option Walk). and_on o (step_of p l slot)) kept.reached
        ∙ ap (λ (d : Option Object). step_by w (found_of p slot d)) (counted l n h)
        ∙ ap (λ (b : Bool). step_by w (cond b (cond refused NotAllowed Allowed) Other)) f
        ∙ one_place w refused in
        record {
          fault = fault_after kept.fault refused (n + 1);
          reached = on ∙ ap (λ (j : ℕ). Some (walk j (fault_after kept.fault refused (n + 1)))) (add-one n);
          counts = h;
          fit = subst (λ (j : ℕ). all_fit ss ws j ≡ true) (add-one n) (fit_more ss ws n kept.fit f);
          said = fault_more (each_place (current_rows p ws) n) kept.fault kept.said refused (n + 1);
        }

    one_more : (Kept n) ⊎ (Lost n) → (Kept (suc n)) ⊎ (Lost (suc n))
    one_more (inl kept) = go (ltb n l.count) refl (of_object (fits slot) word) refl where
      go : (a : Bool) → ltb n l.count ≡ a → (b : Bool) → of_object (fits slot) word ≡ b → (Kept (suc n)) ⊎ (Lost (suc n))
      go true e true f = inl (right kept (ltb-true n l.count e) f)
      go true e false f = inr record {
        gone = off kept (ap (of_object (fits slot)) (counted l n (ltb-true n l.count e)) ∙ f);
        wrong = λ k h q. fit_fails ss ws k n h f;
      }
      go false e b f = inr record {
        gone = off kept (ap (of_object (fits slot)) (past l n (ltb-false n l.count e)));
        wrong = λ k h q. absurd (omega (arith, ltb-false n l.count e));
      }
    one_more (inr lost) = inr record { gone = lost_on p l n (suc n) (omega arith) lost.gone; wrong = λ k h q. lost.wrong k (omega arith) q }

  by_places : (n : ℕ) → (Kept n) ⊎ (Lost n)
  by_places zero = inl begun
  by_places (suc n) = one_more n (by_places n)

  -- ---- where following ends at the count

  -- what is known of a walk that ends there
  pub record Ended (n : ℕ) (w : Walk) : Type 0 where
    pub count : l.count ≡ n
    pub fit : all_fit ss ws n ≡ true
    pub said : fault_said w.fault ≡ passed_by (each_place (current_rows p ws) n)

  none_here : {w : Walk} → None ≡ Some w → ⊥
  none_here e = cc

  module _ (n : ℕ) where
    pub ends : (w : Walk) → followed p l n ≡ Some w → w.at ≡ l.count → Ended n w
    ends w f e = ⊎_elim
        (λ kept. let g = same_walk (sym f ∙ kept.reached) in
        record {
          count = sym e ∙ ap (λ (v : Walk). v.at) g;
          fit = kept.fit;
          said = ap (λ (v : Walk). fault_said v.fault) g ∙ kept.said;
        })
        (λ lost. absurd (none_here (sym lost.gone ∙ f))) (by_places n)

    pub ends_not : ((w : Walk) → followed p l n ≡ Some w → w.at ≡ l.count → ⊥) → l.count ≡ n → all_fit ss ws l.count ≡ false
    ends_not f e = ⊎_elim (λ kept. absurd (f (walk n kept.fault) kept.reached (sym e))) (λ lost. lost.wrong l.count (omega arith) refl) (by_places n)

    -- a walk that is lost on the way is that of no list whose words are all right
    pub lost_before : followed p l n ≡ None → n ≤ l.count → all_fit ss ws l.count ≡ false
    lost_before f h = ⊎_elim (λ kept. absurd (none_here (sym f ∙ kept.reached))) (λ lost. lost.wrong l.count h refl) (by_places n)
