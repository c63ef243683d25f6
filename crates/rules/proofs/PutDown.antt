-- Words put down one after the other.
-- Assumes nothing.
use mathlib.Core.Path.{◌≡◌, refl, sym, ap, ap₂, ◌∙◌}
use mathlib.Core.Bool.{Bool, true, false, cond}
use mathlib.Core.List.{List}
use Prim.Native.Nat.{ℕ, ◌+◌, ◌≤◌, ◌<◌}
use native.Mathlib.Omega.{arith}
use lib.Dec.{ltb, eqb}
use lib.ListN.{get_or, length, set}
use borrow.Author.Tests.{ltb-true, ltb-false}
use Rattle.steps.specs.declared.Ma10.{Ma10}
use Rattle.objects.specs.declared.Object.TheVariants as object
use Rattle.objects.specs.Encode.{encode_of}
use Rattle.lists.specs.Seven.{seven_to}
use Rattle.lists.specs.declared.Words.{Words}
use Rattle.lists.specs.Writing.{word_in, no_words}
use Rattle.lists.proofs.Sevens.{none_filled, one_filled}
use Rattle.rules.specs.declared.Profile.{Profile}
use Rattle.rules.specs.Tables.{Slot, Nothing, Fixed, Avs, Prog, row, rails, holds, base_slots, slots}
use Rattle.rules.specs.Currents.{built_current}
use Rattle.rules.specs.Building.{object_for, slot_word, word_for, PutIf, PutDown}
use Rattle.rules.proofs.EachMaximum.{at_most_seven}
use Rattle.rules.proofs.TableWalk.{Stands, rails_to, rail_stands, rail_on, rail_skipped, after_rails, avs_stands, avs_on, avs_skipped, supply, supplies, supplies_to, supply_stands, supply_on, supply_skipped}

pub none_put : (p : Profile) {l : Words} → l ≡ no_words → PutDown p 0 l.words l.count
none_put p e = record {
  place = ap (λ (l : Words). l.count) e;
  words = ap (λ (l : Words). l.words) e ∙ none_filled (word_for p) 0;
}

-- the word of the slot at the next place
module _ (p : Profile) (n : ℕ) (ws : List ℕ) (next word : ℕ) (s : Slot) (down : PutDown p n ws next) where
  pub put_on : n < 7 → get_or (slots p.max.0) n Nothing ≡ s → word ≡ slot_word p (eqb next 0) s → PutDown p (n + 1) (set ws next word) (next + 1)
  put_on h e w = record {
    place = ap (λ (k : ℕ). k + 1) down.place;
    words = ap₂ (λ (l : List ℕ) (k : ℕ). set l k word) down.words down.place
        ∙ ap (set (seven_to (word_for p) 0 n) n) (w ∙ ap₂ (λ (k : ℕ) (t : Slot). slot_word p (eqb k 0) t) down.place (sym e))
        ∙ one_filled (word_for p) 0 n h;
  }

-- the same words, said otherwise
pub said_as : {p : Profile} {n k : ℕ} {ws vs : List ℕ} {next at : ℕ} → PutDown p n ws next → k ≡ n → vs ≡ ws → at ≡ next → PutDown p k vs at
said_as {p} d e f g = record { place = g ∙ d.place ∙ sym e; words = f ∙ d.words ∙ ap (seven_to (word_for p) 0) (sym e) }

-- F goes to fixed objects alone
pub avs_anywhere : (p : Profile) (first past15V : Bool) → slot_word p false (Avs past15V) ≡ slot_word p first (Avs past15V)
unfolding object_for
avs_anywhere p first past15V = refl

pub prog_anywhere : (p : Profile) (first : Bool) (volts top : ℕ) → slot_word p false (Prog volts top) ≡ slot_word p first (Prog volts top)
unfolding object_for
prog_anywhere p first volts top = refl

-- the AVS word, by its currents
pub avs_is : (p : Profile) (first past15V : Bool) (low high : Ma10) → low.0 ≡ built_current p 15 → high.0 ≡ cond past15V (built_current p 20) 0
    → word_in (encode_of (object.Avs 0 low high)) ≡ slot_word p first (Avs past15V)
unfolding object_for
avs_is p first past15V low high e f = ap₂ (λ (l h : ℕ). word_in (encode_of (object.Avs 0 (record { 0 = l }) (record { 0 = h })))) e f

-- ---- a word that goes to its place, or does not

pub put_so : {goes : Bool} {word given at next : ℕ} {ws vs : List ℕ} → goes ≡ true → given ≡ word → vs ≡ set ws at given → next ≡ at + 1 → PutIf goes word ws at vs next
put_so {goes} {word} {given} {at} {next} {ws} t e f g =
    record {
      words = f ∙ ap (set ws at) e ∙ ap (λ (b : Bool). cond b (set ws at word) ws) (sym t);
      place = g ∙ ap (λ (b : Bool). cond b (at + 1) at) (sym t);
    }

pub put_not : {goes : Bool} {word at : ℕ} {ws : List ℕ} → goes ≡ false → PutIf goes word ws at ws at
put_not {goes} {word} {at} {ws} t =
    record {
      words = ap (λ (b : Bool). cond b (set ws at word) ws) (sym t);
      place = ap (λ (b : Bool). cond b (at + 1) at) (sym t);
    }

-- ---- each row goes on from the place that has been reached

module _ (p : Profile) (high : p.max.0 ≤ 200) where
  abbrev m : ℕ
  m = p.max.0

  put_next : (goes : Bool) (s : Slot) (n k : ℕ) (ws vs : List ℕ) (at next : ℕ) → PutDown p n ws at → PutIf goes (slot_word p (eqb at 0) s) ws at vs next
      → (goes ≡ true → Stands m n s × (k ≡ n + 1)) → (goes ≡ false → k ≡ n) → PutDown p k vs next
  put_next true s n k ws vs at next down put t f =
      let r = (t refl).0 in
      said_as (put_on p n ws at (slot_word p (eqb at 0) s) s down (omega (arith, r.within, at_most_seven m high)) r.slot refl) (t refl).1 put.words put.place
  put_next false s n k ws vs at next down put t f = said_as down (f refl) put.words put.place

  pub rail_put : (i : ℕ) → i < 4 → {ws vs : List ℕ} {at next : ℕ} → PutDown p (rails_to m i) ws at
      → PutIf (ltb (get_or rails i (row 0 0)).above.0 m) (slot_word p (eqb at 0) (Fixed (get_or rails i (row 0 0)).volts)) ws at vs next
      → PutDown p (rails_to m (i + 1)) vs next
  rail_put i h {ws} {vs} {at} {next} down put =
      put_next (ltb (get_or rails i (row 0 0)).above.0 m) (Fixed (get_or rails i (row 0 0)).volts) (rails_to m i) (rails_to m (i + 1)) ws vs at next down put
      (λ t. (rail_stands m i h (ltb-true _ m t), rail_on m i h (ltb-true _ m t))) (λ t. rail_skipped m i h (ltb-false _ m t))

  pub avs_put : {ws vs : List ℕ} {at next : ℕ} → PutDown p (after_rails m) ws at
      → PutIf (ltb 54 m) (slot_word p (eqb at 0) (Avs (ltb 90 m))) ws at vs next → PutDown p (length (base_slots m)) vs next
  avs_put {ws} {vs} {at} {next} down put =
      put_next (ltb 54 m) (Avs (ltb 90 m)) (after_rails m) (length (base_slots m)) ws vs at next down put
      (λ t. (avs_stands m (ltb-true 54 m t), avs_on m (ltb-true 54 m t))) (λ t. avs_skipped m (ltb-false 54 m t))

  pub supply_put : (i : ℕ) → i < 3 → {ws vs : List ℕ} {at next : ℕ} → PutDown p (supplies_to m i) ws at
      → PutIf (holds m (get_or supplies i (supply 0 0 0 0))) (slot_word p (eqb at 0) (Prog (get_or supplies i (supply 0 0 0 0)).volts (get_or supplies i (supply 0 0 0 0)).top.0)) ws at vs next
      → PutDown p (supplies_to m (i + 1)) vs next
  supply_put i h {ws} {vs} {at} {next} down put =
      put_next (holds m (get_or supplies i (supply 0 0 0 0))) (Prog (get_or supplies i (supply 0 0 0 0)).volts (get_or supplies i (supply 0 0 0 0)).top.0)
      (supplies_to m i) (supplies_to m (i + 1)) ws vs at next down put
      (λ t. (supply_stands m high i h t, supply_on m high i h t)) (λ t. supply_skipped m high i h t)

  -- there is room for it
  pub room : (n at : ℕ) (s : Slot) → at ≡ n → Stands m n s → at < 7
  room n at s e r = omega (arith, r.within, at_most_seven m high)
