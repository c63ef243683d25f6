-- Proves the claims of specs/RuleLists.antt on the list.
-- Assumes nothing.
use Rattle.std.specs.Prelude.{Option, Some, None}
use Rattle.objects.specs.declared.Object.{Object}
use mathlib.Core.Path.{◌≡◌, refl, sym, ap, ◌∙◌, subst}
use mathlib.Core.Bool.{Bool, true, false, ◌&&◌, and-eq-true_iff, true≢false}
use mathlib.Core.List.{List, [], ◌∷◌, ◌++◌}
use Prim.Native.Nat.{ℕ}
use lib.Dec.{leb, eqb}
use borrow.Author.Tests.{leb-true, eqb-true}
use Rattle.verdicts.specs.declared.Verdict.{Verdict}
use Rattle.verdicts.specs.Refusals.{Refusal, refusal, first_of, verdict, success, verdict_of, NoneApply}
use Rattle.verdicts.proofs.First.{onward, all_missed, is_number}
use Rattle.lists.specs.Shape.{shape_refusals}
use Rattle.lists.proofs.Shapes.{count_low, count_high}
use Rattle.rules.specs.Building.{built_words}
use Rattle.rules.specs.Checking.{check_refusals, checked_of}
use Rattle.rules.proofs.Checks.{check_verdict}
use Rattle.requests.specs.Answering.{named_by, named_refusals, answer_of}
use Rattle.ports.specs.RuleLists.{rule_profile, rule_list}
use Rattle.ports.proofs.RuleLists.{rule_list_is, rule_profile_passes, rule_list_clear}
use Rattle.rules.proofs.BuiltPasses.{check_clear}
use Rattle.demands.specs.RuleLists.{OwnRefusal, RuleListPasses, RuleListNotEmpty, RuleListTo7, RefusedByOwn}

-- ---- requests that are refused by their own numbers

abbrev own : ℕ → ℕ → Bool
own n p = (leb 20 n && leb n 25) && (is_number n && eqb p 0)

abbrev all_own : List Refusal → Bool
all_own [] = true
all_own (refusal b n p ∷ rs) = own n p && all_own rs

own_row : (n p : ℕ) → own n p ≡ true → OwnRefusal (verdict n p)
own_row n p t =
    let a = (and-eq-true_iff (leb 20 n && leb n 25) (is_number n && eqb p 0)).0 t in
    let b = (and-eq-true_iff (leb 20 n) (leb n 25)).0 a.0 in
    let c = (and-eq-true_iff (is_number n) (eqb p 0)).0 a.1 in record {
      from_20 = leb-true 20 n b.0;
      to_25 = leb-true n 25 b.1;
      not_21 = λ e. true≢false (sym c.0 ∙ ap is_number e);
      place_0 = eqb-true p 0 c.1;
    }

own_rows : (rs : List Refusal) → all_own rs ≡ true → ((verdict_of rs).number ≡ 0 → ⊥) → OwnRefusal (verdict_of rs)
unfolding first_of
own_rows [] t f = absurd (f refl)
own_rows (refusal true n p ∷ rs) t f = own_row n p ((and-eq-true_iff (own n p) (all_own rs)).0 t).0
own_rows (refusal false n p ∷ rs) t f = own_rows rs ((and-eq-true_iff (own n p) (all_own rs)).0 t).1 f

own_after : (xs ys : List Refusal) → NoneApply xs → all_own ys ≡ true → ((verdict_of (xs ++ ys)).number ≡ 0 → ⊥) → OwnRefusal (verdict_of (xs ++ ys))
own_after xs ys x t f =
    let e : verdict_of (xs ++ ys) ≡ verdict_of ys = onward verdict success xs ys ∙ all_missed verdict (verdict_of ys) xs x in
    subst OwnRefusal (sym e) (own_rows ys t (λ z. f (ap (λ (v : Verdict). v.number) e ∙ z)))

own_named : (d : Option Object) (w : ℕ) → all_own (named_refusals d w) ≡ true
own_named (Some o) w = refl
own_named None w = refl

-- ---- the rule list

pub rule_list_passes : RuleListPasses
rule_list_passes y o =
    ap (checked_of (rule_profile y)) (rule_list_is y o)
    ∙ check_verdict (rule_profile y) (built_words (rule_profile y))
    ∙ all_missed verdict success (check_refusals (rule_profile y) (built_words (rule_profile y))) (check_clear (rule_profile y) (rule_profile_passes y o))

pub rule_list_not_empty : RuleListNotEmpty
rule_list_not_empty y o = count_low (rule_list y).count (rule_list_clear y o).0

pub rule_list_to_7 : RuleListTo7
rule_list_to_7 y o = count_high (rule_list y).count (rule_list_clear y o).0

pub refused_by_own : RefusedByOwn
unfolding answer_of
refused_by_own y o w f = own_after (shape_refusals (rule_list y)) _ (rule_list_clear y o) (own_named (named_by (rule_list y) w) w) f
