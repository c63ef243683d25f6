-- The cases of the rule check.
-- Assumes nothing.
use mathlib.Core.Path.{◌≡◌, refl, ap, ◌∙◌}
use mathlib.Core.Bool.{true, false}
use mathlib.Core.List.{List, ◌∷◌, ◌++◌}
use Rattle.std.specs.Prelude.{Ok, Err}
use Rattle.verdicts.specs.declared.Verdict.{Verdict}
use Rattle.verdicts.specs.Refusals.{Refusal, refusal, each_place, err, passed_by, passed_of, verdict_of, NoneApply}
use Rattle.verdicts.proofs.First.{hit, miss, onward, all_missed, numbered, numbered_append, numbered_places, telling_numbered}
use Rattle.verdicts.proofs.Results.{refused_as, passed_first}
use Rattle.objects.specs.declared.Side.TheVariants.{Source}
use Rattle.lists.specs.declared.Words.{Words}
use Rattle.lists.specs.Shape.{shape_refusals, shape_of}
use Rattle.lists.proofs.Shapes.{shape_numbered, shape_verdict, none_of, count_high}
use Prim.Native.Nat.{◌≤◌}
use Rattle.rules.specs.declared.port.Candidate.{Candidate}
use Rattle.rules.specs.declared.Profile.{Profile}
use Rattle.rules.specs.Profiles.{profile_refusals}
use Rattle.rules.specs.Sets.{wrong_set}
use Rattle.rules.specs.Checking.{current_rows, check_refusals, checked_of}

-- ---- the check, in order

abbrev pub after_shape : Profile → Words → List Refusal
after_shape p l = refusal (wrong_set p l) 18 0 ∷ each_place (current_rows p l.words) l.count

module _ (p : Profile) (l : Words) where
  pub check_numbered : numbered (check_refusals p l) ≡ true
  check_numbered =
      numbered_append (profile_refusals p) (shape_refusals l ++ after_shape p l) refl
      (numbered_append (shape_refusals l) (after_shape p l) (shape_numbered Source l) (numbered_places (current_rows p l.words) (λ k. refl) l.count))

  pub check_verdict : checked_of p l ≡ verdict_of (check_refusals p l)
  unfolding checked_of
  check_verdict = refl

  -- ---- the same as a result, which the code goes on with by `?`

  pub bad_profile : {v : Verdict} → passed_by (profile_refusals p) ≡ Err v → passed_by (check_refusals p l) ≡ Err v
  bad_profile e = onward err (Ok tt) (profile_refusals p) (shape_refusals l ++ after_shape p l) ∙ refused_as tt (profile_refusals p) e err _

  -- the shape is told by its verdict
  pub shape_passed : {r : Verdict} → r ≡ shape_of l → passed_of r ≡ passed_by (shape_refusals l)
  shape_passed e =
      ap passed_of (e ∙ shape_verdict Source l) ∙ passed_first (shape_refusals l) (telling_numbered (shape_refusals l) (shape_numbered Source l))

  past_profile : NoneApply (profile_refusals p) → passed_by (check_refusals p l) ≡ passed_by (shape_refusals l ++ after_shape p l)
  past_profile x = onward err (Ok tt) (profile_refusals p) (shape_refusals l ++ after_shape p l) ∙ all_missed err _ (profile_refusals p) x

  pub bad_shape : NoneApply (profile_refusals p) → {v : Verdict} → passed_by (shape_refusals l) ≡ Err v → passed_by (check_refusals p l) ≡ Err v
  bad_shape x e = past_profile x ∙ onward err (Ok tt) (shape_refusals l) (after_shape p l) ∙ refused_as tt (shape_refusals l) e err _

  past_shape : NoneApply (profile_refusals p) → NoneApply (shape_refusals l) → passed_by (check_refusals p l) ≡ passed_by (after_shape p l)
  past_shape x y = past_profile x ∙ onward err (Ok tt) (shape_refusals l) (after_shape p l) ∙ all_missed err _ (shape_refusals l) y

  pub bad_set : NoneApply (profile_refusals p) → NoneApply (shape_refusals l) → wrong_set p l ≡ true → passed_by (check_refusals p l) ≡ err 18 0
  bad_set x y e = past_shape x y ∙ hit err (Ok tt) 18 0 _ e

  pub by_currents : NoneApply (profile_refusals p) → NoneApply (shape_refusals l) → wrong_set p l ≡ false
      → passed_by (check_refusals p l) ≡ passed_by (each_place (current_rows p l.words) l.count)
  by_currents x y e = past_shape x y ∙ miss err (Ok tt) 18 0 _ e

-- a list that is checked: none of the refusals of its shape applies
pub list_fine : (c : Candidate) → NoneApply (shape_refusals c.list.now)
list_fine c = none_of Source c.list.now c.shaped

-- so it has at most seven words
pub shape_seven : (l : Words) → (shape_of l).number ≡ 0 → l.count ≤ 7
shape_seven l e = count_high _ (none_of Source l e).0
