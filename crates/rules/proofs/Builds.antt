-- The cases of the builder.
-- Assumes nothing.
use mathlib.Core.Path.{◌≡◌, refl, ap, ◌∙◌}
use mathlib.Core.Bool.{Bool, true, false, cond}
use mathlib.Core.List.{[], ◌∷◌}
use Prim.Native.Nat.{◌≤◌}
use native.Mathlib.Omega.{arith}
use lib.Dec.{eqb}
use lib.ListN.{length}
use Rattle.std.specs.Prelude.{Ok, Err}
use Rattle.verdicts.specs.declared.Verdict.{Verdict}
use Rattle.verdicts.specs.Refusals.{refusal, success, first_of, err, passed_by, verdict_of, NoneApply}
use Rattle.verdicts.proofs.First.{hit, onward, onto, all_missed, refused_so, none_append, numbered, passes}
use Rattle.verdicts.proofs.Results.{refused_as}
use Rattle.lists.specs.declared.Listing.{Listing}
use Rattle.lists.specs.Writing.{no_words, write_refused, listing_told}
use Rattle.rules.specs.declared.Profile.{Profile}
use Rattle.rules.specs.Profiles.{pps_below_maximum, profile_refusals, build_refusals}
use Rattle.rules.specs.Tables.{base_slots, slots}
use Rattle.rules.specs.Building.{built_count, built_words, built_of}
use Rattle.rules.proofs.EachMaximum.{at_most_seven, base_within}

abbrev pub built_as : Profile → Listing
built_as p = record { verdict = success; list = built_words p }

module _ (p : Profile) where
  pub build_numbered : numbered (build_refusals p) ≡ true
  build_numbered = refl

  -- ---- as a result, which the code goes on with by `?`

  pub bad_profile : {v : Verdict} → passed_by (profile_refusals p) ≡ Err v → passed_by (build_refusals p) ≡ Err v
  bad_profile e = onward err (Ok tt) (profile_refusals p) (refusal (pps_below_maximum p) 6 0 ∷ []) ∙ refused_as tt (profile_refusals p) e err _

  pub too_much : NoneApply (profile_refusals p) → pps_below_maximum p ≡ true → passed_by (build_refusals p) ≡ err 6 0
  too_much x e =
      onward err (Ok tt) (profile_refusals p) (refusal (pps_below_maximum p) 6 0 ∷ []) ∙ all_missed err _ (profile_refusals p) x ∙ hit err (Ok tt) 6 0 [] e

  pub lists : NoneApply (profile_refusals p) → pps_below_maximum p ≡ false → NoneApply (build_refusals p)
  lists x e = none_append (profile_refusals p) (refusal (pps_below_maximum p) 6 0 ∷ []) x (e, tt)

  pub none_built : {v : Verdict} → passed_by (build_refusals p) ≡ Err v → first_of err (build_refusals p) (Ok (built_words p)) ≡ Err v
  none_built e = refused_as tt (build_refusals p) e err (Ok (built_words p))

  pub build_refused : {v : Verdict} → passed_by (build_refusals p) ≡ Err v → built_of p ≡ write_refused v.number v.place
  unfolding built_of
  build_refused e = refused_as tt (build_refusals p) e write_refused (built_as p)

  -- what a result of the builder tells is its answer
  pub build_told : listing_told (first_of err (build_refusals p) (Ok (built_words p))) ≡ built_of p
  unfolding built_of
  build_told = onto listing_told err (build_refusals p) (Ok (built_words p))

  pub build_clear : NoneApply (build_refusals p) → built_of p ≡ built_as p
  unfolding built_of
  build_clear x = all_missed write_refused (built_as p) (build_refusals p) x

  -- ---- the verdict of the builder

  pub build_verdict : (built_of p).verdict ≡ verdict_of (build_refusals p)
  unfolding built_of
  build_verdict = onto (λ (l : Listing). l.verdict) write_refused (build_refusals p) (built_as p)

  pub build_empty : ((built_of p).verdict ≡ success → ⊥) → (built_of p).list ≡ no_words
  unfolding built_of
  build_empty f =
      ap (λ (l : Listing). l.list)
      (refused_so write_refused (build_refusals p) (λ z. f (build_verdict ∙ passes (build_refusals p) build_numbered z)) (built_as p))

  -- ---- the count

  pub built_count_high : p.max.0 ≤ 200 → built_count p ≤ 7
  built_count_high h = go (eqb p.pps 1) where
    go : (b : Bool) → cond b (length (slots p.max.0)) (length (base_slots p.max.0)) ≤ 7
    go true = at_most_seven p.max.0 h
    go false = omega (arith, at_most_seven p.max.0 h, base_within p.max.0)
