-- What an answer says tells the answers apart, so the promise of a word at a place gives the answer itself.
-- Assumes nothing.
use Rattle.std.specs.Prelude.{Option, Some, None}
use mathlib.Core.Path.{◌≡◌, refl, ◌∙◌}
use mathlib.Core.Bool.{Bool, true, false, cond}
use Prim.Native.Nat.{ℕ, zero, suc, ◌-◌}
use lib.ListN.{get_or}
use Rattle.steps.specs.Ranges.{within}
use Rattle.steps.proofs.Saying.{one_answer}
use Rattle.lists.specs.declared.Words.{Words}
use Rattle.rules.specs.declared.Profile.{Profile}
use Rattle.rules.specs.Building.{built_of}
use Rattle.rules.specs.Placing.{placed_in, placed_says, place_says}
use Rattle.rules.specs.Promises.{PlacesWord}

pub placed_one : (r s : Option ℕ) → placed_says r ≡ placed_says s → r ≡ s
placed_one = one_answer placed_says back same where
  back : ℕ × ℕ → Option ℕ
  back (zero, w) = Some w
  back (suc n, w) = None

  same : (r : Option ℕ) → back (placed_says r) ≡ r
  same (Some w) = refl
  same None = refl

-- what is to be said of a place is what the definition's answer says
pub place_says_lem : (l : Words) (place : ℕ) → place_says l place ≡ placed_says (placed_in l place)
unfolding placed_in
place_says_lem l place = go (within 1 l.count place) (get_or l.words (place - 1) 0) where
  go : (b : Bool) (w : ℕ) → cond b (0, w) (20, 0) ≡ placed_says (cond b (Some w) None)
  go true w = refl
  go false w = refl

pub placed_is : (p : Profile) (place : ℕ) (r : Option ℕ) → PlacesWord p place r → r ≡ placed_in (built_of p).list place
placed_is p place r e = placed_one r (placed_in (built_of p).list place) (e ∙ place_says_lem (built_of p).list place)
