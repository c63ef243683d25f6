-- Decoding a request: its cases, in order.
-- Assumes nothing.
use Rattle.std.specs.Prelude.{Option, Some, None, Ok, Err}
use mathlib.Core.Path.{◌≡◌, refl, ap, ◌∙◌}
use mathlib.Core.Bool.{Bool, true, false}
use Prim.Native.Nat.{ℕ}
use lib.Dec.{eqb}
use Rattle.objects.specs.declared.Object.{Object}
use Rattle.objects.specs.Decode.{decoded_number}
use Rattle.verdicts.specs.Refusals.{first_of, success}
use Rattle.verdicts.proofs.First.{hit, miss}
use Rattle.lists.specs.declared.Words.{Words}
use Rattle.lists.specs.Shape.{bad_count}
use Rattle.lists.specs.Reading.{object_of}
use Rattle.requests.specs.declared.Request.{Request}
use Rattle.requests.specs.declared.Request.TheVariants as asked
use Rattle.requests.specs.Taking.{position_of, taken_apart}
use Rattle.requests.specs.Answering.{bad_position, named_by}
use Rattle.summaries.specs.declared.QuickRequest.{QuickRequest}
use Rattle.summaries.specs.declared.BatteryRequest.{BatteryRequest}
use Rattle.summaries.specs.declared.TakenRequest.TheVariants.{Battery}
use Rattle.summaries.specs.Taking.{quick_with, quick_by, quick_request_of, quick_of, taken_refused, decoding_refusals, taken_of, taken_verdict}

-- ---- by the request alone

module _ (p : ℕ) (m : Bool) where
  pub quick_ok : (r : Request) (q : QuickRequest) → quick_request_of r ≡ Ok q → quick_by p m r ≡ quick_with p m q
  quick_ok (asked.Fixed o x) q e = cc
  quick_ok (asked.Battery o x) q e = absurd (cc)
  quick_ok (asked.Variable o x) q e = cc
  quick_ok (asked.Pps v a) q e = cc
  quick_ok (asked.Avs v a) q e = cc

  pub quick_err : (r : Request) (b : BatteryRequest) → quick_request_of r ≡ Err b → quick_by p m r ≡ Battery p m
  quick_err (asked.Fixed o x) b e = absurd (cc)
  quick_err (asked.Battery o x) b e = refl
  quick_err (asked.Variable o x) b e = absurd (cc)
  quick_err (asked.Pps v a) b e = absurd (cc)
  quick_err (asked.Avs v a) b e = absurd (cc)

-- ---- on a list

module _ (l : Words) (w : ℕ) where
  -- a decoded request, and that it is one for a battery, is no refusal
  pub quick_succeeds : taken_verdict (Ok (quick_of (taken_apart (object_of (named_by l w)) w))) ≡ success
  quick_succeeds = refl

  -- whatever the refusals make, and whatever the answer is where there is none
  module _ {A : Type 0} (refused : ℕ → ℕ → A) (answer : A) where
    pub miscounted_as : bad_count l.count ≡ true → first_of refused (decoding_refusals l w) answer ≡ refused 10 0
    miscounted_as e = hit refused answer 10 0 _ e

    module _ (counted : bad_count l.count ≡ false) where
      pub misplaced_as : bad_position l.count (position_of w) ≡ true → first_of refused (decoding_refusals l w) answer ≡ refused 20 0
      misplaced_as e = miss refused answer 10 0 _ counted ∙ hit refused answer 20 0 _ e

      module _ (placed : bad_position l.count (position_of w) ≡ false) where
        pub of_no_kind_as : named_by l w ≡ None → first_of refused (decoding_refusals l w) answer ≡ refused 12 (position_of w)
        of_no_kind_as e =
            miss refused answer 10 0 _ counted
            ∙ miss refused answer 20 0 _ placed
            ∙ hit refused answer 12 (position_of w) _ (ap (λ (d : Option Object). eqb (decoded_number d) 12) e)

        pub of_object_as : (o : Object) → named_by l w ≡ Some o → first_of refused (decoding_refusals l w) answer ≡ answer
        unfolding first_of
        of_object_as o e = rw (counted, placed, e)

  -- ---- the same, of decoding

  pub miscounted : bad_count l.count ≡ true → taken_of l w ≡ taken_refused 10 0
  unfolding taken_of
  miscounted e = miscounted_as taken_refused _ e

  module _ (counted : bad_count l.count ≡ false) where
    pub misplaced : bad_position l.count (position_of w) ≡ true → taken_of l w ≡ taken_refused 20 0
    unfolding taken_of
    misplaced e = misplaced_as taken_refused _ counted e

    module _ (placed : bad_position l.count (position_of w) ≡ false) where
      pub of_object_lem : (o : Object) → named_by l w ≡ Some o → taken_of l w ≡ Ok (quick_of (taken_apart o w))
      unfolding taken_of
      of_object_lem o e =
          of_object_as taken_refused _ counted placed o e
          ∙ ap (λ (d : Option Object). Ok (quick_of (taken_apart (object_of d) w))) e
