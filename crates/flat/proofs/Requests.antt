-- Decoded requests as C has them: which kind numbers have one, and the answer by way of it.
-- Assumes nothing.
use Rattle.std.specs.Prelude.{Option, Some, None, Result, Ok, Err}
use mathlib.Core.Path.{◌≡◌, refl, sym, ap, ◌∙◌, subst}
use mathlib.Core.Bool.{Bool, true, false, not}
use Prim.Native.Nat.{ℕ, zero, suc}
use lib.Dec.{eqb}
use native.Mathlib.Omega.{arith}
use borrow.Author.Tests.{ne_eqb}
use Rattle.verdicts.specs.declared.Verdict.{Verdict}
use Rattle.verdicts.specs.Refusals.{verdict, success, verdict_of}
use Rattle.verdicts.proofs.First.{numbered, hit, miss}
use Rattle.lists.specs.declared.Words.{Words}
use Rattle.summaries.specs.declared.Summary.{Summary}
use Rattle.summaries.specs.declared.QuickRequest.{QuickRequest}
use Rattle.summaries.specs.declared.QuickRequest.TheVariants.{Fixed, Variable, Pps, Avs}
use Rattle.summaries.specs.declared.QuickAsked.{QuickAsked}
use Rattle.summaries.specs.declared.TakenRequest.{TakenRequest}
use Rattle.summaries.specs.declared.TakenRequest.TheVariants.{Battery, Quick}
use Rattle.summaries.specs.Taking.{taken_verdict, taken_of}
use Rattle.requests.specs.Answering.{bad_position}
use Rattle.summaries.specs.Answering.{row_of, summary_refusals, answered_by}
use Rattle.summaries.proofs.Unread.{answered_alike}
use Rattle.flat.specs.declared.FlatRequest.{FlatRequest}
use Rattle.flat.specs.declared.FlatTaken.{FlatTaken}
use Rattle.flat.specs.Requesting.{bit_of, flat_request_by, flat_request_of, flat_taken_by, flat_taken_of, raised_request_by, raised_request_of, asked_of, has_none, flat_answer_refusals, flat_answered_of, own_request_by, own_request}

-- whether an answer is a decoded request
abbrev is_unknown : Option QuickAsked → Bool
is_unknown (Some a) = false
is_unknown None = true

told_by : (k : ℕ) (x : FlatRequest) → has_none k ≡ is_unknown (raised_request_by k x)
told_by zero x = refl
told_by (suc zero) x = refl
told_by (suc (suc zero)) x = refl
told_by (suc (suc (suc zero))) x = refl
told_by (suc (suc (suc (suc zero)))) x = refl
told_by (suc (suc (suc (suc (suc k))))) x =
    let n = suc (suc (suc (suc (suc k)))) in
    rw (ne_eqb n 0 (λ q. omega arith), ne_eqb n 2 (λ q. omega arith), ne_eqb n 3 (λ q. omega arith), ne_eqb n 4 (λ q. omega arith))

told : (x : FlatRequest) → has_none x.kind ≡ is_unknown (raised_request_of x)
unfolding raised_request_of
told x = told_by x.kind x

-- ---- by the kind number

pub raised_as : (x : FlatRequest) (k : ℕ) → x.kind ≡ k → raised_request_of x ≡ raised_request_by k x
unfolding raised_request_of
raised_as x k e = ap (λ (n : ℕ). raised_request_by n x) e

none_by : (x : FlatRequest) (k : ℕ) → (k ≡ 0 → ⊥) → (k ≡ 2 → ⊥) → (k ≡ 3 → ⊥) → (k ≡ 4 → ⊥) → raised_request_by k x ≡ None
none_by x zero a b c d = absurd (a refl)
none_by x (suc zero) a b c d = refl
none_by x (suc (suc zero)) a b c d = absurd (b refl)
none_by x (suc (suc (suc zero))) a b c d = absurd (c refl)
none_by x (suc (suc (suc (suc zero)))) a b c d = absurd (d refl)
none_by x (suc (suc (suc (suc (suc k))))) a b c d = refl

pub raised_none : (x : FlatRequest) → (x.kind ≡ 0 → ⊥) → (x.kind ≡ 2 → ⊥) → (x.kind ≡ 3 → ⊥) → (x.kind ≡ 4 → ⊥) → raised_request_of x ≡ None
unfolding raised_request_of
raised_none x a b c d = none_by x x.kind a b c d

module _ (s : Summary) (x : FlatRequest) where
  pub flat_numbered : numbered (flat_answer_refusals s x) ≡ true
  flat_numbered = refl

  pub flat_answered : flat_answered_of s x ≡ verdict_of (flat_answer_refusals s x)
  unfolding flat_answered_of
  flat_answered = refl

  pub no_decoded_request : raised_request_of x ≡ None → flat_answered_of s x ≡ verdict 12 0
  unfolding flat_answered_of
  no_decoded_request e = hit verdict success 12 0 _ (told x ∙ ap is_unknown e)

  pub by_decoded_request : (a : QuickAsked) → raised_request_of x ≡ Some a → flat_answered_of s x ≡ answered_by s a
  unfolding flat_answered_of answered_by
  by_decoded_request a e =
      miss verdict success 12 0 _ (told x ∙ ap is_unknown e)
      ∙ ap (λ (r : Option QuickAsked). verdict_of (summary_refusals s (asked_of r x))) e

-- ---- out and in again

bit_again : (m : Bool) → not (eqb (bit_of m) 0) ≡ m
bit_again true = refl
bit_again false = refl

raised_again : (p : ℕ) (m : Bool) (r : QuickRequest)
    → raised_request_of (flat_request_by p (bit_of m) r) ≡ Some (record { position = p; mismatch = not (eqb (bit_of m) 0); request = r })
unfolding raised_request_of
raised_again p m (Fixed o x) = refl
raised_again p m (Variable o x) = refl
raised_again p m (Pps v a) = refl
raised_again p m (Avs v a) = refl

-- a decoded request that was made flat is taken in as it was
pub request_again : (a : QuickAsked) → raised_request_of (flat_request_of a) ≡ Some a
unfolding flat_request_of
request_again a =
    raised_again a.position a.mismatch a.request
    ∙ ap (λ (m : Bool). Some (record { position = a.position; mismatch = m; request = a.request })) (bit_again a.mismatch)

-- what decoding gives to C, by what it gives
module _ (l : Words) (w : ℕ) where
  pub flat_taken : flat_taken_of l w ≡ flat_taken_by (taken_of l w)
  unfolding flat_taken_of
  flat_taken = refl

  verdict_by : (t : Result TakenRequest Verdict) → (flat_taken_by t).verdict ≡ taken_verdict t
  verdict_by (Err v) = refl
  verdict_by (Ok (Battery p m)) = refl
  verdict_by (Ok (Quick a)) = refl

  pub flat_taken_verdict : (flat_taken_of l w).verdict ≡ taken_verdict (taken_of l w)
  flat_taken_verdict = ap (λ (t : FlatTaken). t.verdict) flat_taken ∙ verdict_by (taken_of l w)

-- ---- what is not looked at

pub flat_taken_by_one : (l m : Words) (w : ℕ) → taken_of l w ≡ taken_of m w → flat_taken_of l w ≡ flat_taken_of m w
flat_taken_by_one l m w e = flat_taken l w ∙ ap flat_taken_by e ∙ sym (flat_taken m w)

-- by the decoded request, where there is one
abbrev answered_raised : Summary → Option QuickAsked → Verdict
answered_raised s (Some a) = answered_by s a
answered_raised s None = verdict 12 0

by_raised : (s : Summary) (x : FlatRequest) → flat_answered_of s x ≡ answered_raised s (raised_request_of x)
by_raised s x = go (raised_request_of x) refl where
  go : (r : Option QuickAsked) → raised_request_of x ≡ r → flat_answered_of s x ≡ answered_raised s r
  go (Some a) e = by_decoded_request s x a e
  go None e = no_decoded_request s x e

-- the position is that of the struct, whatever the kind
abbrev PlacedAt : ℕ → Option QuickAsked → Type 0
PlacedAt p (Some a) = a.position ≡ p
PlacedAt p None = Unit

placed_by : (k : ℕ) (x : FlatRequest) → PlacedAt x.position (raised_request_by k x)
placed_by zero x = refl
placed_by (suc zero) x = tt
placed_by (suc (suc zero)) x = refl
placed_by (suc (suc (suc zero))) x = refl
placed_by (suc (suc (suc (suc zero)))) x = refl
placed_by (suc (suc (suc (suc (suc k))))) x = tt

placed_as : (x : FlatRequest) → PlacedAt x.position (raised_request_of x)
unfolding raised_request_of
placed_as x = placed_by x.kind x

-- of a summary the row of the position, where there is one
pub flat_answered_alike : (s t : Summary) (x : FlatRequest) → s.count ≡ t.count
    → (bad_position s.count x.position ≡ false → row_of s x.position ≡ row_of t x.position) → flat_answered_of s x ≡ flat_answered_of t x
flat_answered_alike s t x e f = by_raised s x ∙ go (raised_request_of x) (placed_as x) ∙ sym (by_raised t x) where
  go : (r : Option QuickAsked) → PlacedAt x.position r → answered_raised s r ≡ answered_raised t r
  go (Some a) p =
      answered_alike s t a e
      (λ q. ap (row_of s) p ∙ f (ap (bad_position s.count) (sym p) ∙ q) ∙ sym (ap (row_of t) p))
  go None p = refl

-- of the struct the fields of the kind alone
own_by_lem : (k : ℕ) (x : FlatRequest) → x.kind ≡ k → raised_request_by (own_request_by k x).kind (own_request_by k x) ≡ raised_request_by k x
own_by_lem zero x e = refl
own_by_lem (suc zero) x e = refl
own_by_lem (suc (suc zero)) x e = refl
own_by_lem (suc (suc (suc zero))) x e = refl
own_by_lem (suc (suc (suc (suc zero)))) x e = refl
own_by_lem (suc (suc (suc (suc (suc k))))) x e = ap (λ (n : ℕ). raised_request_by n x) e

own_raised : (x : FlatRequest) → raised_request_of (own_request x) ≡ raised_request_of x
unfolding raised_request_of
own_raised x = own_by_lem x.kind x refl

pub flat_answered_by_own : (s : Summary) (x : FlatRequest) → flat_answered_of s (own_request x) ≡ flat_answered_of s x
flat_answered_by_own s x = by_raised s (own_request x) ∙ ap (answered_raised s) (own_raised x) ∙ sym (by_raised s x)

-- what decoding gives has the fields of its kind alone
own_request_lem : (p b : ℕ) (r : QuickRequest) → own_request (flat_request_by p b r) ≡ flat_request_by p b r
own_request_lem p b (Fixed o x) = refl
own_request_lem p b (Variable o x) = refl
own_request_lem p b (Pps v a) = refl
own_request_lem p b (Avs v a) = refl

own_taken : (t : Result TakenRequest Verdict) → own_request (flat_taken_by t).request ≡ (flat_taken_by t).request
unfolding flat_request_of
own_taken (Err v) = refl
own_taken (Ok (Battery p m)) = refl
own_taken (Ok (Quick a)) = own_request_lem a.position (bit_of a.mismatch) a.request

pub flat_taken_own : (l : Words) (w : ℕ) → own_request (flat_taken_of l w).request ≡ (flat_taken_of l w).request
flat_taken_own l w = subst (λ (x : FlatTaken). own_request x.request ≡ x.request) (sym (flat_taken l w)) (own_taken (taken_of l w))
