-- `messages::reading::header_taken` meets its contract: each return cites the law of its case.
-- Assumes nothing.
use Rattle.std.specs.Prelude.{Option, Some, None, MatchOption, Result, Ok, Err}
use Rattle.std.specs.Option.{ok_or}
use mathlib.Core.Path.{◌≡◌, ap, sym, subst, ◌∙◌}
use mathlib.Core.List.{List}
use Prim.Native.Nat.{ℕ, ◌<◌, ◌≤◌}
use lib.ListN.{length}
use Rattle.std.proofs.lemmas.Result.{err_from_is_err_and}
use Rattle.verdicts.specs.declared.Verdict.{Verdict}
use Rattle.verdicts.specs.Refusals.{err, passed_by}
use Rattle.messages.specs.declared.Header.{Header}
use Rattle.messages.specs.LowFirst.{half_at}
use Rattle.messages.specs.Headers.{header_of, length_of}
use Rattle.messages.specs.Refusing.{header_refusals}
use Rattle.messages.specs.Reading.{header_in}
use Rattle.messages.proofs.HeaderFields.{taken_count}
use Rattle.messages.proofs.Steps.{stops_at, goes_past}
use Rattle.messages.proofs.Readings.{too_few_bytes, other_length, by_header}
use Rattle.messages.proofs.reading.header_taken.Goals as goal

abbrev stop : Verdict → Result Header Verdict
stop v = Err v

abbrev given : Header → Result Header Verdict
given h = Ok h

abbrev known : List ℕ → Result Header Verdict
known bs = given (header_in bs)

-- what is said of the first two bytes
abbrev Halved : List ℕ → Option ℕ → Type 0
Halved bs o = MatchOption o (length bs < 2) (λ half. (2 ≤ length bs) × (half ≡ half_at bs 0))

missing : (bs : List ℕ) (o : Option ℕ) (v : Verdict) {e : Verdict} → Halved bs o → Err e ≡ ok_or o v → (length bs < 2) × (e ≡ v)
missing bs None v h q = (h, cc)
missing bs (Some half) v h q = cc

there : (bs : List ℕ) (o : Option ℕ) (v : Verdict) {half : ℕ} → Halved bs o → Ok half ≡ ok_or o v → (2 ≤ length bs) × (half ≡ half_at bs 0)
there bs None v h q = cc
there bs (Some x) v {half} h q = let e : half ≡ x = cc in (h.0, e ∙ h.1)

module _ (bs : List ℕ) {h : Header} where
  -- what is known once the header is there
  header_is : {half : ℕ} → (2 ≤ length bs) × (half ≡ half_at bs 0) → h ≡ header_of half → h ≡ header_in bs
  header_is e f = f ∙ ap header_of e.1

  -- and once it is judged
  judged_is : {r : Result (Unit {0}) Verdict} → h ≡ header_in bs → r ≡ passed_by (header_refusals h) → r ≡ passed_by (header_refusals (header_in bs))
  judged_is e f = f ∙ ap (λ (x : Header). passed_by (header_refusals x)) e

pub returns-in_err-half-clause-value : goal.returns-in_err-half-clause-value
returns-in_err-half-clause-value c =
    let bs = c.args.bytes.now in
    let m = missing bs _ _ c.half_of.ensures c.in_err-half.ensures.value in
    let p = err_from_is_err_and c.from_residual.result c.from_residual.ensures.1 in
    rw (p.1, p.2) (ap stop (m.1 ∙ c.placeless.ensures) ∙ sym (too_few_bytes err (known bs) bs m.0))

pub returns-then-bytes-header-clause-value : goal.returns-then-bytes-header-clause-value
returns-then-bytes-header-clause-value c =
    let bs = c.args.bytes.now in
    let two = there bs _ _ c.half_of.ensures c.in_ok-half.ensures.value in
    let made = header_is bs two c.header_of-header.ensures in
    ap stop c.placeless-then-bytes-header.ensures ∙ sym (other_length err (known bs) bs (λ e. c.if-bytes-header.true (e ∙ sym (ap length_of made))))

pub returns-in_err-judge_header-clause-value : goal.returns-in_err-judge_header-clause-value
returns-in_err-judge_header-clause-value c =
    let bs = c.args.bytes.now in
    let two = there bs _ _ c.half_of.ensures c.in_ok-half.ensures.value in
    let made = header_is bs two c.header_of-header.ensures in
    let p = err_from_is_err_and c.from_residual-in_err-judge_header.result c.from_residual-in_err-judge_header.ensures.1 in
    rw (p.1, p.2)
    (sym (by_header err (known bs) bs two.0 (c.if-bytes-header.false ∙ ap length_of made)
    ∙ stops_at tt (header_refusals (header_in bs)) (judged_is bs made c.in_err-judge_header.ensures) err (known bs)))

pub returns-clause-value : goal.returns-clause-value
returns-clause-value c =
    let bs = c.args.bytes.now in
    let two = there bs _ _ c.half_of.ensures c.in_ok-half.ensures.value in
    let made = header_is bs two c.header_of-header.ensures in
    ap given made
    ∙ sym (by_header err (known bs) bs two.0 (c.if-bytes-header.false ∙ ap length_of made)
    ∙ goes_past tt (header_refusals (header_in bs)) (judged_is bs made c.in_ok-judge_header.ensures) err (known bs))

pub returns-clause-fits : goal.returns-clause-fits
returns-clause-fits c =
    let bs = c.args.bytes.now in
    let two = there bs _ _ c.half_of.ensures c.in_ok-half.ensures.value in
    let made = header_is bs two c.header_of-header.ensures in
    (subst (λ (h : Header). h.count ≤ 7) (sym made) (taken_count (half_at bs 0)), c.if-bytes-header.false)
