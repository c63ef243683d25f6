-- `flat::writing::encode_places` meets its contract: the invariant is that no object passed is too wide, and the words so far are made.
-- Assumes nothing.
use Rattle.std.specs.Prelude.{Err, Option}
use Rattle.std.proofs.lemmas.Result.{err_from_is_err_and}
use mathlib.Core.Path.{◌≡◌, sym, ap, ◌∙◌}
use mathlib.Core.List.{List}
use Prim.Native.Nat.{ℕ, ◌<◌}
use native.Mathlib.Omega.{arith}
use lib.ListN.{get_or, length, take}
use Rattle.objects.specs.declared.Side.{Side}
use Rattle.objects.specs.Encode.{encoded_says}
use Rattle.objects.proofs.Saying.{encoded_one}
use Rattle.lists.proofs.Counted.{counted_below, counted_at, counted_all, was_some, was_none}
use Rattle.lists.proofs.Shapes.{count_high}
use Rattle.lists.proofs.Writings.{miscounted_words, none_made, one_made, wide_word, all_words}
use Rattle.flat.specs.declared.FlatObject.{FlatObject}
use Rattle.flat.specs.Flat.{raised_for}
use Rattle.flat.specs.Reading.{empty_flat}
use Rattle.flat.specs.Writing.{encoded_raised, encoded_flat_at}
use Rattle.flat.proofs.writing.encode_places.Goals as goal

-- the object in hand is that of its place
encoded_in : (side : Side) (fs : List FlatObject) (n k : ℕ) (r : Option ℕ) → k < length (take n fs)
    → encoded_says r ≡ encoded_says (encoded_raised (raised_for side (get_or (take n fs) k empty_flat))) → r ≡ encoded_flat_at side fs k
encoded_in side fs n k r h e =
    encoded_one r _ e ∙ ap (λ (x : FlatObject). encoded_raised (raised_for side x)) (counted_at fs n k empty_flat h)

pub returns-then-bad_count : goal.returns-then-bad_count
returns-then-bad_count c = ap Err c.placeless.ensures ∙ miscounted_words _ _ (sym c.bad_count.ensures ∙ c.if-bad_count.true)

pub loop-i-init : goal.loop-i-init
loop-i-init c = (sym c.bad_count.ensures ∙ c.if-bad_count.false, none_made _)

pub returns-in_err-words : goal.returns-in_err-words
returns-in_err-words c =
    let l = c.args.list in
    let at = c.loop-i in
    let h = c.loop-i-test.true in
    let none = was_none c.at.result c.encode_flat.result (sym c.ok_or.ensures.value ∙ c.in_err-words.was) in
    let out = err_from_is_err_and c.from_residual.result c.from_residual.ensures.1 in
    out.1
    ∙ ap Err (out.2 ∙ none.1 ∙ c.at.ensures)
    ∙ wide_word (encoded_flat_at c.args.side l.places) at.i l.count at.words at.invariant.0 (counted_below l.places l.count at.i h) at.invariant.1
    (sym (encoded_in c.args.side l.places l.count at.i c.encode_flat.result h c.encode_flat.ensures) ∙ none.0)

pub loop-i-preserved : goal.loop-i-preserved
loop-i-preserved c =
    let l = c.args.list in
    let at = c.loop-i in
    let h = c.loop-i-test.true in (
      at.invariant.0,
      one_made (encoded_flat_at c.args.side l.places) at.i c.in_ok-words.field-0 at.words
          (omega (arith, counted_below l.places l.count at.i h, count_high l.count at.invariant.0)) at.invariant.1
          (sym (encoded_in c.args.side l.places l.count at.i c.encode_flat.result h c.encode_flat.ensures)
          ∙ was_some c.at.result c.encode_flat.result (sym c.ok_or.ensures.value ∙ c.in_ok-words.was)),
    )

pub returns : goal.returns
returns c =
    let l = c.args.list in
    let at = c.loop-i in
    all_words (encoded_flat_at c.args.side l.places) at.i l.count at.words at.invariant.0
    (counted_all l.places l.count at.i (omega (arith, count_high l.count at.invariant.0)) at.auto.i-end c.loop-i-test.false) at.invariant.1
