-- `objects::encoding::three_word` meets its contract: each test says whether a field fits, and the ors are a sum.
-- Assumes nothing.
use Rattle.std.specs.Prelude.{Some}
use borrow.Author.Tests.{le-ltb, lt-ltb}
use mathlib.Core.Path.{refl, ◌∙◌, ap}
use mathlib.Core.List.{[], ◌∷◌}
use native.Mathlib.Omega.{arith}
use Rattle.objects.specs.Layout.{field}
use Rattle.objects.specs.Encode.{word_of}
use Rattle.objects.proofs.Putting.{ored_joined}
use Rattle.objects.proofs.encoding.three_word.Goals as goal

pub returns-then-figure-ge1024 : goal.returns-then-figure-ge1024
unfolding word_of
returns-then-figure-ge1024 c = simp (le-ltb _ _ c.if-figure-ge1024.true)

pub returns-then-min-ge1024 : goal.returns-then-min-ge1024
unfolding word_of
returns-then-min-ge1024 c = simp (lt-ltb _ _ c.if-figure-ge1024.false, le-ltb _ _ c.if-min-ge1024.true)

pub returns-then-max-ge1024 : goal.returns-then-max-ge1024
unfolding word_of
returns-then-max-ge1024 c =
    simp (lt-ltb _ _ c.if-figure-ge1024.false, lt-ltb _ _ c.if-min-ge1024.false, le-ltb _ _ c.if-max-ge1024.true)

pub returns : goal.returns
unfolding word_of
returns c =
    let x = c.args in
    let hf = c.if-figure-ge1024.false in
    let hm = c.if-min-ge1024.false in
    let hx = c.if-max-ge1024.false in
    let hk = c.requires in
    simp (lt-ltb _ _ hf, lt-ltb _ _ hm, lt-ltb _ _ hx, lt-ltb _ _ hk)
    (ap Some
    (ored_joined x.figure 10 (field x.min 19 10 ∷ field x.max 29 20 ∷ field x.kind 31 30 ∷ []) hf refl
    (hm, (hx, (hk, tt)))
    ∙ omega arith))
