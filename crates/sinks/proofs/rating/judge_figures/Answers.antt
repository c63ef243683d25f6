-- `sinks::rating::judge_figures` meets its contract: any word above its ceiling will do.
-- Assumes nothing.
use Rattle.std.specs.Prelude.{Result, Ok, Err}
use Rattle.std.specs.List.{list_any}
use borrow.Author.Rules.{rules}
use mathlib.Core.Path.{◌≡◌, sym, ap, ◌∙◌}
use mathlib.Core.Bool.{Bool, cond}
use mathlib.Core.List.{List}
use Prim.Native.Nat.{ℕ}
use lib.ListN.{length}
use Rattle.std.proofs.Common.{tests}
use Rattle.std.proofs.lemmas.Iterator.{YieldsList-from_slice}
use Rattle.std.proofs.lemmas.Iterator.Search.{any_from_yields_List}
use Rattle.verdicts.specs.declared.Verdict.{Verdict}
use Rattle.verdicts.specs.Refusals.{each_place, err, passed_by}
use Rattle.sinks.specs.Rating.{word_above, ceiling_rows}
use Rattle.sinks.proofs.Figures.{by_any}
use Rattle.sinks.proofs.rating.judge_figures.Goals as goal

-- what the answer to `any` says of the rows
told : (rating : ℕ) (ws : List ℕ) {r b : Bool} → r ≡ list_any (word_above rating) ws → r ≡ b
    → cond b (Err (record { number = 43; place = 0 })) (Ok tt) ≡ passed_by (each_place (ceiling_rows rating ws) (length ws))
told rating ws e f = ap (λ (x : Bool). cond x (err 43 0) (Ok tt)) (sym f ∙ e) ∙ sym (by_any err rating ws (Ok tt))

abbrev stop : Verdict → Result (Unit {0}) Verdict
stop v = Err v

pub returns-then-any : goal.returns-then-any
returns-then-any c =
    let a = c.args in
    ap stop c.placeless.ensures
    ∙ told a.rating.0 a.words.now
    (any_from_yields_List (word_above a.rating.0) _ _ _ c.any.ensures.ran (YieldsList-from_slice a.words.now cc) (λ x b q k. search (rules, tests))) c.if-any.true

pub returns : goal.returns
returns c =
    let a = c.args in
    told a.rating.0 a.words.now
    (any_from_yields_List (word_above a.rating.0) _ _ _ c.any.ensures.ran (YieldsList-from_slice a.words.now cc) (λ x b q k. search (rules, tests))) c.if-any.false
