-- `messages::judging::judge_header` meets its contract: each return is a row of the table, or that none applies.
-- Assumes nothing.
use Rattle.std.specs.Prelude.{Result, Ok, Err}
use mathlib.Core.Path.{sym, ap, ◌∙◌}
use native.Mathlib.Omega.{arith}
use Rattle.verdicts.specs.declared.Verdict.{Verdict}
use Rattle.verdicts.specs.Refusals.{err}
use Rattle.messages.proofs.Refusals.{extended_refused, list_passes, request_passes, request_miscounted, other_refused}
use Rattle.messages.proofs.judging.judge_header.Goals as goal

abbrev stop : Verdict → Result (Unit {0}) Verdict
stop v = Err v

pub returns-then-header-ne0 : goal.returns-then-header-ne0
returns-then-header-ne0 c = ap stop c.placeless.ensures ∙ sym (extended_refused err (Ok tt) c.args.header c.if-header-ne0.true)

pub returns-in-1 : goal.returns-in-1
returns-in-1 c = sym (list_passes err (Ok tt) c.args.header c.if-header-ne0.false c.in-1.is)

pub returns-in-2 : goal.returns-in-2
returns-in-2 c = sym (request_passes err (Ok tt) c.args.header c.if-header-ne0.false c.in-2.is c.if-header-eq1.true)

pub returns-in-2-2 : goal.returns-in-2-2
returns-in-2-2 c = ap stop c.placeless-in-2-2.ensures ∙ sym (request_miscounted err (Ok tt) c.args.header c.if-header-ne0.false c.in-2.is c.if-header-eq1.false)

pub returns-in_default : goal.returns-in_default
returns-in_default c = ap stop c.placeless-in_default.ensures ∙ sym (other_refused err (Ok tt) c.args.header c.if-header-ne0.false (omega arith) (omega arith))
