-- `summaries::take_request` meets its contract: what names no object is refused, and what does is sorted.
-- Assumes nothing.
use Rattle.std.proofs.Common.{rules}
use Rattle.std.specs.Prelude.{Ok, Err}
use mathlib.Core.Path.{◌≡◌, ap, sym, ◌∙◌}
use Rattle.verdicts.proofs.First.{all_missed}
use Rattle.verdicts.proofs.Results.{none_applied, value_meant, refused_as}
use Rattle.objects.specs.declared.Object.{Object}
use Rattle.lists.specs.Reading.{object_of}
use Rattle.requests.specs.Taking.{taken_apart}
use Rattle.requests.specs.Answering.{named_by}
use Rattle.summaries.specs.Taking.{quick_of, decoding_refusals, taken_refused, taken_of}
use Rattle.summaries.proofs.taking.take_request.Goals as goal

pub returns-in_err-object : goal.returns-in_err-object
unfolding taken_of
returns-in_err-object c =
    let x = c.args in
    let out : c.from_residual.result ≡ Err c.in_err-object.field-0.0 = search rules in
    out ∙ sym (refused_as (object_of (named_by x.list x.word)) (decoding_refusals x.list x.word) (sym c.named.ensures ∙ c.in_err-object.was) taken_refused _)

pub returns : goal.returns
unfolding taken_of
returns c =
    let x = c.args in
    let rs = decoding_refusals x.list x.word in
    let was = sym c.named.ensures ∙ c.in_ok-object.was in
    ap Ok (c.from.ensures
    ∙ ap quick_of c.take_apart.ensures
    ∙ ap (λ (o : Object). quick_of (taken_apart o x.word)) (value_meant (object_of (named_by x.list x.word)) rs was))
    ∙ sym (all_missed taken_refused _ rs (none_applied (object_of (named_by x.list x.word)) rs was))
