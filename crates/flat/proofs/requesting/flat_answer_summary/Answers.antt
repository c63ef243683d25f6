-- `flat::flat_answer_summary` meets its contract: 12, or the answer to the decoded request.
-- Assumes nothing.
use mathlib.Core.Path.{sym, ◌∙◌}
use Rattle.flat.proofs.Requests.{no_decoded_request, by_decoded_request}
use Rattle.flat.proofs.requesting.flat_answer_summary.Goals as goal

pub returns-in_default : goal.returns-in_default
returns-in_default c =
    let x = c.args in
    c.placeless.ensures ∙ sym (no_decoded_request x.summary x.request (sym c.raise_request.ensures ∙ c.in_default.is))

pub returns : goal.returns
returns c =
    let x = c.args in
    c.answer_summary.ensures ∙ sym (by_decoded_request x.summary x.request _ (sym c.raise_request.ensures ∙ c.in-Some.is))
