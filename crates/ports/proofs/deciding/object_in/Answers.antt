-- `ports::deciding::object_in` meets its contract: the word is that of the list at the place that the request names.
-- Assumes nothing.
use mathlib.Core.Path.{◌≡◌, sym, ap, ◌∙◌}
use Rattle.objects.proofs.Saying.{decoded_is}
use Rattle.rules.specs.Building.{built_of}
use Rattle.rules.specs.Placing.{placed_in}
use Rattle.rules.proofs.Saying.{placed_is}
use Rattle.requests.specs.Taking.{position_of}
use Rattle.ports.proofs.Requesting.{decoded_in, placed_named}
use Rattle.ports.proofs.deciding.object_in.Goals as goal

pub returns-in_err-w : goal.returns-in_err-w
returns-in_err-w c =
    let x = c.args in
    let l = (built_of x.profile).list in
    let placed : c.word_at.result ≡ placed_in l (position_of x.word) =
    placed_is _ _ _ c.word_at.ensures ∙ ap (placed_in l) c.position.ensures in
    c.from_residual.ensures ∙ ap decoded_in (sym c.in_err-w.was ∙ placed) ∙ placed_named l x.word

pub returns : goal.returns
returns c =
    let x = c.args in
    let l = (built_of x.profile).list in
    let placed : c.word_at.result ≡ placed_in l (position_of x.word) =
    placed_is _ _ _ c.word_at.ensures ∙ ap (placed_in l) c.position.ensures in
    decoded_is _ _ c.decode.ensures ∙ ap decoded_in (sym c.in_ok-w.was ∙ placed) ∙ placed_named l x.word
