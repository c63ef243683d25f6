-- `rules::port::Candidate::follow_base` meets its contract: AVS goes on from the fixed part.
-- Assumes nothing.
use mathlib.Core.Path.{sym, ◌∙◌}
use Rattle.rules.proofs.Steps.{lost_on, avs_followed}
use Rattle.rules.proofs.Places.{rails_in_base_lem}
use Rattle.rules.proofs.port.Candidate.follow_base.Goals as goal

pub returns-in_err-rails : goal.returns-in_err-rails
returns-in_err-rails c =
    let s = c.args.self.now in
    let p = s.port.profile in
    c.from_residual.ensures ∙ sym (lost_on p s.list.now _ _ (rails_in_base_lem p.max.0) (sym c.follow_rails.ensures ∙ c.in_err-rails.was))

pub returns : goal.returns
returns c =
    let s = c.args.self.now in
    c.follow_row.ensures ∙ avs_followed s.port.profile s.list.now _ (sym c.follow_rails.ensures ∙ c.in_ok-rails.was)
