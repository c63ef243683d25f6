-- `rules::placing::standing_at` meets its contract: the fixed part, AVS, then the supplies that are wanted.
-- Assumes nothing.
use mathlib.Core.Path.{sym, ◌∙◌, subst}
use Prim.Native.Nat.{ℕ, ◌≤◌, ◌<◌}
use Rattle.rules.specs.Building.{built_count}
use Rattle.rules.proofs.TableWalk.{after_rails, exceeded}
use Rattle.rules.specs.Tables.{rails}
use Rattle.rules.proofs.PutDown.{avs_anywhere}
use Rattle.rules.proofs.Places.{rail_at, rails_in_base, avs_at, word_there, none_there, without_pps, base_counted}
use Rattle.rules.proofs.placing.standing_at.Goals as goal

pub returns-then-asked-rails : goal.returns-then-asked-rails
returns-then-asked-rails c =
    let x = c.args in
    let h : x.asked < after_rails x.port.profile.max.0 = subst (λ (n : ℕ). x.asked < n) (c.past_rails-rails.ensures ∙ exceeded x.port.profile.max.0 rails) c.if-asked-rails.true in
    let st = rail_at x.port.profile.max.0 x.asked x.port.within.max h in
    word_there x.port.profile (built_count x.port.profile) x.asked _ _ st (base_counted x.port.profile x.asked (rails_in_base x.port.profile.max.0 x.asked h)) c.word.ensures

pub returns-then-asked-base : goal.returns-then-asked-base
returns-then-asked-base c =
    let x = c.args in
    let low = subst (λ (n : ℕ). n ≤ x.asked) (c.past_rails-rails.ensures ∙ exceeded x.port.profile.max.0 rails) c.if-asked-rails.false in
    let high = subst (λ (n : ℕ). x.asked < n) c.past_avs-base.ensures c.if-asked-base.true in
    word_there x.port.profile (built_count x.port.profile) x.asked _ _ (avs_at x.port.profile.max.0 x.asked low high) (base_counted x.port.profile x.asked high)
    (c.word-then-asked-base.ensures ∙ avs_anywhere x.port.profile _ _)

pub returns-then-port-ne1 : goal.returns-then-port-ne1
returns-then-port-ne1 c =
    let x = c.args in
    let low = subst (λ (k : ℕ). k ≤ x.asked) c.past_avs-base.ensures c.if-asked-base.false in
    none_there x.port.profile (built_count x.port.profile) x.asked (subst (λ (k : ℕ). k ≤ x.asked) (sym (without_pps x.port.profile c.if-port-ne1.true)) low)
