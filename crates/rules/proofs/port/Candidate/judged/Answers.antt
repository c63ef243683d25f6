-- `rules::port::Candidate::judged` meets its contract: each return cites the law of its case.
-- Assumes nothing.
use Rattle.std.specs.Prelude.{Option, Some, Err}
use mathlib.Core.Path.{◌≡◌, sym, ap, ◌∙◌}
use Prim.Native.Nat.{ℕ, ◌<◌, ◌≤◌}
use native.Mathlib.Omega.{arith}
use Rattle.std.proofs.lemmas.Grind.{common_steps}
use Rattle.rules.specs.declared.checking.Walk.{Walk}
use Rattle.rules.proofs.Steps.{same_walk}
use Rattle.rules.proofs.ProfileCases.{port_fine}
use Rattle.rules.proofs.Checks.{list_fine}
use Rattle.rules.proofs.WalkDecides.{without_pps, with_pps, wrong_below, wrong_both, wrong_early, wrong_late}
use Rattle.rules.proofs.port.Candidate.judged.Goals as goal

-- a walk that misses the count
misses : {o : Option Walk} {v : Walk} {n : ℕ} → o ≡ Some v → (v.at ≡ n → ⊥) → (w : Walk) → o ≡ Some w → w.at ≡ n → ⊥
misses e f w g h = f (ap (λ (x : Walk). x.at) (same_walk (sym e ∙ g)) ∙ h)

pub returns-in_default : goal.returns-in_default
returns-in_default c =
    let s = c.args.self.now in
    ap Err c.placeless-wrong_set.ensures ∙ wrong_early s.port.profile s.list.now (port_fine s.port) (list_fine s) (sym c.follow_base.ensures ∙ c.in_default.is)

pub returns-then-base-self : goal.returns-then-base-self
returns-then-base-self c =
    let s = c.args.self.now in
    c.judged.ensures
    ∙ without_pps s.port.profile s.list.now (port_fine s.port) (list_fine s) _ (sym c.in-Some.ensures) c.if-base-self.true

pub follow_supplies-requires : goal.follow_supplies-requires
follow_supplies-requires c = sym c.in-Some.ensures

pub returns-then-lt : goal.returns-then-lt
returns-then-lt c =
    let s = c.args.self.now in
    let below : s.port.profile.present.0 < s.port.profile.max.0 = grind (arith, common_steps) in
    ap Err c.placeless-wrong_set.ensures
    ∙ wrong_below s.port.profile s.list.now (port_fine s.port) (list_fine s) (misses (sym c.in-Some.ensures) c.if-base-self.false) below

pub returns-in_default-follow_supplies : goal.returns-in_default-follow_supplies
returns-in_default-follow_supplies c =
    let s = c.args.self.now in
    ap Err c.placeless-wrong_set.ensures
    ∙ wrong_late s.port.profile s.list.now (port_fine s.port) (list_fine s) (misses (sym c.in-Some.ensures) c.if-base-self.false)
    (sym c.follow_supplies.ensures ∙ c.in_default-follow_supplies.is)

pub returns-then-full-self : goal.returns-then-full-self
returns-then-full-self c =
    let s = c.args.self.now in
    let whole : s.port.profile.max.0 ≤ s.port.profile.present.0 = grind (arith, common_steps) in
    c.judged-then-full-self.ensures
    ∙ with_pps s.port.profile s.list.now (port_fine s.port) (list_fine s) _ whole (sym c.in-Some-follow_supplies.ensures) c.if-full-self.true

pub returns : goal.returns
returns c =
    let s = c.args.self.now in
    ap Err c.placeless-wrong_set.ensures
    ∙ wrong_both s.port.profile s.list.now (port_fine s.port) (list_fine s) (misses (sym c.in-Some.ensures) c.if-base-self.false)
    (misses (sym c.in-Some-follow_supplies.ensures) c.if-full-self.false)
