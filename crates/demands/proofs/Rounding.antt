-- Proves the claims of specs/Rounding.antt.
-- Assumes nothing.
use mathlib.Core.Path.{◌≡◌, sym, ap, ◌∙◌}
use Prim.Native.Nat.{◌/◌}
use native.Mathlib.Nat.{div-mul-le_self, lt-div-mul-add}
use native.Mathlib.Omega.{arith}
use Rattle.steps.specs.declared.Roundings.{Roundings}
use Rattle.steps.proofs.RoundingLaws.{down_is, up_nothing_left, up_something_left}
use Rattle.demands.specs.Rounding.{BothFromOne, BothAsEach}

pub both_from_one : BothFromOne
both_from_one n d r pos e =
    let down : r.down ≡ n / d = ap (λ (x : Roundings). x.down) e ∙ down_is n d pos in
    let up = ap (λ (x : Roundings). x.up) e in
    record {
      not_above = rw down (div-mul-le_self n d);
      left = rw down (omega (arith, lt-div-mul-add {a = n} pos));
      none_left = rw down (λ none. up ∙ up_nothing_left n d pos none);
      some_left = rw down (λ some. up ∙ up_something_left n d pos some);
    }

pub both_as_each : BothAsEach
both_as_each n d r down up b e f = (ap (λ (x : Roundings). x.down) b ∙ sym e, ap (λ (x : Roundings). x.up) b ∙ sym f)
