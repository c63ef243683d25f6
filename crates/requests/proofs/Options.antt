-- What `ok_or` says of the option that it was made of.
-- Assumes nothing.
use Rattle.std.specs.Prelude.{Option, Some, None, Result, Ok, Err}
use Rattle.std.specs.Option.{ok_or}
use mathlib.Core.Path.{◌≡◌, refl, sym, ◌∙◌}

module _ {A E : Type 0} where
  was_some : (d : Option A) (e : E) (a : A) → ok_or d e ≡ Ok a → d ≡ Some a
  was_some (Some b) e a q = cc
  was_some None e a q = absurd (cc)

  was_none : (d : Option A) (e f : E) → ok_or d e ≡ Err f → d ≡ None
  was_none (Some b) e f q = absurd (cc)
  was_none None e f q = refl

  -- `?` went on with this value
  pub ok_some : (d : Option A) (e : E) {r : Result A E} {a : A} → r ≡ ok_or d e → r ≡ Ok a → d ≡ Some a
  ok_some d e {r} {a} p q = was_some d e a (sym p ∙ q)

  -- `?` stopped
  pub err_none : (d : Option A) (e : E) {r : Result A E} {f : E} → r ≡ ok_or d e → r ≡ Err f → d ≡ None
  err_none d e {r} {f} p q = was_none d e f (sym p ∙ q)
