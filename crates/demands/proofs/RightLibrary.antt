-- Proves the claim of specs/Libraries.antt: the contracts can be met, so what `WrongLibraries` says of every library that meets them is said of
-- one at least.
-- Assumes nothing.
use mathlib.Core.Path.{refl}
use Rattle.demands.specs.Libraries.{DefinitionsMeet}

pub definitions_meet : DefinitionsMeet
definitions_meet = record {
  defaults = λ m. refl;
  builds = λ p. refl;
  checks = λ p w. refl;
  shapes = λ w. refl;
  reads = λ w. refl;
  writes = λ f. refl;
  answers = λ w word. refl;
  sets_up = λ ys capacity. (refl, refl);
  attaches = λ ys capacity port cable. (refl, refl);
  advertises = λ ys capacity port. (refl, refl);
  requests = λ ys capacity port word. (refl, refl);
  detaches = λ ys capacity port. (refl, refl);
  remains = λ ys capacity. refl;
}
