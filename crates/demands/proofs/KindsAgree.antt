-- Proves the claims of specs/KindsAgree.antt.
-- Assumes nothing.
use Rattle.std.specs.Prelude.{Some, None}
use mathlib.Core.Path.{sym, ap, ◌∙◌}
use mathlib.Core.Logic.{inl, inr, ⊎_elim}
use Prim.Native.Nat.{ℕ}
use lib.Dec.{eqb}
use borrow.Author.Tests.{eqb-true}
use Rattle.objects.specs.Decode.{kind_bits}
use Rattle.objects.proofs.Cases.{kind_of_object, kind_of_none}
use Rattle.objects.proofs.Saying.{decoded_is}
use Rattle.demands.specs.KindsAgree.{IsKindAgrees, IsKindNotAllowed}

pub is_kind_agrees : IsKindAgrees
is_kind_agrees w kind o r d e = e ∙ ap (λ (n : ℕ). eqb n kind) (kind_of_object w o (sym (decoded_is w (Some o) d)))

pub is_kind_not_allowed : IsKindNotAllowed
is_kind_not_allowed w kind d e =
    let same = eqb-true (kind_bits w) kind (sym e) in
    ⊎_elim (λ q. inl (sym same ∙ q)) (λ q. inr (sym same ∙ q)) (kind_of_none w (sym (decoded_is w None d)))
