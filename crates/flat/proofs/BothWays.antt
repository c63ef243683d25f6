-- One object, both ways: what was flattened is raised to the same object, and what was raised is flattened to its own fields.
-- Assumes nothing.
use Rattle.std.specs.Prelude.{Some, Option, None}
use mathlib.Core.Path.{◌≡◌, refl, ap, sym, ◌∙◌, subst}
use mathlib.Core.Bool.{Bool, true, false}
use mathlib.Core.Logic.{◌↔◌}
use Prim.Native.Nat.{ℕ, zero, suc, ◌<◌}
use native.Mathlib.Omega.{arith}
use lib.Dec.{eqb}
use borrow.Author.Tests.{eqb-true, eqb-false}
use Rattle.objects.specs.declared.Side.{Side}
use Rattle.objects.specs.declared.Side.TheVariants.{Source, Sink}
use Rattle.objects.specs.declared.Object.{Object}
use Rattle.objects.specs.declared.Object.TheVariants.{Fixed, Battery, Variable, Pps, Avs}
use Rattle.objects.proofs.Sides.{Bare}
use Rattle.flat.specs.declared.FlatObject.{FlatObject}
use Rattle.flat.specs.Flat.{flat_of, raised_by, raised_of, sink_raised_by, sink_raised, raised_for, raised_says, last_kind, own_by, own_fields, bare_flat, own_for}
use Rattle.objects.specs.Decode.{zero_object, allowed_for}

pub raised_by_lem : (x : FlatObject) (k : ℕ) → x.kind ≡ k → raised_of x ≡ raised_by k x
unfolding raised_of
raised_by_lem x k e = ap (λ (n : ℕ). raised_by n x) e

pub raised_unknown : (x : FlatObject) (k : ℕ) → x.kind ≡ k → (k ≡ 0 → ⊥) → (k ≡ 1 → ⊥) → (k ≡ 2 → ⊥) → (k ≡ 3 → ⊥) → (k ≡ 4 → ⊥) → raised_of x ≡ None
raised_unknown x k e a b d f g = raised_by_lem x k e ∙ go k a b d f g where
  go : (k : ℕ) → (k ≡ 0 → ⊥) → (k ≡ 1 → ⊥) → (k ≡ 2 → ⊥) → (k ≡ 3 → ⊥) → (k ≡ 4 → ⊥) → raised_by k x ≡ None
  go zero a b d f g = absurd (a refl)
  go (suc zero) a b d f g = absurd (b refl)
  go (suc (suc zero)) a b d f g = absurd (d refl)
  go (suc (suc (suc zero))) a b d f g = absurd (f refl)
  go (suc (suc (suc (suc zero)))) a b d f g = absurd (g refl)
  go (suc (suc (suc (suc (suc k))))) a b d f g = refl

pub raise_flat : (o : Object) → raised_of (flat_of o) ≡ Some o
unfolding raised_of flat_of
raise_flat (Fixed f p v a) = refl
raise_flat (Battery x m p) = refl
raise_flat (Variable x m a) = refl
raise_flat (Pps l x m a) = refl
raise_flat (Avs p l h) = refl

abbrev flat_in : Option Object → FlatObject
flat_in (Some o) = flat_of o
flat_in None = flat_of zero_object

-- an object that is raised is of the kind whose fields it has, and flattens to just these
pub flat_raise : (x : FlatObject) (o : Object) → raised_of x ≡ Some o → flat_of o ≡ own_fields x
unfolding raised_of flat_of
flat_raise x o e = go x.kind e where
  go : (k : ℕ) → raised_by k x ≡ Some o → flat_of o ≡ own_by k x
  go zero e = ap flat_in (sym e)
  go (suc zero) e = ap flat_in (sym e)
  go (suc (suc zero)) e = ap flat_in (sym e)
  go (suc (suc (suc zero))) e = ap flat_in (sym e)
  go (suc (suc (suc (suc zero)))) e = ap flat_in (sym e)
  go (suc (suc (suc (suc (suc k))))) e = let z : ◌≡◌ {A = ℕ} 0 1 = cc in absurd (omega arith)

-- so where the fields that the kind does not have are zero, the flat object comes back
pub flat_raise_same : (x : FlatObject) (o : Object) → raised_of x ≡ Some o → own_fields x ≡ x → flat_of o ≡ x
flat_raise_same x o e own = flat_raise x o e ∙ own

-- ---- in the list of a sink

pub sink_avs : (x : FlatObject) → x.kind ≡ 4 → sink_raised x ≡ None
unfolding sink_raised
sink_avs x e = ap (λ (k : ℕ). sink_raised_by k x) e

pub sink_others : (x : FlatObject) → (x.kind ≡ 4 → ⊥) → raised_of (bare_flat x) ≡ sink_raised x
unfolding raised_of sink_raised
sink_others x f = go x.kind f where
  go : (k : ℕ) → (k ≡ 4 → ⊥) → raised_by k (bare_flat x) ≡ sink_raised_by k x
  go zero f = refl
  go (suc zero) f = refl
  go (suc (suc zero)) f = refl
  go (suc (suc (suc zero))) f = refl
  go (suc (suc (suc (suc zero)))) f = absurd (f refl)
  go (suc (suc (suc (suc (suc k))))) f = refl

-- what is raised is flattened to what its side keeps
pub flat_raise_for : (side : Side) (x : FlatObject) (o : Object) → raised_for side x ≡ Some o → flat_of o ≡ own_for side x
flat_raise_for Source x o e = flat_raise x o e
flat_raise_for Sink x o e = go (eqb x.kind 4) refl where
  go : (b : Bool) → eqb x.kind 4 ≡ b → flat_of o ≡ own_for Sink x
  go true q = let z : None ≡ Some o = sym (sink_avs x (eqb-true x.kind 4 q)) ∙ e in cc
  go false q = flat_raise (bare_flat x) o (sink_others x (eqb-false x.kind 4 q) ∙ e)

-- what is flattened is raised to the same object, in the list of a sink where it has nothing that no sink has
pub raise_flat_for : (o : Object) → Bare o → allowed_for Sink (Some o) ≡ Some o → raised_for Sink (flat_of o) ≡ Some o
unfolding sink_raised flat_of
raise_flat_for (Fixed f p v a) b e = ap (λ (n : ℕ). Some (Fixed f n v a)) (sym b)
raise_flat_for (Battery x m p) b e = refl
raise_flat_for (Variable x m a) b e = refl
raise_flat_for (Pps l x m a) b e = ap (λ (n : ℕ). Some (Pps n x m a)) (sym b)
raise_flat_for (Avs p l h) b e = cc

-- an object that is raised is of a kind that its side has
abbrev SinkHas : Option Object → Type 0
SinkHas (Some o) = allowed_for Sink (Some o) ≡ Some o
SinkHas None = Unit {0}

sink_has : (k : ℕ) (x : FlatObject) → SinkHas (sink_raised_by k x)
sink_has zero x = refl
sink_has (suc zero) x = refl
sink_has (suc (suc zero)) x = refl
sink_has (suc (suc (suc zero))) x = refl
sink_has (suc (suc (suc (suc k)))) x = tt

pub side_has : (side : Side) (x : FlatObject) (o : Object) → raised_for side x ≡ Some o → allowed_for side (Some o) ≡ Some o
unfolding sink_raised
side_has Source x o e = refl
side_has Sink x o e = subst SinkHas e (sink_has x.kind x)

-- the refusal number of an answer
abbrev pub raised_number : Option Object → ℕ
raised_number r = (raised_says r).0

none : {P : Type 0} → ◌≡◌ {A = ℕ} 0 12 → P
none e = absurd (omega arith)

-- 12 exactly for a kind number that the side does not have
source_refuses : (k : ℕ) (x : FlatObject) → raised_number (raised_by k x) ≡ 12 ↔ (4 < k)
source_refuses zero x = ((λ e. none e), (λ h. absurd (omega arith)))
source_refuses (suc zero) x = ((λ e. none e), (λ h. absurd (omega arith)))
source_refuses (suc (suc zero)) x = ((λ e. none e), (λ h. absurd (omega arith)))
source_refuses (suc (suc (suc zero))) x = ((λ e. none e), (λ h. absurd (omega arith)))
source_refuses (suc (suc (suc (suc zero)))) x = ((λ e. none e), (λ h. absurd (omega arith)))
source_refuses (suc (suc (suc (suc (suc k))))) x = ((λ e. omega arith), (λ h. refl))

sink_refuses : (k : ℕ) (x : FlatObject) → raised_number (sink_raised_by k x) ≡ 12 ↔ (3 < k)
sink_refuses zero x = ((λ e. none e), (λ h. absurd (omega arith)))
sink_refuses (suc zero) x = ((λ e. none e), (λ h. absurd (omega arith)))
sink_refuses (suc (suc zero)) x = ((λ e. none e), (λ h. absurd (omega arith)))
sink_refuses (suc (suc (suc zero))) x = ((λ e. none e), (λ h. absurd (omega arith)))
sink_refuses (suc (suc (suc (suc k)))) x = ((λ e. omega arith), (λ h. refl))

pub raise_refuses : (side : Side) (x : FlatObject) → raised_number (raised_for side x) ≡ 12 ↔ (last_kind side < x.kind)
unfolding raised_of sink_raised
raise_refuses Source x = source_refuses x.kind x
raise_refuses Sink x = sink_refuses x.kind x
