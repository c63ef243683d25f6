-- `ports::power::object_power` meets its contract: by the kind of the request.
-- Assumes nothing.
use mathlib.Core.Path.{◌≡◌, sym, ◌∙◌, ap}
use Prim.Native.Nat.{ℕ}
use Rattle.objects.specs.declared.Object.{Object}
use Rattle.requests.specs.declared.Asked.{Asked}
use Rattle.requests.specs.Taking.{request_of, taken_apart}
use Rattle.ports.proofs.Powers.{of_pps_lem, of_avs_lem, of_fixed_lem, no_voltage, fixed_alone}
use Rattle.ports.proofs.power.object_power.Goals as goal

-- what was taken apart is the request to this object
asked_is : (o : Object) (w : ℕ) (a : Asked) → a ≡ taken_apart o w → request_of o w ≡ a.request
unfolding taken_apart
asked_is o w a e = sym (ap (λ (b : Asked). b.request) e)

pub returns-in-Fixed-o : goal.returns-in-Fixed-o
returns-in-Fixed-o c =
    let x = c.args in
    c.fixed_power.ensures ∙ of_fixed_lem x.word x.present.0 x.o _ _ _ _ _ _ c.in-Fixed-o.is (asked_is _ _ _ c.take_apart.ensures ∙ c.in-Fixed.is)

pub returns-in_default : goal.returns-in_default
returns-in_default c =
    let x = c.args in
    fixed_alone x.word x.present.0 x.o _ _ (asked_is _ _ _ c.take_apart.ensures ∙ c.in-Fixed.is) c.in_default.not-Fixed

pub returns-in-Battery : goal.returns-in-Battery
returns-in-Battery c =
    let x = c.args in
    no_voltage x.word x.present.0 x.o (asked_is _ _ _ c.take_apart.ensures) c.in-Battery.is

pub returns-in-Pps : goal.returns-in-Pps
returns-in-Pps c =
    let x = c.args in
    c.pps_power.ensures ∙ of_pps_lem x.word x.present.0 x.o _ _ (asked_is _ _ _ c.take_apart.ensures ∙ c.in-Pps.is)

pub returns-in-Avs : goal.returns-in-Avs
returns-in-Avs c =
    let x = c.args in
    c.avs_power.ensures ∙ of_avs_lem x.word x.present.0 x.o _ _ (asked_is _ _ _ c.take_apart.ensures ∙ c.in-Avs.is)
