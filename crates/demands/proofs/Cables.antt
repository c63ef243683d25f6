-- Proves the claims of specs/Cables.antt.
-- Assumes nothing.
use mathlib.Core.Path.{◌≡◌, refl, sym, ap, ◌∙◌, subst}
use mathlib.Core.Bool.{Bool, true, false, not, cond, true≢false}
use mathlib.Core.Logic.{◌↔◌, ◌⊎◌, ⊎_elim}
use Prim.Native.Nat.{ℕ, ◌+◌, ◌*◌, ◌≤◌, min}
use native.Mathlib.Nat.{le_antisymm, min-le_left, min-le_right, min-eq_left, min-eq_right}
use native.Mathlib.Omega.{arith}
use lib.Dec.{leb, eqb}
use lib.ListN.{get_or}
use borrow.Author.Tests.{le-leb, lt-leb, leb-true, leb-false}
use Rattle.verdicts.specs.Refusals.{success, NoneApply}
use Rattle.verdicts.proofs.First.{all_missed, none_left, none_right}
use Rattle.steps.specs.Ranges.{within}
use Rattle.steps.proofs.RoundingLaws.{down_under, down_greatest, down_le_up}
use Rattle.objects.proofs.Saying.{decoded_is}
use Rattle.lists.specs.declared.Words.{Words}
use Rattle.lists.specs.declared.Listing.{Listing}
use Rattle.rules.specs.declared.Profile.{Profile}
use Rattle.rules.specs.Profiles.{in_10_mA, build_refusals}
use Rattle.rules.specs.Tables.{Slot, Nothing, Fixed, Avs, Prog, slots}
use Rattle.rules.specs.Currents.{down_at, up_at, rounded_as, built_current, above_3_A, fixed_allowed, prog_down, cable_in_whole_50_mA, prog_current}
use Rattle.rules.specs.Building.{object_for, built_words, built_of}
use Rattle.rules.proofs.Allowed.{limit_3_A, above_3_A_means, up_from_3_A, up_to_300}
use Rattle.rules.proofs.Slots.{slot_good}
use Rattle.rules.proofs.Built.{current_within_cable, prog_within_cable}
use Rattle.rules.proofs.BuiltPasses.{good, known}
use Rattle.lists.specs.Writing.{write_refused}
use Rattle.ports.specs.declared.Row.{Row}
use Rattle.ports.specs.Rows.{port_row, offering, offered}
use Rattle.ports.specs.RuleLists.{rule_profile, rule_list}
use Rattle.ports.specs.Refusing.{port_refusals, cannot_attach, attach_refusals, use_refusals}
use Rattle.ports.specs.Lending.{attach_answer, advertise_answer, offered_again}
use Rattle.ports.proofs.Passing.{use_port, cable_kept}
use Rattle.ports.proofs.Offering.{list_offered}
use Rattle.demands.specs.Cables.{
  CarriedBy,
  Carried,
  EachCarried,
  BuiltWithinCable,
  AttachedWithinCable,
  AdvertisedWithinCable,
  AllowedWithinCable,
  ProgAllowedWithinCable,
  GreatestIn50mA,
  OneFigureBelow3A,
  BuiltFrom3A,
  AllowedFrom3A,
  AllowedUncut,
  ProgFrom3A,
  CableByte,
}
use Rattle.demands.proofs.SharingRefusals.{attach_refusals_lem, advertise_refusals}
use Rattle.demands.proofs.PowerRules.{built_clear, built_list, cut_roundings, allowed_past_3_A, allowed_to_3_A, prog_allowed_exactly}

-- ---- no built current passes the cable

module _ (p : Profile) where
  second_carried : (past15V : Bool) → cond past15V (built_current p 20) 0 * 10 ≤ p.cable.0 * 10
  second_carried true = omega (arith, current_within_cable p 20)
  second_carried false = omega arith

  object_carried : (first : Bool) (s : Slot) → slot_good s ≡ true → CarriedBy p.cable (object_for p first s)
  unfolding object_for
  object_carried first Nothing g = absurd (true≢false (sym g))
  object_carried first (Fixed volts) g = omega (arith, current_within_cable p volts)
  object_carried first (Avs past15V) g = (omega (arith, current_within_cable p 15), second_carried past15V)
  object_carried first (Prog volts top) g = omega (arith, prog_within_cable p volts)

  words_carried : NoneApply (build_refusals p) → EachCarried p.cable (built_words p)
  words_carried b k h d e =
      let slot = get_or (slots p.max.0) k Nothing in
      subst (Carried p.cable) (sym (decoded_is _ d e ∙ known p b k h)) (object_carried (eqb k 0) slot (good p b k h))

pub built_within_cable : BuiltWithinCable
built_within_cable p b e s = subst (EachCarried p.cable) (sym (built_list p b e s)) (words_carried p (built_clear p b e s))

-- and so of the rule list of a row
rule_list_carried : (y : Row) → built_of (rule_profile y) ≡ record { verdict = success; list = rule_list y } → EachCarried y.cable (rule_list y)
unfolding rule_profile
rule_list_carried y e = built_within_cable (rule_profile y) (built_of (rule_profile y)) refl (ap (λ (l : Listing). l.verdict) e)

listed : {n : Words} {r : Listing} → r ≡ record { verdict = success; list = n } → n ≡ r.list
listed e = sym (ap (λ (l : Listing). l.list) e)

pub attached_within_cable : AttachedWithinCable
unfolding attach_answer offering
attached_within_cable ys capacity port cable r zs e s =
    let x = (attach_refusals_lem ys capacity port cable r zs e).0.0.0 s in
    let to-port = none_left (port_refusals capacity ys port) (cannot_attach (port_row ys port) port cable) x in
    let good = (none_right (port_refusals capacity ys port) (cannot_attach (port_row ys port) port cable) x).0 in
    subst (EachCarried (in_10_mA cable)) (listed (e.0 ∙ all_missed write_refused _ (attach_refusals capacity ys port cable) x))
    (rule_list_carried (offered capacity ys port cable) (list_offered capacity ys port to-port cable good))

pub advertised_within_cable : AdvertisedWithinCable
unfolding advertise_answer offering
advertised_within_cable ys capacity port r zs e s =
    let x = (advertise_refusals ys capacity port r zs e).0.0.0 s in
    subst (EachCarried (port_row ys port).cable) (listed (e.0 ∙ all_missed write_refused _ (use_refusals capacity ys port) x))
    (rule_list_carried (offered_again capacity ys port)
    (list_offered capacity ys port (use_port capacity ys port x) (port_row ys port).cable.0 (cable_kept capacity ys port x)))

-- ---- and no allowed one does

pub allowed_within_cable : AllowedWithinCable
allowed_within_cable p volts a e = go (above_3_A p volts) refl where
  cable : ℕ
  cable = p.cable.0

  go : (b : Bool) → above_3_A p volts ≡ b → a * 10 ≤ cable * 10
  go true t =
      let s = above_3_A_means p volts t in
      omega (arith, ((allowed_past_3_A p volts a s.0 s.1).0 e).1, min-le_left cable (up_at p volts))
  go false t =
      ⊎_elim (λ z. omega (arith, z, min-le_right (down_at p volts) cable)) (λ z. omega (arith, z, min-le_right (up_at p volts) cable))
      ((cut_roundings p volts a t).0 e)

pub prog_allowed_within_cable : ProgAllowedWithinCable
prog_allowed_within_cable p volts a e =
    ⊎_elim (λ z. omega (arith, z, prog_within_cable p volts))
    (λ z. omega (arith, z.1.1, min-le_right (prog_down p volts) (cable_in_whole_50_mA p), down_under p.cable.0 5))
    ((prog_allowed_exactly p volts a).0 e)

-- ---- the cable in whole 50 mA

pub greatest_in_50_mA : GreatestIn50mA
greatest_in_50_mA p n = (
  (λ h. omega (arith, down_under p.cable.0 5)),
  (λ h. down_greatest p.cable.0 5 n (omega arith) (omega arith)),
)

-- ---- a cable below 3 A

pub one_figure_below_3_A : OneFigureBelow3A
one_figure_below_3_A p volts a c f pos h =
    let cable = p.cable.0 in
    let low : min 300 cable ≡ cable = min-eq_right (omega (arith, c)) in
    let top : min cable (up_at p volts) ≡ cable = min-eq_left (omega (arith, c, up_from_3_A p volts pos h)) in
    let past = allowed_past_3_A p volts a f h in (
      (λ e. le_antisymm (subst (λ (n : ℕ). a ≤ n) top (past.0 e).1) (subst (λ (n : ℕ). n ≤ a) low (past.0 e).0)),
      (λ e. past.1 (omega (arith, low, e), omega (arith, top, e))),
    )

-- ---- a cable of 3 A or more

pub built_from_3_A : BuiltFrom3A
unfolding built_current
built_from_3_A p volts c f =
    ap (min (rounded_as p.rounding (down_at p volts) (up_at p volts))) (limit_3_A volts 300 p.cable.0 f ∙ min-eq_left c)

pub allowed_from_3_A : AllowedFrom3A
allowed_from_3_A p volts a c f h =
    subst (λ (low : ℕ). (fixed_allowed p volts a ≡ true) ↔ ((low ≤ a) × (a ≤ min p.cable.0 (up_at p volts)))) (min-eq_left c)
    (allowed_past_3_A p volts a f h)

pub allowed_uncut : AllowedUncut
allowed_uncut p volts a c f pos h =
    let up : up_at p volts ≤ p.cable.0 = omega (arith, up_to_300 p volts pos h) in
    let down : down_at p volts ≤ p.cable.0 = omega (arith, down_le_up (50 * p.present.0) volts) in
    subst (λ (n : ℕ). (fixed_allowed p volts a ≡ true) ↔ ((a ≡ n) ⊎ (a ≡ up_at p volts))) (min-eq_left down)
    (subst (λ (n : ℕ). (fixed_allowed p volts a ≡ true) ↔ ((a ≡ min (down_at p volts) p.cable.0) ⊎ (a ≡ n))) (min-eq_left up)
    (allowed_to_3_A p volts a f h))

pub prog_from_3_A : ProgFrom3A
unfolding prog_current
prog_from_3_A p volts c f =
    ap (min (prog_down p volts))
    (limit_3_A volts 60 (cable_in_whole_50_mA p) f ∙ min-eq_left (down_greatest p.cable.0 5 60 (omega arith) (omega arith)))

-- ---- the byte of the record

pub cable_byte : CableByte
cable_byte s at = ap not (go (get_or s (at + 4) 0)) where
  tenfold : (low n : ℕ) → leb (low * 10) (n * 10) ≡ leb low n
  tenfold low n = case (leb low n) refl where
    case : (b : Bool) → leb low n ≡ b → leb (low * 10) (n * 10) ≡ leb low n
    case true e = le-leb (low * 10) (n * 10) (omega (arith, leb-true low n e)) ∙ sym e
    case false e = lt-leb (low * 10) (n * 10) (omega (arith, leb-false low n e)) ∙ sym e

  go : (byte : ℕ) → within 100 500 (byte * 10) ≡ within 10 50 byte
  go byte = rw (tenfold 10 byte, tenfold byte 50)
