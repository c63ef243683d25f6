-- The rule list of a row (STATEMENT, "Rows").
-- Assumes nothing.
use Rattle.std.specs.Prelude.{◌≡◌, false, cond, ◌&&◌, ℕ, ◌≤◌, eqb}
use Rattle.lists.specs.declared.Words.{Words}
use Rattle.rules.specs.declared.Profile.{Profile}
use Rattle.rules.specs.Profiles.{bad_cable}
use Rattle.rules.specs.Building.{built_of}
use Rattle.ports.specs.declared.Row.{Row}

-- "with PPS wherever PPS is wanted and P is equal to M"
unfoldable pub rule_pps : Row → ℕ
rule_pps y = cond (eqb y.pps 1 && eqb y.present.0 y.max.0) 1 0

-- "rounding down, without flags, and with PPS .."
unfoldable pub rule_profile : Row → Profile
rule_profile y = record {
  max = y.max;
  present = y.present;
  cable = y.cable;
  rounding = 0;
  pps = rule_pps y;
  flags = 0;
}

-- "It is not stored: it follows from the row."
abbrev pub rule_list : Row → Words
rule_list y = (built_of (rule_profile y)).list

-- a row for which a list can be built; each attached port of sound rows is one. No contract cites this
pub record Offerable (y : Row) : Type 0 where
  pub max_high : y.max.0 ≤ 200
  pub present_low : 1 ≤ y.present.0
  pub present_high : y.present.0 ≤ y.max.0
  pub good_cable : bad_cable y.cable.0 ≡ false
