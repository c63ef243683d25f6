-- Proves the claim of specs/MarkedCases.antt.
-- Assumes nothing.
use mathlib.Core.Path.{refl}
use Rattle.verdicts.specs.Refusals.{first_of, each_place}
use Rattle.steps.specs.Rounding.{down_of, up_of}
use Rattle.objects.specs.Bits.{bits}
use Rattle.objects.specs.Decode.{decode_of}
use Rattle.objects.specs.Reserved.{reserved_set}
use Rattle.objects.specs.Encode.{word_of}
use Rattle.lists.specs.ObjectRules.{out_of_bounds, over_100_W, may_follow}
use Rattle.lists.specs.Shape.{is_fixed_5_V, has_fixed, avs_differs}
use Rattle.lists.specs.Seven.{seven_to}
use Rattle.rules.specs.Profiles.{default_of}
use Rattle.rules.specs.Tables.{base_slots, prog_slots}
use Rattle.rules.specs.Currents.{built_current, prog_current}
use Rattle.rules.specs.Building.{object_for, built_of}
use Rattle.lines.specs.Text.{hex_word}
use Rattle.printed.specs.Printed.{printed_of}
use Rattle.requests.specs.Limits.{avs_top, avs_limit}
use Rattle.requests.specs.Answering.{answer_of}
use Rattle.messages.specs.Reading.{message_read_of}
use Rattle.messages.specs.Writing.{written_of, buffer_after}
use Rattle.ports.specs.Rows.{together, besides, emptied, present_for, offering, holding}
use Rattle.ports.specs.Soundness.{sound_row}
use Rattle.ports.specs.RuleLists.{rule_pps, rule_profile}
use Rattle.ports.specs.Requests.{power_of, held_for}
use Rattle.ports.specs.Lending.{set_up_answer, set_up_rows, attach_answer, attach_rows, advertise_answer, advertise_rows, request_answer, request_rows}
use Rattle.demands.specs.MarkedCases.{MarkedCases}

pub marked_cases : MarkedCases
unfolding printed_of hex_word first_of each_place bits decode_of reserved_set out_of_bounds over_100_W may_follow is_fixed_5_V has_fixed avs_differs avs_top avs_limit answer_of seven_to down_of up_of word_of default_of base_slots prog_slots built_current prog_current object_for built_of together besides emptied present_for offering holding sound_row rule_pps rule_profile power_of held_for set_up_answer set_up_rows attach_answer attach_rows advertise_answer advertise_rows request_answer request_rows message_read_of written_of buffer_after
marked_cases = refl
