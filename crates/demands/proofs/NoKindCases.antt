-- Proves the claim of specs/NoKindCases.antt.
-- Assumes nothing.
use mathlib.Core.Path.{refl}
use Rattle.verdicts.specs.Refusals.{first_of, each_place}
use Rattle.objects.specs.Bits.{bits}
use Rattle.objects.specs.Decode.{decode_of}
use Rattle.objects.specs.Reserved.{reserved_set}
use Rattle.objects.specs.Encode.{word_of}
use Rattle.lists.specs.ObjectRules.{out_of_bounds, over_100_W, may_follow}
use Rattle.lists.specs.Shape.{is_fixed_5_V, has_fixed, avs_differs}
use Rattle.lists.specs.Seven.{seven_to}
use Rattle.lists.specs.Writing.{written_from}
use Rattle.flat.specs.Flat.{raised_of}
use Rattle.demands.specs.NoKindCases.{WriteOrder}

pub write_order : WriteOrder
unfolding first_of each_place bits decode_of reserved_set word_of out_of_bounds over_100_W may_follow is_fixed_5_V has_fixed avs_differs seven_to raised_of written_from
write_order = refl
