-- `rules::rows::SupplyRow::word` meets its contract: the word of the programmable supply.
-- Assumes nothing.
use mathlib.Core.Path.{ap, ◌∙◌}
use Prim.Native.Nat.{ℕ}
use Rattle.objects.specs.declared.Object.TheVariants as object
use Rattle.objects.specs.Encode.{encode_of}
use Rattle.objects.proofs.Saying.{encoded_is}
use Rattle.lists.specs.Writing.{word_in}
use Rattle.rules.specs.Building.{object_for}
use Rattle.rules.proofs.rows.SupplyRow.word.Goals as goal

pub returns : goal.returns
unfolding object_for
returns c =
    let x = c.args in
    c.word_in.ensures
    ∙ ap word_in (encoded_is (object.Pps 1 x.self.top (record { 0 = 50 }) c.prog_current-current.result)
    c.pps_word-e.result c.pps_word-e.ensures)
    ∙ ap (λ (a : ℕ). word_in (encode_of (object.Pps 1 x.self.top (record { 0 = 50 }) (record { 0 = a })))) c.prog_current-current.ensures
