-- `rules::rows::RailRow::word` meets its contract: the word of the fixed object of its row.
-- Assumes nothing.
use mathlib.Core.Path.{ap, ap₂, ◌∙◌}
use Prim.Native.Nat.{ℕ, ◌*◌}
use Rattle.objects.specs.declared.Object.TheVariants as object
use Rattle.objects.specs.Encode.{encode_of}
use Rattle.objects.proofs.Saying.{encoded_is}
use Rattle.lists.specs.Writing.{word_in}
use Rattle.rules.specs.Building.{object_for}
use Rattle.rules.proofs.rows.RailRow.word.Goals as goal

pub returns : goal.returns
unfolding object_for
returns c =
    let x = c.args in
    c.word_in.ensures
    ∙ ap word_in (encoded_is (object.Fixed c.flags_at-flags.result 0 (record { 0 = x.self.volts * 20 }) c.built_current-current.result)
    c.fixed_word-e.result c.fixed_word-e.ensures)
    ∙ ap₂ (λ (f a : ℕ). word_in (encode_of (object.Fixed f 0 (record { 0 = x.self.volts * 20 }) (record { 0 = a }))))
    c.flags_at-flags.ensures c.built_current-current.ensures
