-- `sinks::sink_decode` meets its contract: the sink object is that of the object of the word, where it has one.
-- Assumes nothing.
use Rattle.std.specs.Prelude.{Option, Some}
use Rattle.std.specs.Result.{result_ok}
use mathlib.Core.Path.{◌≡◌, refl, ap, sym, ◌∙◌}
use Prim.Native.Nat.{ℕ}
use Rattle.objects.specs.declared.Side.TheVariants.{Sink}
use Rattle.objects.specs.declared.Object.{Object}
use Rattle.objects.specs.declared.Object.TheVariants as source
use Rattle.objects.specs.Decode.{decode_for}
use Rattle.objects.proofs.Saying.{decoded_for}
use Rattle.sinks.specs.SinkWords.{sink_decoded_says, sink_word_says, of_sink}
use Rattle.sinks.proofs.SinkWords.{as_sink, sink_decode_is, sink_word_says_lem}
use Rattle.sinks.proofs.sink_words.sink_decode.Goals as goal

-- what is decoded, without what no sink has, says what is to be said
says : (w : ℕ) (d : Option Object) → decode_for Sink w ≡ d → sink_decoded_says (as_sink d) ≡ sink_word_says w
says w d e = sym (sink_word_says_lem w ∙ ap sink_decoded_says (sink_decode_is w ∙ ap as_sink e))

bare : (o : Object) → result_ok (of_sink o) ≡ as_sink (Some o)
bare (source.Fixed f p v a) = refl
bare (source.Battery x m p) = refl
bare (source.Variable x m a) = refl
bare (source.Pps l x m a) = refl
bare (source.Avs p l h) = refl

pub returns : goal.returns
returns c =
    let w = c.args.w in
    let o = c.in_ok-object.object in
    ap sink_decoded_says (c.ok.ensures.value ∙ ap result_ok c.try_from.ensures ∙ bare o)
    ∙ says w (Some o) (sym (decoded_for Sink w c.decode_for.result c.decode_for.ensures) ∙ c.in_ok-object.was)
