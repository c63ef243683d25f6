-- Places past the count are not read: lists that agree up to the count answer a request alike. A request names a word by its position,
-- and the word is read only where the position is 1..count.
-- Assumes nothing.
use mathlib.Core.Path.{◌≡◌, refl, sym, ap, ◌∙◌}
use mathlib.Core.Bool.{Bool, true, false}
use mathlib.Core.List.{List, ◌∷◌}
use Prim.Native.Nat.{ℕ, ◌-◌, ◌<◌}
use lib.ListN.{get_or}
use Rattle.verdicts.specs.Refusals.{Refusal, refusal, verdict, success, verdict_of}
use Rattle.verdicts.proofs.First.{hit}
use Rattle.objects.specs.declared.Side.TheVariants.{Source}
use Rattle.objects.specs.Decode.{decode_of}
use Rattle.lists.specs.declared.Words.{Words}
use Rattle.lists.specs.Unread.{AgreeWords}
use Rattle.lists.proofs.Unread.{counting, recounted, same_past_shape}
use Rattle.requests.specs.Taking.{position_of}
use Rattle.requests.specs.Answering.{bad_position, named_refusals, object_refusals, answer_of}
use Rattle.requests.proofs.Answers.{position_inside}

module _ (ws vs : List ℕ) (n : ℕ) (e : (k : ℕ) → k < n → get_or ws k 0 ≡ get_or vs k 0) (w : ℕ) where
  -- 20, and then what the object that is named refuses
  abbrev placed : List ℕ → List Refusal
  placed us = refusal (bad_position n (position_of w)) 20 0 ∷ object_refusals (counting us n) w

  same_placed : verdict_of (placed ws) ≡ verdict_of (placed vs)
  same_placed = go (bad_position n (position_of w)) refl where
    go : (b : Bool) → bad_position n (position_of w) ≡ b → verdict_of (placed ws) ≡ verdict_of (placed vs)
    go true b = hit verdict success 20 0 _ b ∙ sym (hit verdict success 20 0 _ b)
    go false b =
        ap (λ (named : ℕ). verdict_of (refusal (bad_position n (position_of w)) 20 0 ∷ named_refusals (decode_of named) w))
        (e (position_of w - 1) (position_inside n (position_of w) b))

  same_answer : answer_of (counting ws n) w ≡ answer_of (counting vs n) w
  unfolding answer_of
  same_answer = same_past_shape Source ws vs n e verdict success (placed ws) (placed vs) same_placed

pub answer_unread : (w : ℕ) (l m : Words) → AgreeWords l m → answer_of l w ≡ answer_of m w
answer_unread w l m a =
    same_answer l.words m.words l.count a.words w ∙ recounted (λ (k : Words). answer_of k w) l m a
