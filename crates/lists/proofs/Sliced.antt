-- A slice of the words that count has the rows of the list.
-- Assumes nothing.
use mathlib.Core.Path.{◌≡◌, ap, ◌∙◌}
use mathlib.Core.List.{List}
use Prim.Native.Nat.{ℕ, ◌≤◌, ◌<◌}
use lib.ListN.{get_or, length, take}
use Rattle.std.proofs.lemmas.List.{get_or-take, length-take-le}
use Rattle.verdicts.specs.Refusals.{each_place}
use Rattle.verdicts.proofs.First.{same_places}
use Rattle.objects.specs.declared.Side.{Side}
use Rattle.lists.specs.declared.Words.{Words}
use Rattle.lists.specs.Shape.{word_rows, agreement_rows}
use Rattle.lists.specs.Scanning.{all_counting}
use Rattle.lists.proofs.Shapes.{words_part}
use Rattle.lists.proofs.Unread.{counting, same_word_rows, same_agreement}

module _ (side : Side) (l : Words) (h : l.count ≤ length l.words) where
  abbrev slice : List ℕ
  slice = take l.count l.words

  long : length slice ≡ l.count
  long = length-take-le l.count l.words h

  same : (k : ℕ) → k < l.count → get_or slice k 0 ≡ get_or l.words k 0
  same k b = get_or-take l.count l.words k 0 b

  pub sliced_words : each_place (word_rows side slice) (length slice) ≡ words_part side l
  sliced_words =
      ap (λ (n : ℕ). each_place (word_rows side slice) n) long
      ∙ same_places (word_rows side slice) (word_rows side l.words) l.count (same_word_rows side slice l.words l.count same)

  pub sliced_agreement : agreement_rows side (all_counting slice) ≡ agreement_rows side l
  sliced_agreement = ap (λ (n : ℕ). agreement_rows side (counting slice n)) long ∙ same_agreement slice l.words l.count same side
