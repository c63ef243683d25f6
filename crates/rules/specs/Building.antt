-- The list that is built for a profile (STATEMENT, "The builder").
-- Assumes nothing.
use Rattle.std.specs.Prelude.{◌≡◌, Bool, true, false, cond, List, ℕ, ◌+◌, ◌*◌, eqb, get_or, length, set}
use Rattle.verdicts.specs.Refusals.{first_of, success}
use Rattle.objects.specs.declared.Object.{Object}
use Rattle.objects.specs.declared.Object.TheVariants as object
use Rattle.objects.specs.Encode.{encode_of}
use Rattle.lists.specs.declared.Words.{Words}
use Rattle.lists.specs.declared.Listing.{Listing}
use Rattle.lists.specs.Seven.{seven_to}
use Rattle.objects.specs.Decode.{zero_object}
use Rattle.lists.specs.Writing.{word_in, write_refused}
use Rattle.rules.specs.declared.Profile.{Profile}
use Rattle.rules.specs.Profiles.{build_refusals}
use Rattle.rules.specs.Tables.{Slot, Nothing, Fixed, Avs, Prog, base_slots, slots}
use Rattle.rules.specs.Currents.{built_current, prog_current}

-- "The flags field of the first object is thus twice F."
abbrev pub flags_at : Bool → ℕ → ℕ
flags_at true flags = flags * 2
flags_at false flags = 0

-- the object at a slot: of a programmable supply "Its power limited bit is 1", of the others "Its peak current is 0"
unfoldable pub object_for : Profile → Bool → Slot → Object
object_for p first Nothing = zero_object
object_for p first (Fixed volts) =
    object.Fixed (flags_at first p.flags) 0 (record { 0 = volts * 20 }) (record { 0 = built_current p volts })
object_for p first (Avs past15V) =
    object.Avs 0 (record { 0 = built_current p 15 }) (record { 0 = cond past15V (built_current p 20) 0 })
object_for p first (Prog volts top) =
    object.Pps 1 (record { 0 = top }) (record { 0 = 50 }) (record { 0 = prog_current p volts })

abbrev pub slot_word : Profile → Bool → Slot → ℕ
slot_word p first s = word_in (encode_of (object_for p first s))

abbrev pub word_for : Profile → ℕ → ℕ
word_for p k = slot_word p (eqb k 0) (get_or (slots p.max.0) k Nothing)

-- "when W is 1, the programmable supplies"
abbrev pub built_count : Profile → ℕ
built_count p = cond (eqb p.pps 1) (length (slots p.max.0)) (length (base_slots p.max.0))

-- the first n places of a port's full list
abbrev pub first_words : Profile → ℕ → Words
first_words p n = record { words = seven_to (word_for p) 0 n; count = n }

abbrev pub built_words : Profile → Words
built_words p = first_words p (built_count p)

-- a word that goes to a place of the list, or does not, and the next place
pub record PutIf (goes : Bool) (word : ℕ) (before : List ℕ) (at : ℕ) (after : List ℕ) (next : ℕ) : Type 0 where
  pub words : after ≡ cond goes (set before at word) before
  pub place : next ≡ cond goes (at + 1) at

-- how the list is put down: the first n words of the full list stand there, and next is the place after them
pub record PutDown (p : Profile) (n : ℕ) (ws : List ℕ) (next : ℕ) : Type 0 where
  pub place : next ≡ n
  pub words : ws ≡ seven_to (word_for p) 0 n

unfoldable pub built_of : Profile → Listing
built_of p = first_of write_refused (build_refusals p) (record { verdict = success; list = built_words p })
