-- The word of an object (STATEMENT, "Object words"): its fields at their bit places, the lowest first. "Putting an object together sets
-- its reserved bits to zero", and the kind stands last.
-- Assumes nothing.
use Rattle.std.specs.Prelude.{Bool, true, false, cond, List, [], ◌∷◌, ℕ, Option, Some, None}
use Rattle.objects.specs.Layout.{Field, field, all_fit, joined}
use Rattle.objects.specs.declared.Object.{Object}
use Rattle.objects.specs.declared.Object.TheVariants.{Fixed, Battery, Variable, Pps, Avs}

-- battery and variable share their bit places
abbrev pub three_fields : ℕ → ℕ → ℕ → ℕ → List Field
three_fields kind max min figure = field figure 9 0 ∷ field min 19 10 ∷ field max 29 20 ∷ field kind 31 30 ∷ []

abbrev pub fields_of : Object → List Field
fields_of (Fixed f p v a) =
    field a.0 9 0 ∷ field v.0 19 10 ∷ field p 21 20 ∷ field 0 22 22 ∷ field f 29 23 ∷ field 0 31 30 ∷ []
fields_of (Battery x m p) = three_fields 1 x.0 m.0 p.0
fields_of (Variable x m a) = three_fields 2 x.0 m.0 a.0
fields_of (Pps l x m a) =
    field a.0 6 0
    ∷ field 0 7 7
    ∷ field m.0 15 8
    ∷ field 0 16 16
    ∷ field x.0 24 17
    ∷ field 0 26 25
    ∷ field l 27 27
    ∷ field 0 29 28
    ∷ field 3 31 30
    ∷ []
fields_of (Avs p l h) =
    field h.0 9 0 ∷ field l.0 19 10 ∷ field 0 25 20 ∷ field p 27 26 ∷ field 2 29 28 ∷ field 3 31 30 ∷ []

abbrev pub if_fit : Bool → ℕ → Option ℕ
if_fit true w = Some w
if_fit false w = None

-- "refuses with 7 when a field does not fit its bits; nothing is cut off"
unfoldable pub word_of : List Field → Option ℕ
word_of fs = if_fit (all_fit fs) (joined fs)

abbrev pub encode_of : Object → Option ℕ
encode_of o = word_of (fields_of o)

-- ---- what each answer says: its refusal number, and the word

-- 7: "a field does not fit its bits". "On a refusal everything else in the answer is zero".
abbrev pub encoded_says : Option ℕ → ℕ × ℕ
encoded_says (Some w) = (0, w)
encoded_says None = (7, 0)

abbrev pub encoded_number : Option ℕ → ℕ
encoded_number e = (encoded_says e).0

-- what is to be said of fields that go into a word
abbrev pub fields_say : List Field → ℕ × ℕ
fields_say fs = cond (all_fit fs) (0, joined fs) (7, 0)

-- what is to be said of an object
abbrev pub object_says : Object → ℕ × ℕ
object_says o = fields_say (fields_of o)
