-- Reading a list (STATEMENT, "Lists in hand": "It refuses exactly what the shape check refuses, with the same number and place."). The
-- objects of a sink list in the form of the source side: C takes them so.
-- Assumes nothing.
use Rattle.std.specs.Prelude.{List, ℕ, get_or, replicate, Option}
use Rattle.verdicts.specs.Refusals.{first_of, verdict, success}
use Rattle.objects.specs.declared.Side.{Side}
use Rattle.objects.specs.declared.Side.TheVariants.{Source}
use Rattle.objects.specs.declared.Object.{Object}
use Rattle.objects.specs.Decode.{decode_of, decoded_says, zero_object}
use Rattle.lists.specs.declared.Words.{Words}
use Rattle.lists.specs.declared.Place.{Place}
use Rattle.lists.specs.declared.Objects.{Objects}
use Rattle.lists.specs.declared.Reading.{Reading}
use Rattle.lists.specs.Shape.{refusals_for}
use Rattle.lists.specs.Seven.{seven_to}

-- "in a list of objects such a place is a fixed object with all its fields zero"
abbrev pub empty_place : Place
empty_place = record { object = zero_object }

abbrev pub no_objects : Objects
no_objects = record { places = replicate 7 empty_place; count = 0 }

-- the object of a word; a list whose shape passes has one in every word
abbrev pub object_of : Option Object → Object
object_of d = (decoded_says d).1

abbrev pub place_of : List ℕ → ℕ → Place
place_of ws k = record { object = object_of (decode_of (get_or ws k 0)) }

-- those of the first n words
abbrev pub objects_to : List ℕ → ℕ → Objects
objects_to ws n = record { places = seven_to (place_of ws) empty_place n; count = n }

abbrev pub objects_of : Words → Objects
objects_of l = objects_to l.words l.count

abbrev pub read_refused : ℕ → ℕ → Reading
read_refused n p = record { verdict = verdict n p; list = no_objects }

unfoldable pub read_for : Side → Words → Reading
read_for side l = first_of read_refused (refusals_for side l) (record { verdict = success; list = objects_of l })

abbrev pub read_of : Words → Reading
read_of l = read_for Source l
