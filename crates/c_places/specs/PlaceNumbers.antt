-- What a place tells or may be refused, as one number each, for the C names.
use Rattle.std.specs.Prelude.{ℕ, ◌+◌, None, Some}
use Rattle.c_answer.specs.Packed.{packed, refusal_as_number}
use Rattle.places.specs.Told.{Told, told}
use Rattle.places.specs.Answer.{Placed}
use Rattle.places.specs.Answer.{Coordinate}

-- a place in the lower 32 bits, the refusal above them
abbrev pub placed_number : Told → ℕ
placed_number t = refusal_as_number t.number + packed t.place

-- a place, or the refusal
unfoldable pub placed_as_number : Placed → ℕ
placed_as_number a = placed_number (told a)

-- a number of a place; 2^32 where the place has none
unfoldable pub coordinate_as_number : Coordinate → ℕ
coordinate_as_number (Some n) = n
coordinate_as_number None = 4294967296
