-- A C name that answers by a row of numbers, 8 bytes each, in lent memory: where that is shorter than the row, nothing is written anywhere.
use Rattle.std.specs.Prelude.{ℕ, Bool, true, false, List, ltb, length}
use Rattle.basis.specs.Types.{Bytes}
use Rattle.basis.specs.Pick.{pick}
use Rattle.lent.specs.Written.{left_of}
use Rattle.numbers.specs.Spell.{spelled}

-- a truth value as a number: yes is 1, and no is 0
abbrev pub flag : Bool → ℕ
flag false = 0
flag true = 1

-- the memory is shorter than the row
unfoldable pub short : List ℕ → Bytes → Bool
short row memory = ltb (length memory) (length (spelled 8 row))

-- what is returned for a row that has no number of its own: 0, or 9
unfoldable pub fitted : List ℕ → Bytes → ℕ
fitted row memory = pick (short row memory) 9 0

-- what the memory holds then: the row in front and the old rest, or what it held
abbrev pub answered : List ℕ → Bytes → Bytes
answered row memory = left_of (spelled 8 row) memory

-- what other memory holds then: what the work leaves there, or what it held
unfoldable pub beside : List ℕ → Bytes → Bytes → Bytes → Bytes
beside row memory old new = pick (short row memory) old new
