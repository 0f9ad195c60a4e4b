-- What a C name returns that answers by a row of numbers, where the memory lent for the row is too short.
use Rattle.std.specs.Prelude.{ℕ, List, eqb, get_or}
use Rattle.basis.specs.Types.{Bytes}
use Rattle.basis.specs.Pick.{pick, either}
use Rattle.numbers.specs.Answer.{short}

-- 2, 1, 3 or 14 where one applies, else 9
unfoldable pub short_row_number : ℕ → ℕ
short_row_number n = pick (either (eqb n 1) (either (eqb n 2) (either (eqb n 3) (eqb n 14)))) n 9

-- what is returned: the row's first number; where the row has no room, what applies, n being the number that it would have
unfoldable pub returned_or : ℕ → List ℕ → Bytes → ℕ
returned_or n row memory = pick (short row memory) (short_row_number n) (get_or row 0 0)

-- of a row that is known all the same
abbrev pub returned : List ℕ → Bytes → ℕ
returned row memory = returned_or (get_or row 0 0) row memory
