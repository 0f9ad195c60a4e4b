-- What a scan of a literal tells, as a row of eleven numbers, for the C names; and what such a name leaves.
use Rattle.std.specs.Prelude.{ℕ, List, [], ◌∷◌, ◌≡◌}
use Rattle.literal.specs.Cut.{wrote}
use Rattle.literal.specs.Told.{Told, told, refusal_number}
use Rattle.literal.specs.Trace.{Trace}
use Rattle.literal.specs.Scans.{Scanned}
use Rattle.numbers.specs.Answer.{flag, answered, beside}
use Rattle.c_answer.specs.Packed.{packed}
use Rattle.c_answer.specs.Short.{returned_or}

-- the number; the offset, the position reached, the first place; the record's character and its count; the body's length; whether `${` ended it; the fault's place, and the offset and length of its part
abbrev pub literal_numbers : Told → List ℕ
literal_numbers t =
    t.number
    ∷ t.cursor.at
    ∷ packed t.cursor.place
    ∷ packed t.first
    ∷ t.terminator.c
    ∷ t.terminator.times
    ∷ t.len
    ∷ flag t.interpolated
    ∷ packed t.place
    ∷ t.about.at
    ∷ t.about.len
    ∷ []

-- the row of an answer
unfoldable pub literal_row : Scanned → List ℕ
literal_row s = literal_numbers (told s)

-- what the C name of a scan leaves, s being the scan's answer, t its reading, and e the answer of the same scan with one byte of room: r is returned, and `out`, lent for the body, and `answer`, lent for the row, then hold out' and answer'
pub record ScanLeaves (s e : Scanned) (t : Trace) (out answer : List ℕ) (r : ℕ) (out' answer' : List ℕ) : Type 0 where
  pub number : r ≡ returned_or (refusal_number e) (literal_row s) answer
  pub body : out' ≡ beside (literal_row s) answer out (wrote s t out)
  pub row : answer' ≡ answered (literal_row s) answer
