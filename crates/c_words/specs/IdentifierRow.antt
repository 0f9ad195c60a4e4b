-- What the scan of an identifier tells, as a row of eight numbers, for its C name.
use Rattle.std.specs.Prelude.{ℕ, List, [], ◌∷◌}
use Rattle.basis.specs.Types.{Text, Bytes, Offset}
use Rattle.position.specs.Place.{given}
use Rattle.identifier.specs.Identifiers.{identifier_of}
use Rattle.identifier.specs.Told.{Told, told}
use Rattle.c_answer.specs.Packed.{packed}

-- the number, the kind, the token; the offset and the position reached; the fault's place, and the offset and length of its part
abbrev pub identifier_numbers : Told → List ℕ
identifier_numbers t =
    t.number
    ∷ t.kind
    ∷ t.token
    ∷ t.cursor.at
    ∷ packed t.cursor.place
    ∷ packed t.place
    ∷ t.about.at
    ∷ t.about.len
    ∷ []

-- the row of a scan from an offset, a line and a column, under a book
unfoldable pub identifier_row : Text → Offset → ℕ → ℕ → Bytes → List ℕ
identifier_row t at l c book = identifier_numbers (told (identifier_of t at (given l c) book))
