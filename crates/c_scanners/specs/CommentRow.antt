-- What the scan of a block comment tells, as a row of four numbers, for its C name.
use Rattle.std.specs.Prelude.{ℕ, List, [], ◌∷◌}
use Rattle.basis.specs.Types.{Text, Offset}
use Rattle.position.specs.Place.{given}
use Rattle.chars.specs.Cursors.{cursor}
use Rattle.comment.specs.Block.{Told, told, scan_block_comment_of}
use Rattle.c_answer.specs.Packed.{packed}

-- the number, the level still open, the offset, the position
abbrev pub comment_numbers : Told → List ℕ
comment_numbers t = t.number ∷ t.level ∷ t.cursor.at ∷ packed t.cursor.place ∷ []

-- the row of a scan from an offset, a line and a column, with so many levels open
unfoldable pub comment_row : Text → Offset → ℕ → ℕ → ℕ → List ℕ
comment_row t at l c level = comment_numbers (told level (cursor at (given l c)) (scan_block_comment_of t at (given l c) level))
