-- What the cursor takes.
use Rattle.std.specs.Prelude.{ℕ, Option, Some}
use Rattle.chars.specs.declared.cursor.Cursor.{Cursor}

-- a character that was taken, with the cursor behind it; None where there is none
abbrev pub Taken : Type 0
Taken = Option (ℕ × Cursor)

-- the character c, and the cursor behind it
abbrev pub char_taken : ℕ → Cursor → Taken
char_taken c next = Some (c, next)
