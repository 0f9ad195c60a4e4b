-- The cursor, which stands in for the Rust's InputStream: `get_next` and `eat_next_and_advance`. Who looks ahead takes from a copy.
use Rattle.std.specs.Prelude.{◌+◌, None, Some}
use Rattle.basis.specs.Types.{Text, Offset}
use Rattle.position.specs.declared.Position.{Position}
use Rattle.position.specs.Place.{advanced}
use Rattle.utf8.specs.Table.{look_at}
use Rattle.utf8.specs.Looks.{Look}
use Rattle.chars.specs.declared.cursor.Cursor.{Cursor}
use Rattle.chars.specs.Takes.{Taken, char_taken}

-- the cursor at an offset and a place
abbrev pub cursor : Offset → Position → Cursor
cursor n p = record { at = n; place = p }

-- a character found at an offset is taken, and the place is then p
abbrev pub taken_on : Offset → Position → Look → Taken
taken_on at p (Some (c, w)) = char_taken c (cursor (at + w) p)
taken_on at p None = None

-- the next character taken, the place as it was
unfoldable pub get_next_of : Text → Cursor → Taken
get_next_of t c = taken_on c.at c.place (look_at t c.at)

-- the next character taken, one column on
unfoldable pub eat_next_of : Text → Cursor → Taken
eat_next_of t c = taken_on c.at (advanced c.place) (look_at t c.at)
