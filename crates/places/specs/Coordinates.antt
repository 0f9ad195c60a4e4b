-- The numbers of a place as the Rust gives and takes them: `new`, `line` and `position` of types/position.rs.
use Rattle.std.specs.Prelude.{ℕ, eqb, Err, None, Ok, Some}
use Rattle.basis.specs.Pick.{pick}
use Rattle.lex_error.specs.declared.LexError.TheVariants.{BadArgument}
use Rattle.position.specs.Place.{given, line_number, column_number, is_none}
use Rattle.position.specs.declared.Position.{Position}
use Rattle.places.specs.Answer.{Placed}
use Rattle.places.specs.Answer.{Coordinate}

-- the Rust's `new`: line 0 is 3
unfoldable pub new_of : ℕ → ℕ → Placed
new_of l c = pick (eqb l 0) (Err BadArgument) (Ok (given l c))

-- a number of a place: NONE has none
unfoldable pub numbered : Position → ℕ → Coordinate
numbered p n = pick (is_none p) None (Some n)

-- the Rust's `line`
unfoldable pub line_option : Position → Coordinate
line_option p = numbered p (line_number p)

-- the Rust's `position`: none at the beginning of a line too
unfoldable pub position_option : Position → Coordinate
position_option p = pick (eqb (column_number p) 0) None (numbered p (column_number p))

-- the Rust's `unwrap_or`
unfoldable pub unwrap_or : Coordinate → ℕ → ℕ
unwrap_or (Some n) other = n
unwrap_or None other = other
