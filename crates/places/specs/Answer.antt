-- What is answered of a place.
use Rattle.std.specs.Prelude.{ℕ, Option, Result}
use Rattle.lex_error.specs.declared.LexError.{LexError}
use Rattle.position.specs.declared.Position.{Position}

-- a place, or the refusal
abbrev pub Placed : Type 0
Placed = Result Position LexError

-- a line or a column, as the Rust's Option<usize>
abbrev pub Coordinate : Type 0
Coordinate = Option ℕ
