-- Moves with document 01's refusals: "Moving a place on line 0, or rewinding at column 0, is 3; the Rust panics".
use Rattle.std.specs.Prelude.{eqb, Err, Ok}
use Rattle.basis.specs.Pick.{pick}
use Rattle.lex_error.specs.declared.LexError.TheVariants.{BadArgument}
use Rattle.position.specs.Place.{on_line, column_number, advanced, lined, rewound}
use Rattle.position.specs.declared.Position.{Position}
use Rattle.places.specs.Answer.{Placed}

-- a move from one place to another: on line 0 it is 3
unfoldable pub moved : Position → Position → Placed
moved p q = pick (on_line p) (Ok q) (Err BadArgument)

-- the Rust's `advance`
unfoldable pub advance_of : Position → Placed
advance_of p = moved p (advanced p)

-- the Rust's `new_line`
unfoldable pub new_line_of : Position → Placed
new_line_of p = moved p (lined p)

-- the Rust's `rewind`: at column 0 it is 3 too
unfoldable pub rewind_of : Position → Placed
rewind_of p = pick (eqb (column_number p) 0) (Err BadArgument) (moved p (rewound p))
