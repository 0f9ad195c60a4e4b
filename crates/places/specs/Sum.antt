-- The sum of two places: document 01, "Position", and the Rust's Add for Position.
use Rattle.std.specs.Prelude.{ℕ, ◌+◌, ◌-◌, Bool, ltb, eqb, Err, Ok}
use Rattle.basis.specs.Pick.{pick, both}
use Rattle.lex_error.specs.declared.LexError.TheVariants.{BadSum}
use Rattle.position.specs.Place.{given, line_number, column_number, is_none, on_line}
use Rattle.position.specs.declared.Position.{Position}
use Rattle.places.specs.Answer.{Placed}

-- a sum passes 65,535 before its minus one
unfoldable pub sum_passes : ℕ → ℕ → Bool
sum_passes a b = ltb 65535 (a + b)

-- the columns on a line: column 0 on the right forms no sum
unfoldable pub sum_on : ℕ → ℕ → ℕ → Placed
sum_on line c d =
    pick (eqb d 0) (Ok (given line c))
    (pick (sum_passes c d) (Err BadSum)
    (Ok (given line (c + d - 1))))

-- the sum of two places on lines
unfoldable pub sum_lines : Position → Position → Placed
sum_lines p q =
    pick (sum_passes (line_number p) (line_number q)) (Err BadSum)
    (sum_on (line_number p + line_number q - 1) (column_number p) (column_number q))

-- the sum: NONE on the right gives the left; else 15 where a side is on line 0, or where a sum passes
unfoldable pub sum_of : Position → Position → Placed
sum_of p q =
    pick (is_none q) (Ok p)
    (pick (both (on_line p) (on_line q)) (sum_lines p q)
    (Err BadSum))
