-- The words of types/position.rs: Display and Debug for Position, Display for Span.
use Rattle.std.specs.Prelude.{Bool, true, false, ◌++◌, eqb, None, Some}
use Rattle.basis.specs.Types.{Text}
use Rattle.basis.specs.Pick.{pick, both, isnt}
use Rattle.basis.specs.Words.{word}
use Rattle.position.specs.declared.Position.{Position}
use Rattle.places.specs.Answer.{Coordinate}
use Rattle.span.specs.declared.Span.{Span}
use Rattle.display.specs.declared.Shown.{Shown}
use Rattle.position.specs.Place.{none, is_none, begins_line, line_number, column_number}
use Rattle.places.specs.Coordinates.{line_option}
use Rattle.span.specs.Spans.{span_start, span_end}
use Rattle.display.specs.Decimal.{decimal}

-- "3:7"
unfoldable pub colon_of : Position → Text
colon_of p = decimal (line_number p) ++ word ":" ++ decimal (column_number p)

-- "line 3, position 7"
unfoldable pub long_of : Position → Text
long_of p = word "line " ++ decimal (line_number p) ++ word ", position " ++ decimal (column_number p)

-- Display for Position: "none", "line 3, position 7"
unfoldable pub display_of : Position → Text
display_of p = pick (is_none p) (word "none") (long_of p)

-- Debug for Position: "none", "3", "3:7"
unfoldable pub debug_of : Position → Text
debug_of p =
    pick (is_none p) (word "none")
    (pick (begins_line p) (decimal (line_number p))
    (colon_of p))

-- the Rust's == of two Options
unfoldable pub same_option : Coordinate → Coordinate → Bool
same_option (Some n) (Some m) = eqb n m
same_option (Some n) None = false
same_option None (Some m) = false
same_option None None = true

-- two places on one line: "1:9-15"
unfoldable pub same_line : Position → Position → Text
same_line a b = colon_of a ++ word "-" ++ decimal (column_number b)

-- two places on two lines: "1:9-3:7"
unfoldable pub apart : Position → Position → Text
apart a b = debug_of a ++ word "-" ++ debug_of b

-- two places with a dash between, by whether their lines differ
unfoldable pub dashed : Position → Position → Text
dashed a b = pick (isnt (same_option (line_option a) (line_option b))) (apart a b) (same_line a b)

-- the match of Display for Span, its cases in their order
unfoldable pub between : Position → Position → Text
between a b =
    pick (both (is_none a) (is_none b)) (debug_of none)
    (pick (is_none a) (word ".." ++ debug_of b)
    (pick (is_none b) (debug_of a)
    (dashed a b)))

-- Display for Span
unfoldable pub span_of : Span → Text
span_of s = between (span_start s) (span_end s)

-- what is shown, in its words
unfoldable pub shown_of : Shown → Text
shown_of (Shown.Display p) = display_of p
shown_of (Shown.Debug p) = debug_of p
shown_of (Shown.Span s) = span_of s
