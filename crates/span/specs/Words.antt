-- What std's `{}` prints of a span, and its `{:?}` too: Display and Debug of types/position.rs.
use Rattle.std.specs.Prelude.{List, ℕ, ◌++◌, eqb, codes, decimal}
use Rattle.basis.specs.Pick.{pick}
use Rattle.position.specs.Place.{line_number, column_number, is_none}
use Rattle.position.specs.Words.{debug_words}
use Rattle.position.specs.declared.Position.{Position}
use Rattle.span.specs.Spans.{span_start, span_end}
use Rattle.span.specs.declared.Span.{Span}

-- two places that are not NONE: "1:9-15" on one line, "1:9-3:7" on two
abbrev pub words_apart : Position → Position → List ℕ
words_apart a b =
    pick (eqb (line_number a) (line_number b))
    (decimal (line_number a) ++ codes ":" ++ decimal (column_number a) ++ codes "-" ++ decimal (column_number b))
    (debug_words a ++ codes "-" ++ debug_words b)

-- up to NONE the start alone, "2:3", and from NONE the end alone, "..2:3"
abbrev pub span_words : Span → List ℕ
span_words s =
    pick (is_none (span_end s)) (debug_words (span_start s))
    (pick (is_none (span_start s)) (codes ".." ++ debug_words (span_end s))
    (words_apart (span_start s) (span_end s)))
