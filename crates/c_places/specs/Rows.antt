-- What the source says of a place, and of two, and what it keeps of token ends, as rows of numbers, for the C names.
use Rattle.std.specs.Prelude.{ℕ, List, [], ◌∷◌}
use Rattle.numbers.specs.Answer.{flag}
use Rattle.c_answer.specs.Packed.{packed}
use Rattle.position.specs.Place.{given, begins_line, is_none, or_else}
use Rattle.places.specs.Coordinates.{new_of, line_option, position_option}
use Rattle.places.specs.Moves.{advance_of, rewind_of, new_line_of}
use Rattle.places.specs.Sum.{sum_of}
use Rattle.span.specs.Spans.{new_span, span_start, span_end, is_no_span}
use Rattle.position.specs.declared.Position.{Position}
use Rattle.token_ends.specs.Ends.{record_token_of}
use Rattle.token_ends.specs.Told.{Told, told}
use Rattle.token_ends.specs.declared.TokenEnds.{TokenEnds}
use Rattle.c_places.specs.PlaceNumbers.{placed_as_number, coordinate_as_number}

-- of a line and a column: the new place; the line, the column and the two tests of the place that they are; where its moves lead
unfoldable pub place_row : ℕ → ℕ → List ℕ
place_row l c =
    placed_as_number (new_of l c)
    ∷ coordinate_as_number (line_option (given l c))
    ∷ coordinate_as_number (position_option (given l c))
    ∷ flag (begins_line (given l c))
    ∷ flag (is_none (given l c))
    ∷ placed_as_number (advance_of (given l c))
    ∷ placed_as_number (rewind_of (given l c))
    ∷ placed_as_number (new_line_of (given l c))
    ∷ []

-- of two places: the one or else the other, and their sum; the first, the last and the test of the span between them
unfoldable pub pair_row : Position → Position → List ℕ
pair_row p q =
    packed (or_else p q)
    ∷ placed_as_number (sum_of p q)
    ∷ packed (span_start (new_span p q))
    ∷ packed (span_end (new_span p q))
    ∷ flag (is_no_span (new_span p q))
    ∷ []

-- the same of two lines and columns
unfoldable pub places_row : ℕ → ℕ → ℕ → ℕ → List ℕ
places_row l c m d = pair_row (given l c) (given m d)

-- of what is recorded: the number; the last end, and the one before it
abbrev pub end_numbers : Told → List ℕ
end_numbers t = t.number ∷ packed t.last ∷ packed t.previous ∷ []

-- two ends, each by its line and its column: the last one, and the one before it
abbrev pub ends_given : ℕ → ℕ → ℕ → ℕ → TokenEnds
ends_given l c m d = record { last = given l c; previous = given m d }

-- of a token that ends at a line and a column, and the ends that it finds
unfoldable pub record_row : ℕ → ℕ → ℕ → TokenEnds → List ℕ
record_row token l c e = end_numbers (told (record_token_of e token (given l c)))
