-- Worked examples of the words. Assumes nothing.
use mathlib.Core.Path.{◌≡◌, refl}
use Rattle.basis.specs.Words.{word}
use Rattle.position.specs.Place.{none, start, given, line_number, column_number, is_none, begins_line}
use Rattle.places.specs.Coordinates.{numbered, line_option}
use Rattle.span.specs.Spans.{new_span, no_span, span_start, span_end}
use Rattle.display.specs.Decimal.{digit, digits, decimal}
use Rattle.display.specs.Forms.{colon_of, long_of, display_of, debug_of, same_option, same_line, apart, dashed, between, span_of}

displays :
    (display_of none ≡ word "none")
    × (display_of start ≡ word "line 1, position 0")
    × (display_of (given 3 7) ≡ word "line 3, position 7")
    × (display_of (given 0 5) ≡ word "line 0, position 5")
    × (display_of (given 65535 10) ≡ word "line 65535, position 10")
unfolding display_of long_of line_number column_number none start given is_none digit digits decimal word
displays = (refl, refl, refl, refl, refl)

debugs :
    (debug_of none ≡ word "none")
    × (debug_of start ≡ word "1")
    × (debug_of (given 3 7) ≡ word "3:7")
    × (debug_of (given 0 5) ≡ word "0:5")
unfolding debug_of colon_of line_number column_number none start given is_none begins_line digit digits decimal word
debugs = (refl, refl, refl, refl)

spans :
    (span_of no_span ≡ word "none")
    × (span_of (new_span none (given 2 3)) ≡ word "..2:3")
    × (span_of (new_span (given 2 3) none) ≡ word "2:3")
    × (span_of (new_span (given 1 9) (given 3 7)) ≡ word "1:9-3:7")
    × (span_of (new_span start (given 2 0)) ≡ word "1-2")
    × (span_of (new_span (given 1 9) (given 1 15)) ≡ word "1:9-15")
    × (span_of (new_span start start) ≡ word "1:0-0")
unfolding
    span_of between same_line apart dashed same_option new_span no_span span_start span_end debug_of colon_of line_number column_number none start given is_none begins_line numbered line_option digit digits decimal word
spans = (refl, refl, refl, refl, refl, refl, refl)
