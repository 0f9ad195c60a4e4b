-- The scan of a string literal from a line and a column given as numbers, for the C name; `out` is the memory lent for the body, and q the terminator.
use Rattle.std.specs.Prelude.{ℕ, length}
use Rattle.basis.specs.Types.{Text, Bytes, Code, Offset}
use Rattle.position.specs.Place.{given}
use Rattle.literal.specs.Trace.{Trace}
use Rattle.literal.specs.Scans.{Scanned}
use Rattle.string.specs.Entry.{string_trace, scan_of}

-- the reading, and the answer
unfoldable pub string_parsing : Text → Offset → ℕ → ℕ → Code → Trace
string_parsing t at l c q = string_trace t at (given l c) q

unfoldable pub string_parsed : Text → Offset → ℕ → ℕ → Code → ℕ → Bytes → Scanned
string_parsed t at l c q limit out = scan_of t at (given l c) q limit (length out)
