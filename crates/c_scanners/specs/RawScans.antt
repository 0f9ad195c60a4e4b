-- The scans of a raw literal from a line and a column given as numbers, for the C names; `out` is the memory lent for the body.
use Rattle.std.specs.Prelude.{ℕ, length}
use Rattle.basis.specs.Types.{Text, Bytes, Offset}
use Rattle.position.specs.Place.{given}
use Rattle.literal.specs.Trace.{Trace}
use Rattle.literal.specs.Scans.{Scanned}
use Rattle.raw.specs.Raw.{as_source}
use Rattle.raw.specs.Entries.{parse_trace, parse_of, resume_trace, resume_of}

-- entered after the first hash: the reading, and the answer
unfoldable pub raw_parsing : Text → Offset → ℕ → ℕ → Trace
raw_parsing t at l c = parse_trace as_source t at (given l c)

unfoldable pub raw_parsed : Text → Offset → ℕ → ℕ → ℕ → Bytes → Scanned
raw_parsed t at l c limit out = parse_of as_source t at (given l c) limit (length out)

-- resumed with a hash count: the same
unfoldable pub raw_resuming : Text → Offset → ℕ → ℕ → ℕ → Trace
raw_resuming t at l c k = resume_trace as_source t at (given l c) k

unfoldable pub raw_resumed : Text → Offset → ℕ → ℕ → ℕ → ℕ → Bytes → Scanned
raw_resumed t at l c k limit out = resume_of as_source t at (given l c) k limit (length out)
