-- What the three terminators of a string literal differ in: document 01, "Ordinary `"` (line continuation), `'` (none), text in backticks (verbatim, interpolation)".
use Rattle.std.specs.Prelude.{Bool, eqb}
use Rattle.basis.specs.Types.{Code}
use Rattle.classes.specs.Marks.{quote, backtick}

-- the Rust's `verbatim`: line feeds are kept, and there are no escapes
unfoldable pub is_verbatim : Code → Bool
is_verbatim q = eqb q backtick

-- the Rust's `allow_line_continuation`
unfoldable pub is_continued : Code → Bool
is_continued q = eqb q quote

-- the Rust's `allow_interpolation`
unfoldable pub is_interpolated : Code → Bool
is_interpolated q = eqb q backtick
