-- Spans: a first and a last place, the type Span of types/position.rs.
use Rattle.std.specs.Prelude.{Bool}
use Rattle.basis.specs.Pick.{both}
use Rattle.position.specs.Place.{none, is_none}
use Rattle.position.specs.declared.Position.{Position}
use Rattle.span.specs.declared.Span.{Span}

-- the span between two places: the Rust's `new`
unfoldable pub new_span : Position → Position → Span
new_span a b = record { start = a; end = b }

-- no span: the Rust's NONE
unfoldable pub no_span : Span
no_span = new_span none none

-- the Rust's `start`
unfoldable pub span_start : Span → Position
span_start s = s.start

-- the Rust's `end`
unfoldable pub span_end : Span → Position
span_end s = s.end

-- the Rust's `is_none`
unfoldable pub is_no_span : Span → Bool
is_no_span s = both (is_none s.start) (is_none s.end)
