-- Spans in and out, for crates above that never look inside one.
-- Assumes nothing.
use mathlib.Core.Bool.{true}
use mathlib.Core.Path.{◌≡◌, refl}
use Rattle.position.specs.Place.{none, is_none}
use Rattle.span.specs.Spans.{new_span, no_span, span_start, span_end, is_no_span}
use Rattle.position.specs.declared.Position.{Position}
use Rattle.span.specs.declared.Span.{Span}

module _ (a b : Position) where
  pub start_new : span_start (new_span a b) ≡ a
  unfolding span_start new_span
  start_new = refl

  pub end_new : span_end (new_span a b) ≡ b
  unfolding span_end new_span
  end_new = refl

-- a span is its two places
pub new_whole : (s : Span) → new_span (span_start s) (span_end s) ≡ s
unfolding span_start span_end new_span
new_whole s = refl

-- no span is none
pub no_span_lem : is_no_span no_span ≡ true
unfolding is_no_span no_span new_span none is_none
no_span_lem = refl
