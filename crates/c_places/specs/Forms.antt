-- The words of places, chosen by a number, for the C name.
use Rattle.std.specs.Prelude.{ℕ, eqb}
use Rattle.basis.specs.Types.{Text}
use Rattle.basis.specs.Pick.{pick}
use Rattle.position.specs.Place.{given}
use Rattle.position.specs.declared.Position.{Position}
use Rattle.span.specs.Spans.{new_span}
use Rattle.display.specs.declared.Shown.{Shown}
use Rattle.display.specs.Forms.{shown_of}

-- 0: Display of the first place; 1: Debug of it; any other: Display of the span between the two
unfoldable pub form_of : ℕ → Position → Position → Shown
form_of form p q = pick (eqb form 0) (Shown.Display p) (pick (eqb form 1) (Shown.Debug p) (Shown.Span (new_span p q)))

-- the words of two lines and columns
unfoldable pub words_of : ℕ → ℕ → ℕ → ℕ → ℕ → Text
words_of form l c m d = shown_of (form_of form (given l c) (given m d))
