-- What a look at an offset of a text finds.
use Rattle.std.specs.Prelude.{ℕ, Option, Some}

-- a character: its code point and its width in bytes; None where none begins
abbrev pub Look : Type 0
Look = Option (ℕ × ℕ)

-- the character c, w bytes wide
abbrev pub char_found : ℕ → ℕ → Look
char_found c w = Some (c, w)
