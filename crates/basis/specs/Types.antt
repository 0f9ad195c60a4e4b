-- What a list or a number of a definition stands for. Each name is the type itself: nothing has to be converted.
use Rattle.std.specs.Prelude.{ℕ, List}

-- a text, as its bytes
abbrev pub Text : Type 0
Text = List ℕ

-- bytes that are no text: a word book, or memory that is lent
abbrev pub Bytes : Type 0
Bytes = List ℕ

-- a character, by its code point
abbrev pub Code : Type 0
Code = ℕ

-- where something stands in bytes, counted from 0
abbrev pub Offset : Type 0
Offset = ℕ
