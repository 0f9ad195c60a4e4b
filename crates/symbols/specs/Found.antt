-- What is found where a symbol may begin.
use Rattle.std.specs.Prelude.{ℕ, Option, Some}

-- a symbol's token and its length in bytes, or nothing
abbrev pub Longest : Type 0
Longest = Option (ℕ × ℕ)

-- the symbol that is the token t, n bytes long
abbrev pub symbol_as : ℕ → ℕ → Longest
symbol_as t n = Some (t, n)
