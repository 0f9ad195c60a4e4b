-- What hex digits come to.
use Rattle.std.specs.Prelude.{ℕ, Result, Ok}
use Rattle.chars.specs.declared.cursor.Cursor.{Cursor}

-- the number that they make and the cursor behind them, or the cursor where they fail
abbrev pub Digits : Type 0
Digits = Result (ℕ × Cursor) Cursor

-- the number v, and the cursor behind its digits
abbrev pub valued : ℕ → Cursor → Digits
valued v c = Ok (v, c)
