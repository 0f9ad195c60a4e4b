-- What the opening of a raw literal leads to.
use Rattle.std.specs.Prelude.{ℕ, Result, Ok}
use Rattle.chars.specs.declared.cursor.Cursor.{Cursor}
use Rattle.literal.specs.declared.Refusal.{Refusal}

-- the body, which so many hashes close, at a cursor; or a refusal
abbrev pub Opened : Type 0
Opened = Result (ℕ × Cursor) Refusal

-- the body at a cursor, which k hashes close
abbrev pub opened_as : ℕ → Cursor → Opened
opened_as k from = Ok (k, from)
