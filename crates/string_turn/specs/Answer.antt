-- What a turn of a string literal's scan comes to, in its halves.
use Rattle.std.specs.Prelude.{ℕ, Option, Result}
use Rattle.std.specs.declared.ops.ControlFlow.{ControlFlow}
use Rattle.std.specs.declared.ops.ControlFlow.TheVariants.{Continue}
use Rattle.chars.specs.declared.cursor.Cursor.{Cursor}
use Rattle.literal.specs.declared.End.{End}
use Rattle.literal.specs.declared.Refusal.{Refusal}
use Rattle.string_turn.specs.declared.take.Scanning.{Scanning}

-- the offset of a lone backslash that is pending; None where none is
abbrev pub Pending : Type 0
Pending = Option ℕ

-- how a scan is over
abbrev pub Last : Type 0
Last = Result End Refusal

-- the character of a turn and the cursor behind it; or how the scan is over
abbrev pub Got : Type 0
Got = ControlFlow Last (ℕ × Cursor)

-- the character that is added, the offset and the state from which the scan goes on; or how it is over
abbrev pub Acted : Type 0
Acted = ControlFlow Last (ℕ × ℕ × Scanning)

-- the cursor from which a literal goes on; None where its terminator closes it
abbrev pub Closing : Type 0
Closing = Option Cursor

-- the character c, and the cursor behind it
abbrev pub got_char : ℕ → Cursor → Got
got_char c next = Continue (c, next)

-- the character c is added, and the scan goes on from an offset and a state
abbrev pub goes_with : ℕ → ℕ → Scanning → Acted
goes_with c at s = Continue (c, at, s)
