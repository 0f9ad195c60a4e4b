-- What a scan of a literal answers with: document 01, "for 1, 2, 3 and 9 offset and position are those given and nothing is on record".
use Rattle.lex_error.specs.declared.LexError.{LexError}
use Rattle.std.specs.Prelude.{ℕ, Bool}
use Rattle.basis.specs.Types.{Code}
use Rattle.position.specs.declared.Position.{Position}
use Rattle.fault.specs.declared.Fault.{Fault}
use Rattle.fault.specs.Faults.{fault, string_too_long, no_literal_room}
use Rattle.chars.specs.declared.cursor.Cursor.{Cursor}
use Rattle.literal.specs.declared.Terminator.{Terminator}
use Rattle.literal.specs.declared.End.{End}
use Rattle.literal.specs.declared.Refusal.{Refusal}

-- nothing is on record
abbrev pub nothing : Terminator
nothing = record { c = 0; times = 0 }

-- a terminator is on record
abbrev pub once : Code → Terminator
once q = record { c = q; times = 1 }

-- an accepted literal: the cursor, the first place, the record, and whether `${` ended it
abbrev pub ending : Cursor → Position → Terminator → Bool → End
ending here first r i = record { cursor = here; first = first; on_record = r; interpolated = i }

-- a refusal: the fault, the cursor where it was found, and what is on record then
abbrev pub refusal : Fault → Cursor → Terminator → Refusal
refusal f here r = record { fault = f; cursor = here; on_record = r }

-- 1, 2, 3 or 9: all as it was given
abbrev pub as_given : LexError → Cursor → Refusal
as_given e start = refusal (fault e start.place) start nothing

-- 9
abbrev pub full : Cursor → Refusal
full start = refusal (no_literal_room start.place) start nothing

-- 7, at the literal's start, with what is on record
abbrev pub too_long : Position → Cursor → Terminator → Refusal
too_long start here r = refusal (string_too_long start) here r
