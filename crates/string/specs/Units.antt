-- What is read at once: a doubled terminator, a whole escape, a backslash at the end of a line, a space that is skipped behind it, and in text a CR before LF and `\$` before `{`. Each adds one character or none.
use Rattle.utf8.specs.Looks.{char_found}
use Rattle.std.specs.Prelude.{ℕ, ◌+◌, ◌<◌, false, List, ◌⊎◌, ◌≡◌, length, None}
use Rattle.basis.specs.Types.{Code, Offset, Text}
use Rattle.position.specs.declared.Position.{Position}
use Rattle.position.specs.Place.{or_else, advanced}
use Rattle.utf8.specs.Table.{look_at}
use Rattle.literal.specs.Trace.{passes}
use Rattle.classes.specs.Marks.{quote, apostrophe, backtick}
use Rattle.string_turn.specs.Take.{scanning}
use Rattle.string_turn.specs.declared.take.Scanning.{Scanning}
use Rattle.string.specs.Limited.{GoesOn}
use Rattle.string.specs.declared.scan.Clear.{Clear}
use Rattle.string.specs.declared.scan.ScanStand.{ScanStand}
use Rattle.string.specs.declared.scan.Unit.{Unit}

-- one of the three terminators
abbrev pub TerminatorOf : Code → Type 0
TerminatorOf q = (q ≡ quote) ⊎ (q ≡ apostrophe) ⊎ (q ≡ backtick)

-- a character of one byte stands at an offset
pub record StandsAt (t : List ℕ) (at c : ℕ) : Type 0 where
  pub inside : at < length t
  pub is : look_at t at ≡ char_found c 1

-- the state of a scan with no escape pending, and where it stands
abbrev pub clear_state : Clear → Scanning
clear_state here = scanning here.place here.first None here.skip

abbrev pub clear_of : Offset → Scanning → ℕ → Clear
clear_of at s n = record { at = at; place = s.place; first = s.first; skip = s.skip; n = n }

abbrev pub stand_of : Clear → ScanStand
stand_of here = record { at = here.at; state = clear_state here; n = here.n }

-- the state behind what was read
abbrev pub unit_behind : Clear → Unit → Scanning
unit_behind here u = scanning u.place (or_else here.first (advanced here.place)) None u.skip

-- within a limit, the reading of a literal goes on behind it with its character added
abbrev pub Reads : Text → Code → Position → Clear → Unit → Type 0
Reads t q start here u = (limit : ℕ) → passes limit here.n ≡ false → GoesOn limit here.n t q start here.at (clear_state here) u.c (here.at + u.width) (unit_behind here u)

-- wherever the literal starts
abbrev pub ReadsAnywhere : Text → Code → Clear → Unit → Type 0
ReadsAnywhere t q here u = (start : Position) → Reads t q start here u
