-- What is kept aside of a string literal as it is measured: a short body, so that it need not be read again.
use Rattle.literal.specs.Scans.{accepted_as}
use Rattle.std.specs.Prelude.{ℕ, ◌≤◌, List, ◌≡◌, length}
use Rattle.basis.specs.Types.{Bytes, Text}
use Rattle.basis.specs.Store.{over}
use Rattle.classes.specs.Marks.{hash}
use Rattle.chars.specs.declared.cursor.Cursor.{Cursor}
use Rattle.literal.specs.Trace.{bytes}
use Rattle.find.specs.declared.Opener.{Opener}
use Rattle.reading.specs.CutRun.{scanned}
use Rattle.script.specs.Rules.{document01}
use Rattle.script.specs.Steps.{literal_trace}
use Rattle.turn.specs.declared.Read.{Read}
use Rattle.turn.specs.declared.Room.{Room}

-- a body of 128 bytes at the most stands in front
abbrev pub Holds : Bytes → Bytes → Type 0
Holds body aside = length body ≤ 128 → aside ≡ over body aside

-- that of a literal which is no raw one
abbrev pub Aside : Text → Opener → Cursor → Bytes → Type 0
Aside t o from aside = (o.terminator ≡ hash → ⊥) → Holds (bytes (literal_trace document01 t o from)) aside

-- a literal that its scan accepts within the room, and the memory that it may go to
pub record Ready (t : List ℕ) (room : Room) (read : Read) (aside literals : List ℕ) : Type 0 where
  pub inside : read.from.at ≤ length t
  pub lent : room.bounds.literals ≡ length literals
  pub used : room.used ≤ length literals
  pub accepted : scanned room.bounds room.used read.from (literal_trace document01 t read.opener read.from) ≡ accepted_as read.end read.len
  pub kept : Aside t read.opener read.from aside
