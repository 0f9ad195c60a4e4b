-- What a scan of an identifier answers.
use Rattle.entry.specs.declared.kinds.Kind.{Kind}
use Rattle.std.specs.Prelude.{ℕ, Option, Result, Some, Err}
use Rattle.chars.specs.declared.cursor.Cursor.{Cursor}
use Rattle.fault.specs.declared.Fault.{Fault}
use Rattle.identifier.specs.declared.scan.Word.{Word}

-- the kind and the token of a text; None where it is no identifier
abbrev pub Class : Type 0
Class = Option (Kind × ℕ)

-- a word, or the fault with the cursor that the scan had reached
abbrev pub Identified : Type 0
Identified = Result Word (Fault × Cursor)

-- the kind k and the token t
abbrev pub classed : Kind → ℕ → Class
classed k t = Some (k, t)

-- a fault, the scan standing at a cursor
abbrev pub refused_at : Fault → Cursor → Identified
refused_at f c = Err (f, c)
