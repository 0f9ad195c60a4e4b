-- What a turn under a limit comes to.
use Rattle.std.specs.Prelude.{ℕ}
use Rattle.std.specs.declared.ops.ControlFlow.{ControlFlow}
use Rattle.std.specs.declared.ops.ControlFlow.TheVariants.{Continue}
use Rattle.literal.specs.Scans.{Scanned}
use Rattle.string_turn.specs.declared.take.Scanning.{Scanning}

-- as Acted, or the answer
abbrev pub LimitedTurn : Type 0
LimitedTurn = ControlFlow Scanned (ℕ × ℕ × Scanning)

-- the character c is added, and the scan goes on from an offset and a state
abbrev pub turned_to : ℕ → ℕ → Scanning → LimitedTurn
turned_to c at s = Continue (c, at, s)
