-- How a run over a script ends.
use Rattle.std.specs.Prelude.{Result}
use Rattle.position.specs.declared.Position.{Position}
use Rattle.fault.specs.declared.Fault.{Fault}

-- at the script's end, whose place it tells, or by a stop
abbrev pub Ending : Type 0
Ending = Result Position Fault
