-- What is to be said of a literal that its scan accepts.
use Rattle.std.specs.Prelude.{Result, Ok}
use Rattle.fault.specs.declared.Fault.{Fault}

-- nothing, or what is wrong with it in a run
abbrev pub Verdict : Type 0
Verdict = Result (Unit {0}) Fault

-- nothing is wrong
abbrev pub all_fine : Verdict
all_fine = Ok tt
