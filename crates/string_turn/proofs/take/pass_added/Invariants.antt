-- What was passed so far, a byte a turn at the most: proofs/Passing.antt.
use Prim.Native.Nat.{◌+◌, ◌≤◌}
use Rattle.classes.specs.Marks.{backtick}
use Rattle.string_turn.specs.Passing.{StringPasses}
use Rattle.string_turn.proofs.take.pass_added.Given as goal

abbrev pub invariant-loop : goal.invariant-loop
invariant-loop l = StringPasses l.text backtick l.initial.here l.here × (l.here.at ≤ l.initial.here.at + l.counter)
