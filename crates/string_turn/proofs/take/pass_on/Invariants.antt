-- What was passed so far, and so many bytes are left: proofs/Passing.antt.
use Prim.Native.Nat.{◌+◌}
use mathlib.Core.Path.{◌≡◌}
use Rattle.classes.specs.Marks.{backtick}
use Rattle.string_turn.specs.Passing.{StringPasses}
use Rattle.string_turn.proofs.take.pass_on.Given as goal

abbrev pub invariant-loop-here : goal.invariant-loop-here
invariant-loop-here l = StringPasses l.text backtick l.initial.here l.here × (l.here.at + l.left ≡ l.initial.here.at + l.most)

abbrev pub decreases-loop-here : goal.decreases-loop-here
decreases-loop-here l = l.left
