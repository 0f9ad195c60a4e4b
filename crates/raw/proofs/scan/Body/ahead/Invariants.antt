-- One thing passed behind the other: proofs/scan/Passing.antt.
use Prim.Native.Nat.{◌-◌}
use Rattle.raw.specs.Step.{BodyPasses}
use Rattle.raw.proofs.scan.Body.ahead.Given as goal

abbrev pub invariant-loop-next : goal.invariant-loop-next
invariant-loop-next l = BodyPasses l.self.text.now l.self.k l.self.limit l.self.room 0 l.initial.s l.s

abbrev pub decreases-loop-next : goal.decreases-loop-next
decreases-loop-next l = l.self.room - l.s.n
