-- What a limit and a room leave of the reading from here is the whole answer: proofs/scan/Stands.antt.
use Prim.Native.Nat.{◌-◌}
use lib.ListN.{length}
use Rattle.raw.proofs.scan.Stands.{Stands}
use Rattle.raw.proofs.scan.Body.read.Given as goal

abbrev pub invariant-loop-c : goal.invariant-loop-c
invariant-loop-c l = Stands l.self.text.now l.start l.from l.self.k l.self.limit l.self.room l.s.here l.s.first l.held l.s.n

abbrev pub decreases-loop-c : goal.decreases-loop-c
decreases-loop-c l = length l.self.text.now - l.s.here.at
